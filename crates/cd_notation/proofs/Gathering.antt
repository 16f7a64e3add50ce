-- The items of a form become pairs, the last one first.
use Rattle.std.proofs.Common.{◌≡◌, ◌∙◌, ap, subst, sym, refl, length-append, arith, ℕ, ◌<◌, ◌≤◌, List, [], ◌∷◌, ◌++◌, length}
use Rattle.cd_model.specs.Thing.{Thing, Pair}
use Rattle.cd_documents.specs.Machine.{pairs}
use Rattle.cd_cells.specs.declared.values.Values.{Values}
use Rattle.cd_cells.specs.declared.cell.ValueId.{ValueId}
use Rattle.cd_cells.specs.Cells.{thing_at}
use Rattle.cd_cells.specs.Table.{table, IsAt, Grows}
use Rattle.cd_cells.proofs.TableGrows.{last_at}
use Rattle.cd_notation.specs.Inner.Open as the
use Rattle.cd_notation.specs.Inner.Open.{AreAt, IsTop, HasItems}
use Rattle.cd_notation.specs.Inner.Leading.{IsGathered}
use Rattle.cd_cells.proofs.GrownTables.{further, itself}
use Rattle.cd_notation.proofs.Growth.{items_grown}

-- the item on the top of a form
pub record HasFirst (table : List Thing) (from : ℕ) (first : ValueId) (items below : List ValueId) (values : List Thing) : Type 0 where
  pub value : Thing
  pub rest : List Thing
  pub is : values ≡ value ∷ rest
  pub at : IsAt table first.0 value
  pub others : HasItems table from items below rest

pub first_of : (table : List Thing) (from : ℕ) (first : ValueId) (items below : List ValueId) (values : List Thing) → from < length (first ∷ items)
    → HasItems table from (first ∷ items) below values → HasFirst table from first items below values
first_of table from first items below values more has = by has.top values has.is.is has.is.under has.at
  where
    by : (top : List ValueId) (values : List Thing) → first ∷ items ≡ top ++ below → from ≡ length below → AreAt table top values
        → HasFirst table from first items below values
    by _ _ is under the.AreAt.none = absurd (omega (arith, more, under, ap length is))
    by _ _ is under (the.AreAt.one id value ids values at are) =
        let same : first ≡ id = cc is in
        record {
          value = value;
          rest = values;
          is = refl;
          at = subst (λ (one : ValueId). IsAt table one.0 value) (sym same) at;
          others = record { top = ids; is = record { is = cc is; under = under }; at = are };
        }

-- no item is left
pub record HasNone (items below : List ValueId) (values : List Thing) : Type 0 where
  pub left : items ≡ below
  pub none : values ≡ []

pub none_of : (table : List Thing) (from : ℕ) (items below : List ValueId) (values : List Thing) → length items ≤ from
    → HasItems table from items below values → HasNone items below values
none_of table from items below values less has = by has.top values has.is.is has.is.under has.at
  where
    by : (top : List ValueId) (values : List Thing) → items ≡ top ++ below → from ≡ length below → AreAt table top values → HasNone items below values
    by _ _ is under the.AreAt.none = record { left = is; none = refl }
    by _ _ is under (the.AreAt.one id value ids values at are) =
        absurd (omega (arith, less, under, ap length is, length-append ids below))

pub record StillGathers (table : List Thing) (from : ℕ) (items below : List ValueId) (end : ℕ) (made : Thing) : Type 0 where
  pub all : List Thing
  pub last : Thing
  pub has : HasItems table from items below all
  pub at : IsAt table end last
  pub makes : pairs all last ≡ made

pub record IsGathering (old : Values) (from : ℕ) (old_items : List ValueId) (old_end : ℕ) (now : Values) (items : List ValueId) (end : ℕ) : Type 0 where
  pub going : (below : List ValueId) (all : List Thing) (last : Thing) → HasItems (table old) from old_items below all → IsAt (table old) old_end last
      → StillGathers (table now) from items below end (pairs all last)
  pub grows : Grows old now

pub gathering_starts : (values : Values) (from : ℕ) (items : List ValueId) (end : ℕ) → IsGathering values from items end values items end
gathering_starts values from items end = record {
  going = λ below all last has at. record { all = all; last = last; has = has; at = at; makes = refl };
  grows = itself values;
}

pub still_on : (old new : Values) (from : ℕ) (first : ValueId) (items below : List ValueId) (end id : ℕ) (made : Thing) → Grows old new
    → table new ≡ table old ++ Pair (thing_at (table old) first.0) (thing_at (table old) end) ∷ [] → id ≡ length (table old)
    → from < length (first ∷ items) → StillGathers (table old) from (first ∷ items) below end made → StillGathers (table new) from items below id made
still_on old new from first items below end id made grows is last more still =
    let top = first_of (table old) from first items below still.all more still.has in
    let pair : Pair (thing_at (table old) first.0) (thing_at (table old) end) ≡ Pair top.value still.last = cc (top.at.is, still.at.is) in
    record {
      all = top.rest;
      last = Pair top.value still.last;
      has = items_grown old new grows from items below top.rest top.others;
      at = last_at (table old) (table new) id (Pair top.value still.last) (is ∙ ap (λ (one : Thing). table old ++ one ∷ []) pair) last;
      makes = ap (λ all. pairs all still.last) (sym top.is) ∙ still.makes;
    }

pub gathers_on : (old one two : Values) (from : ℕ) (old_items before : List ValueId) (old_end end id : ℕ) (first : ValueId) (items : List ValueId)
    → Grows one two → table two ≡ table one ++ Pair (thing_at (table one) first.0) (thing_at (table one) end) ∷ [] → id ≡ length (table one)
    → from < length before → before ≡ first ∷ items
    → IsGathering old from old_items old_end one before end → IsGathering old from old_items old_end two items id
gathers_on old one two from old_items before old_end end id first items grows is last more popped so_far = record {
  going = λ below all final has at.
      still_on one two from first items below end id (pairs all final) grows is last (subst (λ (list : List ValueId). from < length list) popped more)
      (subst (λ (list : List ValueId). StillGathers (table one) from list below end (pairs all final)) popped (so_far.going below all final has at));
  grows = further old one two so_far.grows grows;
}

pub gathered : (old now : Values) (from : ℕ) (old_items items : List ValueId) (old_end end : ℕ) → IsGathering old from old_items old_end now items end
    → length items ≤ from → IsGathered (table old) from old_items old_end (table now) items end
gathered old now from old_items items old_end end so_far less below all last has at =
    let still = so_far.going below all last has at in
    let none = none_of (table now) from items below still.all less still.has in
    (none.left, subst (λ (made : Thing). IsAt (table now) end made) (sym (ap (λ (all : List Thing). pairs all still.last) none.none) ∙ still.makes) still.at)

-- the numbers are those of the table
abbrev pub CanGather : Values → (from : ℕ) → List ValueId → Type 0
CanGather values from items = (below : List ValueId) × (all : List Thing) × HasItems (table values) from items below all

pub end_within : (old now : Values) (from : ℕ) (old_items items : List ValueId) (old_end end : ℕ) → IsGathering old from old_items old_end now items end
    → CanGather old from old_items → old_end < length (table old) → end < length (table now)
end_within old now from old_items items old_end end so_far can within =
    (so_far.going can.0 can.1 (thing_at (table old) old_end) can.2 record { within = within; is = refl }).at.within

pub top_within : (old now : Values) (from : ℕ) (old_items before items : List ValueId) (old_end end : ℕ) (first : ValueId) → IsGathering old from old_items old_end now before end
    → CanGather old from old_items → old_end < length (table old) → from < length before → before ≡ first ∷ items → first.0 < length (table now)
top_within old now from old_items before items old_end end first so_far can within more popped =
    let still = so_far.going can.0 can.1 (thing_at (table old) old_end) can.2 record { within = within; is = refl } in
    let has : HasItems (table now) from (first ∷ items) can.0 still.all =
    subst (λ (list : List ValueId). HasItems (table now) from list can.0 still.all) popped still.has in
    (first_of (table now) from first items can.0 still.all (subst (λ (list : List ValueId). from < length list) popped more) has).at.within

pub first_at : (table : List Thing) (from : ℕ) (first : ValueId) (before items below : List ValueId) (values : List Thing) → from < length before → before ≡ first ∷ items
    → HasItems table from before below values → HasFirst table from first items below values
first_at table from first before items below values more popped has =
    first_of table from first items below values (subst (λ (list : List ValueId). from < length list) popped more)
    (subst (λ (list : List ValueId). HasItems table from list below values) popped has)
