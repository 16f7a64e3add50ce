-- The items of a sequence are collected on a stack, and put before an end.
use Rattle.std.proofs.Common.{◌≡◌, ◌∙◌, ap, ap₂, sym, refl, subst, ℕ, ◌<◌, Bool, List, [], ◌∷◌, ◌++◌, length, append-nil}
use Rattle.std.proofs.lemmas.List.{map-append}
use Rattle.cd_model.specs.Thing.{Thing, Pair}
use Rattle.cd_meaning.specs.Sequences.{followed_by}
use Rattle.cd_cells.specs.declared.cell.ValueId.{ValueId}
use Rattle.cd_cells.specs.declared.values.Values.{Values}
use Rattle.cd_cells.specs.Cells.{thing_at}
use Rattle.cd_cells.specs.Table.{table, IsAt, Grows}
use Rattle.cd_operations.specs.Along.{items_along}
use Rattle.cd_operations.specs.Pairs.{is_empty}
use Rattle.cd_operations.specs.Inner.Joins.{IsAnswer, things_of, AreWithin, Collects}
use Rattle.cd_cells.proofs.GrownTables.{further, within_grown, thing_grown}
use Rattle.cd_operations.proofs.ItemsAlong.{at_end}

within_before : (bound : ℕ) (ids : List ValueId) (last : ValueId) → AreWithin bound (ids ++ last ∷ [])
    → AreWithin bound ids × (last.0 < bound)
within_before bound [] last are = (tt, are.0)
within_before bound (id ∷ ids) last are =
    let rest = within_before bound ids last are.1 in ((are.0, rest.0), rest.1)

-- the items so far are on the stack
pub record IsCollecting (table : List Thing) (v : Thing) (rest : ℕ) (ids : List ValueId) : Type 0 where
  pub rest_within : rest < length table
  pub within : AreWithin (length table) ids
  pub goes : things_of table ids ++ items_along (thing_at table rest) ≡ items_along v
  pub leads : (is : Bool) → IsAnswer (thing_at table rest) is → IsAnswer v is

pub collected : (table : List Thing) (v : Thing) (rest : ℕ) (ids : List ValueId) (is : Bool) → IsCollecting table v rest ids
    → items_along (thing_at table rest) ≡ [] → is ≡ is_empty (thing_at table rest) → Collects table v ids is
collected table v rest ids is so_far none same = record {
  within = so_far.within;
  are = sym (append-nil (things_of table ids)) ∙ ap (λ later. things_of table ids ++ later) (sym none) ∙ so_far.goes;
  answer = so_far.leads is (subst (IsAnswer (thing_at table rest)) (sym same) (at_end (thing_at table rest) none));
}

things_grown : (old new : Values) → Grows old new → (ids : List ValueId) → AreWithin (length (table old)) ids
    → things_of (table new) ids ≡ things_of (table old) ids
things_grown old new grows [] are = refl
things_grown old new grows (id ∷ ids) are =
    ap₂ (λ one rest. one ∷ rest) (thing_grown old new grows id.0 are.0) (things_grown old new grows ids are.1)

all_within_grown : (old new : Values) → Grows old new → (ids : List ValueId) → AreWithin (length (table old)) ids
    → AreWithin (length (table new)) ids
all_within_grown old new grows [] are = tt
all_within_grown old new grows (id ∷ ids) are =
    (within_grown old new grows id.0 are.0, all_within_grown old new grows ids are.1)

followed_last : (ds : List Thing) (d end : Thing) → followed_by (ds ++ d ∷ []) end ≡ followed_by ds (Pair d end)
followed_last [] d end = refl
followed_last (first ∷ ds) d end = ap (Pair first) (followed_last ds d end)

-- these are left on the stack, and those after them stand before the end
pub record IsPutting (old : Values) (ids : List ValueId) (end : ℕ) (now : Values) (left : List ValueId) (made : ℕ) : Type 0 where
  pub left_within : AreWithin (length (table now)) left
  pub made_within : made < length (table now)
  pub goes : followed_by (things_of (table now) left) (thing_at (table now) made)
      ≡ followed_by (things_of (table old) ids) (thing_at (table old) end)
  pub grows : Grows old now

-- the last one is taken off
module _ (old one : Values) (ids : List ValueId) (end : ℕ) (stack left : List ValueId) (made : ℕ) (top : ValueId)
    (popped : stack ≡ left ++ top ∷ []) (putting : IsPutting old ids end one stack made) where
  still : IsPutting old ids end one (left ++ top ∷ []) made
  still = subst (λ (all : List ValueId). IsPutting old ids end one all made) popped putting

  pub puts_on : (two : Values) (id : ℕ) → Grows one two
      → IsAt (table two) id (Pair (thing_at (table one) top.0) (thing_at (table one) made)) → IsPutting old ids end two left id
  puts_on two id grows at =
      let are = (within_before (length (table one)) left top still.left_within).0 in
      record {
        left_within = all_within_grown one two grows left are;
        made_within = at.within;
        goes =
            let made_thing = thing_at (table one) made in
            ap₂ followed_by (things_grown one two grows left are) at.is
            ∙ sym (followed_last (things_of (table one) left) (thing_at (table one) top.0) made_thing)
            ∙ ap (λ things. followed_by things made_thing) (sym (map-append (λ (id : ValueId). thing_at (table one) id.0) left (top ∷ [])))
            ∙ still.goes;
        grows = further old one two still.grows grows;
      }
