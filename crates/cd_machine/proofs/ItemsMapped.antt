-- The items that are left of a sequence.
use Rattle.std.proofs.Common.{◌≡◌, ◌<◌, ℕ, Bool, true, false, List, [], ◌∷◌, length, Option, Some, None, if◌then◌else◌, sym, ap, subst, ◌∙◌, arith}
use Rattle.cd_model.specs.Thing.{Thing, Pair}
use Rattle.cd_matching.specs.Sequences.{items}
use Rattle.cd_program.specs.Expr.{Branches}
use Rattle.cd_cells.specs.Cells.{thing_at}
use Rattle.cd_cells.specs.Table.{table, Grows, IsAt}
use Rattle.cd_cells.specs.declared.cell.ValueId.{ValueId}
use Rattle.cd_cells.specs.declared.values.Values.{Values}
use Rattle.cd_evaluation.specs.Environment.{Env}
use Rattle.cd_evaluation.specs.Code.{Code}
use Rattle.cd_operations.specs.Along.{items_along}
use Rattle.cd_operations.specs.Pairs.{IsPairAt}
use Rattle.cd_machine.specs.Inner.Resuming.{Maps, MapsOn, Sifts, SiftsOn}
use Rattle.cd_machine.specs.Inner.Turn as turn
use Rattle.cd_cells.proofs.GrownTables.{thing_grown, further}

-- the first of them, in a table that has grown
pub first_item : (old new : Values) → Grows old new → (left : ℕ) (parts : ValueId × ValueId) → left < length (table old) → IsPairAt (table old) left parts
    → items_along (thing_at (table new) left) ≡ thing_at (table new) parts.0.0 ∷ items_along (thing_at (table new) parts.1.0)
first_item old new grows left parts within is =
    let here = thing_grown old new grows left within in
    let first = thing_grown old new grows parts.0.0 (omega (arith, is.first)) in
    let rest = thing_grown old new grows parts.1.0 (omega (arith, is.rest)) in
    ap items_along (here ∙ is.is) ∙ ap (λ v. v ∷ items_along (thing_at (table old) parts.1.0)) (sym first)
    ∙ ap (λ w. thing_at (table new) parts.0.0 ∷ items_along w) (sym rest)

-- an item that was put before others, in a table that has grown since
pub item_before : (old middle new : Values) → Grows old middle → Grows middle new → (one rest pair : ℕ) → one < length (table old) → rest < length (table old)
    → IsAt (table middle) pair (Pair (thing_at (table old) one) (thing_at (table old) rest))
    → items_along (thing_at (table new) pair) ≡ thing_at (table new) one ∷ items_along (thing_at (table new) rest)
item_before old middle new first second one rest pair is_one is_rest at =
    let grows = further old middle new first second in
    ap items_along (thing_grown middle new second pair at.within ∙ at.is)
    ∙ ap (λ (v : Thing). v ∷ items_along (thing_at (table old) rest)) (sym (thing_grown old new grows one is_one))
    ∙ ap (λ (w : Thing). thing_at (table new) one ∷ items_along w) (sym (thing_grown old new grows rest is_rest))

-- whether a thing is a sequence
pub is_list : (v : Thing) (found : Bool) → items v ≡ (if found then Some (items_along v) else None) → found ≡ true → items v ≡ Some (items_along v)
is_list v found is same = is ∙ ap (λ found. if found then Some (items_along v) else None) same

pub is_no_list : (v : Thing) (found : Bool) → items v ≡ (if found then Some (items_along v) else None) → found ≡ false → items v ≡ None
is_no_list v found is same = is ∙ ap (λ found. if found then Some (items_along v) else None) same

module _ (code : Code) (branches : Branches) (env : Env) where
  pub maps_none : (v : Thing) (one : turn.Turn) → items v ≡ None → Maps code branches env None one → Maps code branches env (items v) one
  maps_none v one is maps = subst (λ (found : Option (List Thing)). Maps code branches env found one) (sym is) maps

  pub maps_all : (v : Thing) (none : List Thing) (one : turn.Turn) → items v ≡ Some (items_along v) → none ≡ []
      → MapsOn code branches env none (items_along v) one → Maps code branches env (items v) one
  maps_all v none one is empty maps = subst (λ (found : Option (List Thing)). Maps code branches env found one) (sym is)
      (subst (λ (done : List Thing). MapsOn code branches env done (items_along v) one) empty maps)

  pub sifts_none : (v : Thing) (one : turn.Turn) → items v ≡ None → Sifts code branches env None one → Sifts code branches env (items v) one
  sifts_none v one is sifts = subst (λ (found : Option (List Thing)). Sifts code branches env found one) (sym is) sifts

  pub sifts_all : (v : Thing) (none : List Thing) (one : turn.Turn) → items v ≡ Some (items_along v) → none ≡ []
      → SiftsOn code branches env none (items_along v) one → Sifts code branches env (items v) one
  sifts_all v none one is empty sifts = subst (λ (found : Option (List Thing)). Sifts code branches env found one) (sym is)
      (subst (λ (done : List Thing). SiftsOn code branches env done (items_along v) one) empty sifts)
