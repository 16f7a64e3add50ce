-- Sequences are joined, from the last one.
use Rattle.std.proofs.Common.{◌≡◌, ◌∙◌, ap, ap₂, sym, refl, subst, arith, ℕ, ◌<◌, true, List, [], ◌∷◌, ◌++◌, Option, Some, None, length}
use Rattle.cd_model.specs.Thing.{Thing}
use Rattle.cd_matching.specs.Sequences.{nil, items, sequence_of}
use Rattle.cd_meaning.specs.Sequences.{followed_by}
use Rattle.cd_cells.specs.declared.cell.ValueId.{ValueId}
use Rattle.cd_cells.specs.declared.values.Values.{Values}
use Rattle.cd_cells.specs.Cells.{thing_at}
use Rattle.cd_cells.specs.Table.{table, IsAt, Grows}
use Rattle.cd_evaluation.specs.Runs.{Done}
use Rattle.cd_evaluation.specs.Lists.{before, both_items, all_items, listed}
use Rattle.cd_evaluation.specs.Evaluation.{joined}
use Rattle.cd_evaluation.specs.Operations.{flattened}
use Rattle.cd_operations.specs.Along.{items_along}
use Rattle.cd_operations.specs.Pairs.{IsPairAt}
use Rattle.cd_operations.specs.Inner.Joins.{IsAnswer, Prepends}
use Rattle.cd_cells.proofs.GrownTables.{further, within_grown, thing_grown}
use Rattle.cd_operations.proofs.ItemsAlong.{sequence_of_items, followed_sequence, before_twice}

-- the items of one more sequence before others
abbrev gathered_by : Option (List Thing) → (List Thing → Option (List Thing)) → Option (List Thing)
gathered_by None next = None
gathered_by (Some ds) next = next ds

-- the items of these sequences, which come from the last one, before others
abbrev pub gathered : List Thing → (all : List Thing) → Option (List Thing)
gathered [] all = Some all
gathered (v ∷ rest) all = gathered_by (items v) (λ ds. gathered rest (ds ++ all))

none_gathered : (vs others : List Thing) → all_items others ≡ None → all_items (before vs others) ≡ None
none_gathered [] others none = none
none_gathered (v ∷ vs) others none = none_gathered vs (v ∷ others) (by_first (items v))
  where
    by_first : (first : Option (List Thing)) → both_items first (all_items others) ≡ None
    by_first None = refl
    by_first (Some ds) = ap (both_items (Some ds)) none

gathers : (vs others all : List Thing) → all_items others ≡ Some all → all_items (before vs others) ≡ gathered vs all
gathers [] others all is = is
gathers (v ∷ vs) others all is = by_first (items v) refl (λ others all is. gathers vs others all is)
  where
    by_first : (first : Option (List Thing)) → items v ≡ first
        → ((others all : List Thing) → all_items others ≡ Some all → all_items (before vs others) ≡ gathered vs all)
        → all_items (before vs (v ∷ others)) ≡ gathered_by first (λ ds. gathered vs (ds ++ all))
    by_first None none on = none_gathered vs (v ∷ others) (ap (λ one. both_items one (all_items others)) none)
    by_first (Some ds) found on = on (v ∷ others) (ds ++ all) (ap₂ both_items found is)

pub all_gathered : (vs : List Thing) → all_items (before vs []) ≡ gathered vs []
all_gathered vs = gathers vs [] [] refl

-- these results are left, and the items of those before them are joined
pub record IsJoining (old : Values) (results : ℕ) (now : Values) (left made : ℕ) : Type 0 where
  pub left_within : left < length (table now)
  pub all : List Thing
  pub at : IsAt (table now) made (sequence_of all)
  pub goes : gathered (items_along (thing_at (table now) left)) all
      ≡ all_items (before (items_along (thing_at (table old) results)) [])
  pub grows : Grows old now

pub joining_starts : (old now : Values) (results made : ℕ) → results < length (table old) → Grows old now → IsAt (table now) made nil
    → IsJoining old results now results made
joining_starts old now results made within grows at = record {
  left_within = within_grown old now grows results within;
  all = [];
  at = at;
  goes = ap (λ v. gathered (items_along v) []) (thing_grown old now grows results within)
      ∙ sym (all_gathered (items_along (thing_at (table old) results)));
  grows = grows;
}

module _ (old one two : Values) (results left made : ℕ) (parts : ValueId × ValueId) (grows : Grows one two)
    (so_far : IsJoining old results one left made) (pair : IsPairAt (table one) left parts) where
  goes_on : gathered_by (items (thing_at (table one) parts.0.0)) (λ ds. gathered (items_along (thing_at (table one) parts.1.0)) (ds ++ so_far.all))
      ≡ all_items (before (items_along (thing_at (table old) results)) [])
  goes_on = ap (λ v. gathered (items_along v) so_far.all) (sym pair.is) ∙ so_far.goes

  pub joins_on : (answer : Option ValueId) (next : ValueId) → answer ≡ Some next → Prepends (table one) parts.0.0 made (table two) answer
      → IsJoining old results two parts.1.0 next.0
  joins_on answer next is prepends = joins (subst (Prepends (table one) parts.0.0 made (table two)) is prepends)
    where
      joins : Prepends (table one) parts.0.0 made (table two) (Some next) → IsJoining old results two parts.1.0 next.0
      joins (ds, found, at) =
          let rest_within : parts.1.0 < length (table one) = omega (arith, so_far.left_within, pair.rest) in
          record {
            left_within = within_grown one two grows parts.1.0 rest_within;
            all = ds ++ so_far.all;
            at = subst (IsAt (table two) next.0) (ap (followed_by ds) so_far.at.is ∙ followed_sequence ds so_far.all) at;
            goes = ap (λ v. gathered (items_along v) (ds ++ so_far.all)) (thing_grown one two grows parts.1.0 rest_within)
                ∙ ap (λ first. gathered_by first (λ ds. gathered (items_along (thing_at (table one) parts.1.0)) (ds ++ so_far.all))) (sym found)
                ∙ goes_on;
            grows = further old one two so_far.grows grows;
          }

-- two sequences
pub both_joined : (old : List Thing) (first second : ℕ) (new : List Thing) (answer : Option ValueId) (id : ValueId) → answer ≡ Some id
    → Prepends old first second new answer → IsAnswer (thing_at old second) true
    → Done (thing_at new id.0) ≡ listed (both_items (items (thing_at old first)) (items (thing_at old second)))
both_joined old first second new answer id same prepends is = by_items (subst (Prepends old first second new) same prepends)
  where
    by_items : Prepends old first second new (Some id)
        → Done (thing_at new id.0) ≡ listed (both_items (items (thing_at old first)) (items (thing_at old second)))
    by_items (ds, found, at) =
        let all = items_along (thing_at old second) in
        ap Done (at.is ∙ ap (followed_by ds) (sequence_of_items (thing_at old second) all is) ∙ followed_sequence ds all)
        ∙ ap listed (ap₂ both_items (sym found) (sym is))

-- a sequence of sequences
pub flat : (v : Thing) (results : List Thing) → IsAnswer v true → results ≡ before (items_along v) []
    → joined (before results []) ≡ flattened (items v)
flat v results is same =
    ap (λ all. listed (all_items all)) (ap (λ all. before all []) same ∙ before_twice (items_along v)) ∙ ap flattened (sym is)
