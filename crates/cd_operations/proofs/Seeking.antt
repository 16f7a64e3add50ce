-- The first integer of a sequence is sought along its pairs.
use Rattle.std.proofs.Common.{◌≡◌, ◌∙◌, ap, refl, sym, subst, arith, ℤ, ◌<◌, Bool, true, false, List, [], ◌∷◌, Option, Some, None, option_map, length}
use Rattle.std.specs.Prelude.{if◌then◌else◌}
use Rattle.cd_model.specs.Thing.{Thing, Integer, Character, Atom, Pair, Xml, Record, Function, Closure}
use Rattle.cd_matching.specs.Sequences.{items}
use Rattle.cd_cells.specs.declared.cell.ValueId.{ValueId}
use Rattle.cd_cells.specs.Cells.{thing_at}
use Rattle.cd_evaluation.specs.Operations.{extreme}
use Rattle.cd_operations.specs.Along.{items_along}
use Rattle.cd_operations.specs.Pairs.{IsPairAt, is_empty}
use Rattle.cd_operations.specs.Inner.Extremes.{precedes, among, integer_of, IsNumberAt, Finds}
use Rattle.cd_operations.specs.declared.extremes.Extreme.{Extreme}
use Rattle.cd_operations.specs.declared.extremes.Number.{Number}
use Rattle.cd_operations.proofs.ItemsAlong.{at_end}

module _ (before : ℤ → ℤ → Bool) where
  -- the first item is an integer, or not
  next_integer : (n m : ℤ) (rest : Option (List Thing))
      → among before n (option_map (λ all. Integer m ∷ all) rest) ≡ among before (if before m n then m else n) rest
  next_integer n m None = refl
  next_integer n m (Some all) = refl

  first_integer : (n : ℤ) (rest : Option (List Thing))
      → extreme before (option_map (λ all. Integer n ∷ all) rest) ≡ among before n rest
  first_integer n None = refl
  first_integer n (Some all) = refl

  no_next : (n : ℤ) (v : Thing) (rest : Option (List Thing)) → integer_of v ≡ None
      → among before n (option_map (λ all. v ∷ all) rest) ≡ None
  no_next n v None none = refl
  no_next n (Integer m) (Some all) none = absurd cc
  no_next n (Character c) (Some all) none = refl
  no_next n (Atom name) (Some all) none = refl
  no_next n (Pair one other) (Some all) none = refl
  no_next n (Xml tag attributes content) (Some all) none = refl
  no_next n (Record fields) (Some all) none = refl
  no_next n (Function pairs) (Some all) none = refl
  no_next n (Closure function seen) (Some all) none = refl

  no_first : (v : Thing) (rest : Option (List Thing)) → integer_of v ≡ None
      → extreme before (option_map (λ all. v ∷ all) rest) ≡ None
  no_first v None none = refl
  no_first (Integer m) (Some all) none = absurd cc
  no_first (Character c) (Some all) none = refl
  no_first (Atom name) (Some all) none = refl
  no_first (Pair one other) (Some all) none = refl
  no_first (Xml tag attributes content) (Some all) none = refl
  no_first (Record fields) (Some all) none = refl
  no_first (Function pairs) (Some all) none = refl
  no_first (Closure function seen) (Some all) none = refl

  -- no pair is left
  none_left : (n : ℤ) (v : Thing) (is : Bool) → items_along v ≡ [] → is_empty v ≡ is
      → among before n (items v) ≡ (if is then Some n else None)
  none_left n v is none same = ap (among before n) (at_end v none) ∙ by_test is same
    where
      by_test : (is : Bool) → is_empty v ≡ is
          → among before n (if is_empty v then Some (items_along v) else None) ≡ (if is then Some n else None)
      by_test true same = ap (λ is. among before n (if is then Some (items_along v) else None)) same ∙ ap (λ all. among before n (Some all)) none
      by_test false same = ap (λ is. among before n (if is then Some (items_along v) else None)) same

  pub none_at_all : (v : Thing) → items_along v ≡ [] → extreme before (items v) ≡ None
  none_at_all v none = ap (extreme before) (at_end v none) ∙ by_test (is_empty v)
    where
      by_test : (is : Bool) → extreme before (if is then Some (items_along v) else None) ≡ None
      by_test true = ap (λ all. extreme before (Some all)) none
      by_test false = refl

module _ (table : List Thing) (wanted : Extreme) where
  -- so much is left of the others, and this is the best number before them
  pub record IsSeeking (first : Number) (others : ValueId) (best : Number) (left : ValueId) : Type 0 where
    pub within : left.0 < length table
    pub best_at : IsNumberAt table best
    pub goes : among (precedes wanted) best.n (items (thing_at table left.0))
        ≡ among (precedes wanted) first.n (items (thing_at table others.0))

  pub seeking_starts : (first : Number) (others : ValueId) → IsNumberAt table first → others.0 < length table
      → IsSeeking first others first others
  seeking_starts first others at within = record { within = within; best_at = at; goes = refl }

  -- what stands at a pair is its first part before the rest
  items_at : (pair item rest : ValueId) → IsPairAt table pair.0 (item, rest)
      → items (thing_at table pair.0) ≡ option_map (λ all. thing_at table item.0 ∷ all) (items (thing_at table rest.0))
  items_at pair item rest is = ap items is.is

  number_is : (item : ValueId) (next : Number) → next.id.0 ≡ item.0 → IsNumberAt table next → thing_at table item.0 ≡ Integer next.n
  number_is item next same at = ap (thing_at table) (sym same) ∙ at.is

  better_at : (best next : Number) (b : Bool) → IsNumberAt table best → IsNumberAt table next → IsNumberAt table (if b then next else best)
  better_at best next true best_at next_at = next_at
  better_at best next false best_at next_at = best_at

  better_goes : (best next : Number) (rest : Option (List Thing)) (b : Bool)
      → among (precedes wanted) (if b then next else best).n rest ≡ among (precedes wanted) (if b then next.n else best.n) rest
  better_goes best next rest true = refl
  better_goes best next rest false = refl

  module _ (first : Number) (others : ValueId) (best : Number) (left : ValueId) (so_far : IsSeeking first others best left) where
    pub seeks_on : (item rest : ValueId) (next better : Number) → IsPairAt table left.0 (item, rest) → next.id.0 ≡ item.0
        → IsNumberAt table next → better ≡ (if precedes wanted next.n best.n then next else best)
        → IsSeeking first others better rest
    seeks_on item rest next better pair same at is = subst (λ better. IsSeeking first others better rest) (sym is) (record {
      within = omega (arith, so_far.within, pair.rest);
      best_at = better_at best next (precedes wanted next.n best.n) so_far.best_at at;
      goes = better_goes best next (items (thing_at table rest.0)) (precedes wanted next.n best.n)
          ∙ sym (next_integer (precedes wanted) best.n next.n (items (thing_at table rest.0)))
          ∙ ap (λ v. among (precedes wanted) best.n (option_map (λ all. v ∷ all) (items (thing_at table rest.0)))) (sym (number_is item next same at))
          ∙ ap (among (precedes wanted) best.n) (sym (items_at left item rest pair))
          ∙ so_far.goes;
    })

    pub seeks_none : (item rest : ValueId) → IsPairAt table left.0 (item, rest) → integer_of (thing_at table item.0) ≡ None
        → among (precedes wanted) first.n (items (thing_at table others.0)) ≡ None
    seeks_none item rest pair none = sym so_far.goes ∙ ap (among (precedes wanted) best.n) (items_at left item rest pair)
        ∙ no_next (precedes wanted) best.n (thing_at table item.0) (items (thing_at table rest.0)) none

    pub seeking_ends : (is : Bool) → items_along (thing_at table left.0) ≡ [] → is ≡ is_empty (thing_at table left.0)
        → among (precedes wanted) first.n (items (thing_at table others.0)) ≡ (if is then Some best.n else None)
    seeking_ends is none same = sym so_far.goes ∙ none_left (precedes wanted) best.n (thing_at table left.0) is none (sym same)

  pub first_none : (value first rest : ValueId) → IsPairAt table value.0 (first, rest) → integer_of (thing_at table first.0) ≡ None
      → extreme (precedes wanted) (items (thing_at table value.0)) ≡ None
  first_none value first rest pair none = ap (extreme (precedes wanted)) (items_at value first rest pair)
      ∙ no_first (precedes wanted) (thing_at table first.0) (items (thing_at table rest.0)) none

  pub first_found : (value first rest : ValueId) (number : Number) (result : Option Number) → IsPairAt table value.0 (first, rest)
      → number.id.0 ≡ first.0 → IsNumberAt table number
      → Finds table (among (precedes wanted) number.n (items (thing_at table rest.0))) result
      → Finds table (extreme (precedes wanted) (items (thing_at table value.0))) result
  first_found value first rest number result pair same at = subst (λ found. Finds table found result)
      (sym (first_integer (precedes wanted) number.n (items (thing_at table rest.0)))
      ∙ ap (λ v. extreme (precedes wanted) (option_map (λ all. v ∷ all) (items (thing_at table rest.0)))) (sym (number_is first number same at))
      ∙ ap (extreme (precedes wanted)) (sym (items_at value first rest pair)))
