-- The pair of elements that are ready for a task makes a function right for one arrow more, where it breaks no arrow that is left.
use Rattle.std.proofs.Common.{◌≡◌, ℕ, false, List, [], ◌∷◌, map, get_or, Option, slice_get, refl, sym, subst, arith}
use Rattle.cd_model.specs.AllOf.{AllOf}
use Rattle.cd_model.specs.Formula.{Graph}
use Rattle.cd_model.specs.Thing as thing
use Rattle.cd_model.specs.Thing.{Thing, Pairs, IsElement}
use Rattle.cd_rules.specs.Clauses.{Pair}
use Rattle.cd_rules.specs.MadeForTasks.{IsFunctionBut, arrows_of}
use Rattle.cd_rules.specs.Tasks.{ArrowTask}
use Rattle.cd_rules.proofs.MembersOfTasks.{maps_of_task, fails_of_task}
use Rattle.cd_elements.specs.declared.shape.ElementId.{ElementId}
use Rattle.cd_elements.specs.Table.{Names, IsResult, element_at, result_at, pair_before}
use Rattle.cd_members.specs.Attempts.{IsAttempt, IsPairFor}
use Rattle.cd_members.specs.declared.attempt.Attempt.TheVariants.{Maps}
use Rattle.cd_members.specs.Held.{IsHeldAt, IsSoAt, breaks}
use Rattle.cd_members.specs.Inner.Ready.{IsReady}
use Rattle.cd_members.proofs.Ready.{is_task, names_at}
use Rattle.cd_members.proofs.Lists.{each_at}

module _ (graph : Graph) (table : List Thing) where
  -- what is after the argument is a result
  is_result : (ids : List ElementId) → AllOf (Names table) ids → IsResult table (slice_get ids 1)
  is_result [] named = tt
  is_result (from ∷ []) named = tt
  is_result (from ∷ to ∷ ids) named = named.1.0

  module _ (elements : AllOf IsElement table) (one : Pair) (wanted : List Pair) (left : List Pair) where
    -- a task is for one refused arrow of a clause with these wanted ones
    of_clause : (given : List Pair × List Pair) (pair : Pairs → Pairs)
        → ((refused others : List Pair) (pairs : Pairs) → IsFunctionBut graph wanted refused (one ∷ others) pairs
        → IsFunctionBut graph wanted refused others (pair pairs))
        → IsPairFor graph (ArrowTask one wanted given left) pair
    of_clause given pair leads = λ some refused later pairs is.
        subst (λ (some : List Pair). IsFunctionBut graph some refused (one ∷ arrows_of later) pairs
        → IsFunctionBut graph some refused (arrows_of later) (pair pairs)) is.0.0 (leads refused (arrows_of later) pairs)

    is_element : (id : ElementId) → Names table id → IsElement (element_at table id)
    is_element id names = each_at IsElement table id.0 (thing.Atom []) elements names

    pair_is_for : (given : List Pair × List Pair) (ids : List ElementId) (default : ElementId)
        → IsReady graph table (ArrowTask one wanted given left) ids
        → AllOf (λ arrow. breaks graph (element_at table (get_or ids 0 default)) (result_at table (slice_get ids 1)) arrow false) left
        → IsPairFor graph (ArrowTask one wanted given left)
        (pair_before (element_at table (get_or ids 0 default)) (result_at table (slice_get ids 1)))
    pair_is_for (outside, []) (from ∷ []) default ready right =
        of_clause (outside, []) (thing.Fails (element_at table from)) (λ refused others pairs before.
        fails_of_task graph wanted refused one others pairs before (element_at table from) (is_element from ready.named.0) outside left
        (is_task ready) ready.parts.0 right)
    pair_is_for (outside, arrow ∷ results) (from ∷ to ∷ []) default ready right =
        of_clause (outside, arrow ∷ results) (thing.Maps (element_at table from) (element_at table to)) (λ refused others pairs before.
        maps_of_task graph wanted refused one others pairs before (element_at table from) (element_at table to)
        (is_element from ready.named.0) (is_element to ready.named.1.0) (outside, arrow ∷ results) left
        (is_task ready) ready.parts.0 ready.parts.1.0 right)
    pair_is_for (outside, []) (from ∷ to ∷ ids) default ready right = absurd ready.parts.1
    pair_is_for (outside, arrow ∷ results) (from ∷ []) default ready right = absurd ready.parts.1
    pair_is_for (outside, arrow ∷ results) (from ∷ to ∷ more ∷ ids) default ready right = absurd ready.parts.1.1
    pair_is_for given [] default ready right = absurd ready.parts

-- so the attempt gives such a pair
pub arrow_attempted : {graph : Graph} {table : List Thing} {one : Pair} {wanted : List Pair} {given : List Pair × List Pair}
    {left : List Pair} {ids : List ElementId} {to : Option ElementId} → IsReady graph table (ArrowTask one wanted given left) ids
    → (default : ElementId) → AllOf IsElement table → to ≡ slice_get ids 1
    → AllOf (λ arrow. breaks graph (element_at table (get_or ids 0 default)) (result_at table to) arrow false) left
    → IsAttempt graph table (ArrowTask one wanted given left) (map (element_at table) ids) (Maps (get_or ids 0 default) to)
arrow_attempted {graph} {table} {one} {wanted} {given} {left} {ids} {to} ready default elements same = subst (λ (to : Option ElementId).
    AllOf (λ arrow. breaks graph (element_at table (get_or ids 0 default)) (result_at table to) arrow false) left
    → IsAttempt graph table (ArrowTask one wanted given left) (map (element_at table) ids) (Maps (get_or ids 0 default) to)) (sym same)
    (λ right. (
      names_at ready 0 default (omega arith),
      is_result graph table ids ready.named,
      (one, refl),
      pair_is_for graph table elements one wanted left given ids default ready right,
    ))

-- an arrow that is left is broken by the pair
pub arrow_held : {graph : Graph} {table : List Thing} {one : Pair} {wanted : List Pair} {given : List Pair × List Pair}
    {left : List Pair} {ids : List ElementId} {to : Option ElementId}
    → IsReady graph table (ArrowTask one wanted given left) ids → (default : ElementId) (place : ℕ) → to ≡ slice_get ids 1
    → IsSoAt (breaks graph (element_at table (get_or ids 0 default)) (result_at table to)) left place
    → IsHeldAt graph (map (element_at table) ids) (ArrowTask one wanted given left) place
arrow_held {graph} {table} {one} {wanted} {given} {left} {ids} {to} ready default place same held = by_ids given ids ready
    (subst (λ (to : Option ElementId). IsSoAt (breaks graph (element_at table (get_or ids 0 default)) (result_at table to)) left place)
    same held)
  where
    by_ids : (given : List Pair × List Pair) (ids : List ElementId) → IsReady graph table (ArrowTask one wanted given left) ids
        → IsSoAt (breaks graph (element_at table (get_or ids 0 default)) (result_at table (slice_get ids 1))) left place
        → IsHeldAt graph (map (element_at table) ids) (ArrowTask one wanted given left) place
    by_ids given (from ∷ []) ready held = held
    by_ids given (from ∷ to ∷ []) ready held = held
    by_ids given [] ready held = absurd ready.parts
    by_ids (outside, []) (from ∷ to ∷ more ∷ ids) ready held = absurd ready.parts.1
    by_ids (outside, arrow ∷ results) (from ∷ to ∷ more ∷ ids) ready held = absurd ready.parts.1.1
