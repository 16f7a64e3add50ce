-- The pair of elements that are ready for a task is an element for it, where it is in no pair of nodes that is left.
use Rattle.std.proofs.Common.{◌≡◌, ℕ, false, List, [], ◌∷◌, map, get_or, sym, subst}
use Rattle.cd_model.specs.AllOf.{AllOf}
use Rattle.cd_model.specs.Formula.{Graph}
use Rattle.cd_model.specs.Kinds.{APair, kind_of}
use Rattle.cd_model.specs.Membership.{reader}
use Rattle.cd_model.specs.Thing as thing
use Rattle.cd_model.specs.Thing.{Thing, IsElement}
use Rattle.cd_rules.specs.Clauses.{Clause, Pair, Pairs, IsInClause}
use Rattle.cd_rules.specs.Tasks.{PairTask, IsTaskOf}
use Rattle.cd_rules.proofs.MembersOfTasks.{pair_of_task}
use Rattle.cd_elements.specs.declared.shape.ElementId.{ElementId}
use Rattle.cd_elements.specs.Table.{element_at}
use Rattle.cd_members.specs.Attempts.{IsElementFor}
use Rattle.cd_members.specs.Held.{IsHeldAt, IsSoAt, pair_in}
use Rattle.cd_members.specs.Inner.Ready.{IsReady}
use Rattle.cd_members.proofs.Ready.{is_task}

module _ (graph : Graph) (wanted refused : List Pair) (given : List Pair × List Pair) (left : List Pair) where
  in_each_clause : (e : Thing) → IsInClause APair (reader graph e) (Pairs wanted refused) → (clause : Clause)
      → IsTaskOf clause (PairTask wanted refused given left) → IsInClause APair (reader graph e) clause
  in_each_clause e is (Pairs some others) ((same, same_too), task) =
      subst (λ (some : List Pair). IsInClause APair (reader graph e) (Pairs some others)) same
      (subst (λ (others : List Pair). IsInClause APair (reader graph e) (Pairs wanted others)) same_too is)
  in_each_clause e is _ (none, task) = absurd none

  pair_is_for : (table : List Thing) (first second : ElementId)
      → IsReady graph table (PairTask wanted refused given left) (first ∷ second ∷ [])
      → AllOf (λ parts. pair_in graph (element_at table first) (element_at table second) parts false) left
      → (e : Thing) → IsElement e → e ≡ thing.Pair (element_at table first) (element_at table second)
      → IsElementFor graph (PairTask wanted refused given left) e
  pair_is_for table first second ready outside e is made = (
    is,
    subst (λ (e : Thing). (clause : Clause) → IsTaskOf clause (PairTask wanted refused given left)
        → IsInClause (kind_of e) (reader graph e) clause) (sym made)
        (in_each_clause (thing.Pair (element_at table first) (element_at table second))
        (pair_of_task graph (element_at table first) (element_at table second) wanted refused given left (is_task ready)
        ready.parts.0 ready.parts.1.0 outside)),
  )

-- so it is with the elements at the first two places
pub pair_attempted : {graph : Graph} {table : List Thing} {wanted refused : List Pair} {given : List Pair × List Pair} {left : List Pair}
    {ids : List ElementId} {e : Thing} → IsReady graph table (PairTask wanted refused given left) ids → (default : ElementId)
    → AllOf (λ parts. pair_in graph (element_at table (get_or ids 0 default)) (element_at table (get_or ids 1 default)) parts false) left
    → IsElement e → e ≡ thing.Pair (element_at table (get_or ids 0 default)) (element_at table (get_or ids 1 default))
    → IsElementFor graph (PairTask wanted refused given left) e
pair_attempted {graph} {table} {wanted} {refused} {given} {left} {ids = first ∷ second ∷ []} {e} ready default outside =
    pair_is_for graph wanted refused given left table first second ready outside e
pair_attempted {ids = []} ready default outside = absurd ready.parts
pair_attempted {ids = first ∷ []} ready default outside = absurd ready.parts.1
pair_attempted {ids = first ∷ second ∷ third ∷ ids} ready default outside = absurd ready.parts.1.1

-- a pair of nodes that is left holds the pair
pub pair_held : {graph : Graph} {table : List Thing} {wanted refused : List Pair} {given : List Pair × List Pair} {left : List Pair}
    {ids : List ElementId} → IsReady graph table (PairTask wanted refused given left) ids → (default : ElementId) (place : ℕ)
    → IsSoAt (pair_in graph (element_at table (get_or ids 0 default)) (element_at table (get_or ids 1 default))) left place
    → IsHeldAt graph (map (element_at table) ids) (PairTask wanted refused given left) place
pair_held {ids = first ∷ second ∷ []} ready default place held = held
pair_held {ids = []} ready default place held = absurd ready.parts
pair_held {ids = first ∷ []} ready default place held = absurd ready.parts.1
pair_held {ids = first ∷ second ∷ third ∷ ids} ready default place held = absurd ready.parts.1.1

pub pairs_held : {graph : Graph} {table : List Thing} {wanted refused : List Pair} {given : List Pair × List Pair} {left : List Pair}
    {ids : List ElementId} → IsReady graph table (PairTask wanted refused given left) ids → (default : ElementId) (places : List ℕ)
    → AllOf (IsSoAt (pair_in graph (element_at table (get_or ids 0 default)) (element_at table (get_or ids 1 default))) left) places
    → AllOf (IsHeldAt graph (map (element_at table) ids) (PairTask wanted refused given left)) places
pairs_held ready default [] held = tt
pairs_held ready default (place ∷ places) held = (pair_held ready default place held.0, pairs_held ready default places held.1)
