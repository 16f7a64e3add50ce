-- What answers so at each of some nodes answers the question of the set of these nodes.
use Rattle.std.proofs.Common.{Bool, true, false, List, [], ◌∷◌, map, nat_lt, nat_eq, if◌then◌else◌}
use Rattle.cd_sets.specs.declared.node_id.NodeId.{NodeId}
use Rattle.cd_model.specs.AllOf.{AllOf}
use Rattle.cd_model.specs.Membership.{Answers, asked}
use Rattle.cd_rules.specs.Needs.{with_id, set_of, question}

-- a fact of each of a list is one of each that is made of them
pub each_of_map : {X Y : Type 0} (f : X → Y) (fact : Y → Type 0) (xs : List X) → AllOf (λ x. fact (f x)) xs → AllOf fact (map f xs)
each_of_map f fact [] each = tt
each_of_map f fact (x ∷ xs) each = (each.0, each_of_map f fact xs each.1)

module _ (fact : NodeId → Type 0) where
  each_with : (id : NodeId) (set : List NodeId) → fact id → AllOf fact set → AllOf fact (with_id id set)
  each_with id [] is each = (is, tt)
  each_with id (other ∷ rest) is each = by_order (nat_lt id.0 other.0) (nat_eq id.0 other.0) (each_with id rest is each.1)
    where
      by_order : (less same : Bool) → AllOf fact (with_id id rest) → AllOf fact (if less then id ∷ other ∷ rest
          else (if same then other ∷ rest else other ∷ with_id id rest))
      by_order true same later = (is, each)
      by_order false true later = each
      by_order false false later = (each.0, later)

  pub each_of_set : (ids : List NodeId) → AllOf fact ids → AllOf fact (set_of ids)
  each_of_set [] each = tt
  each_of_set (id ∷ ids) each = each_with id (set_of ids) each.0 (each_of_set ids each.1)

pub asked_of_each : (answers : Answers) (pos neg : List NodeId) → AllOf (λ id. answers id true) pos
    → AllOf (λ id. answers id false) neg → asked answers (question pos neg) true
asked_of_each answers pos neg inside outside =
    (each_of_set (λ id. answers id true) pos inside, each_of_set (λ id. answers id false) neg outside)
