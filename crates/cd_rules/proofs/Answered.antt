-- What answers the question of the set of some nodes answers so at each of these nodes.
use Rattle.std.proofs.Common.{◌≡◌, Bool, true, false, List, [], ◌∷◌, map, nat_lt, nat_eq, if◌then◌else◌}
use Rattle.std.proofs.Common.{refl, sym, subst, ap}
use Rattle.std.proofs.lemmas.Bool.{eqb-true}
use Rattle.cd_sets.specs.declared.node_id.NodeId.{NodeId}
use Rattle.cd_model.specs.AllOf.{AllOf}
use Rattle.cd_model.specs.BuiltIns.{node}
use Rattle.cd_model.specs.Membership.{Answers, asked}
use Rattle.cd_rules.specs.Needs.{with_id, set_of, question}

-- a fact of each that is made of a list is one of each of the list
pub map_of_each : {X Y : Type 0} (f : X → Y) (fact : Y → Type 0) (xs : List X)
    → AllOf fact (map f xs) → AllOf (λ x. fact (f x)) xs
map_of_each f fact [] each = tt
map_of_each f fact (x ∷ xs) each = (each.0, map_of_each f fact xs each.1)

module _ (fact : NodeId → Type 0) where
  -- a number of a set has the fact, and so has each other of it
  with_id_each : (id : NodeId) (set : List NodeId) → AllOf fact (with_id id set) → fact id × AllOf fact set
  with_id_each id [] each = (each.0, tt)
  with_id_each id (other ∷ rest) each =
      by_order (nat_lt id.0 other.0) (nat_eq id.0 other.0) refl (with_id_each id rest) each
    where
      by_order : (less same : Bool) → nat_eq id.0 other.0 ≡ same → (AllOf fact (with_id id rest) → fact id × AllOf fact rest)
          → AllOf fact (if less then id ∷ other ∷ rest else (if same then other ∷ rest else other ∷ with_id id rest))
          → fact id × AllOf fact (other ∷ rest)
      by_order true same is later each = each
      by_order false true is later each = (subst fact (sym (ap node (eqb-true id.0 other.0 is))) each.0, each)
      by_order false false is later each = let rest = later each.1 in (rest.0, (each.0, rest.1))

  pub set_of_each : (ids : List NodeId) → AllOf fact (set_of ids) → AllOf fact ids
  set_of_each [] each = tt
  set_of_each (id ∷ ids) each = let both = with_id_each id (set_of ids) each in (both.0, set_of_each ids both.1)

pub each_of_asked : (answers : Answers) (pos neg : List NodeId) → asked answers (question pos neg) true
    → AllOf (λ id. answers id true) pos × AllOf (λ id. answers id false) neg
each_of_asked answers pos neg is =
    (set_of_each (λ id. answers id true) pos is.0, set_of_each (λ id. answers id false) neg is.1)
