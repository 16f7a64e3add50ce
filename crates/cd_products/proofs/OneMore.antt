-- A set of numbers with one more.
use Rattle.std.proofs.Common.{◌≡◌, ◌==◌, ◌||◌, ℕ, Bool, true, false, List, [], ◌∷◌, Option, Some}
use Rattle.std.proofs.Common.{None}
use Rattle.std.proofs.Common.{nat_lt, nat_eq, if◌then◌else◌, refl, sym, subst, ap, arith}
use Rattle.std.proofs.lemmas.Bool.{eqb-true}
use Rattle.std.proofs.lemmas.Bool.Decides.{nat_tests}
use Rattle.cd_sets.specs.declared.node_id.NodeId.{NodeId}
use Rattle.cd_sets.specs.IdSet.{IsAbove, RiseFrom, AreRising, holds}
use Rattle.cd_sets.proofs.Members.{same_members}
use Rattle.cd_model.specs.AllOf.{AllOf}
use Rattle.cd_model.specs.BuiltIns.{node}
use Rattle.cd_rules.specs.Needs.{with_id}

-- a number among those of a set is one of them
holds_with_id : (id : NodeId) (set : List NodeId) (one : NodeId)
    → holds (with_id id set) one ≡ holds (id ∷ set) one
holds_with_id id [] one = refl
holds_with_id id (other ∷ rest) one =
    let less = holds_with_id id rest one in grind (arith, nat_tests)

-- and they rise
rises_with_id : (before : Option ℕ) (id : NodeId) (set : List NodeId)
    → RiseFrom before set → IsAbove before id.0 → RiseFrom before (with_id id set)
rises_with_id before id [] rises above = (above, tt)
rises_with_id before id (other ∷ rest) rises above =
    let less = rises_with_id (Some other.0) id rest rises.1 in
    grind (arith, nat_tests)

-- a set that has one number more than another is it with that number
pub is_with_id : (id : NodeId) (before after : List NodeId) → AreRising before → AreRising after
    → ((one : NodeId) → holds after one ≡ ((one.0 == id.0) || holds before one))
    → after ≡ with_id id before
is_with_id id before after rises rises_after same =
    same_members None after (with_id id before) rises_after (rises_with_id None id before rises tt)
    (λ one. let is = same one in let more = holds_with_id id before one in grind (arith, nat_tests))

module _ (fact : NodeId → Type 0) where
  -- a fact of a number and of each of a set is one of each of both
  pub each_with : (id : NodeId) (set : List NodeId) → fact id → AllOf fact set
      → AllOf fact (with_id id set)
  each_with id [] is each = (is, tt)
  each_with id (other ∷ rest) is each =
      by_order (nat_lt id.0 other.0) (nat_eq id.0 other.0) (each_with id rest is each.1)
    where
      by_order : (less same : Bool) → AllOf fact (with_id id rest)
          → AllOf fact (if less then id ∷ other ∷ rest
          else (if same then other ∷ rest else other ∷ with_id id rest))
      by_order true same later = (is, each)
      by_order false true later = each
      by_order false false later = (each.0, later)

  pub each_without : (id : NodeId) (set : List NodeId) → AllOf fact (with_id id set)
      → fact id × AllOf fact set
  each_without id [] each = (each.0, tt)
  each_without id (other ∷ rest) each =
      by_order (nat_lt id.0 other.0) (nat_eq id.0 other.0) refl (each_without id rest) each
    where
      by_order : (less same : Bool) → nat_eq id.0 other.0 ≡ same
          → (AllOf fact (with_id id rest) → fact id × AllOf fact rest)
          → AllOf fact (if less then id ∷ other ∷ rest
          else (if same then other ∷ rest else other ∷ with_id id rest))
          → fact id × AllOf fact (other ∷ rest)
      by_order true same is later each = each
      by_order false true is later each =
          (subst fact (sym (ap node (eqb-true id.0 other.0 is))) each.0, each)
      by_order false false is later each = let rest = later each.1 in (rest.0, (each.0, rest.1))
