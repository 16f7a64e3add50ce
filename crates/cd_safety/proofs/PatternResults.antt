-- A pattern takes each value or fails, where the arrows of all functions are types.
use Rattle.std.proofs.Common.{◌<◌, ℕ, Bool, true, false, ◌∷◌, [], ◌⊎◌, inl, inr, Option, refl, sym, subst, length, nat_lt}
use Rattle.std.proofs.lemmas.Bool.{cases_Bool, ltb-true, ltb-false}
use Rattle.cd_sets.specs.declared.node_id.NodeId.{NodeId}
use Rattle.cd_syntax.specs.Name.{Name}
use Rattle.cd_syntax.specs.TypeTree.{Tree}
use Rattle.cd_model.specs.Formula.{at_formula, holds}
use Rattle.cd_model.specs.Interfaces.{Interfaces, value_in_node, value_reader, value_in_written}
use Rattle.cd_model.specs.Scope.{Scope}
use Rattle.cd_model.specs.StandsFor.{StandsFor}
use Rattle.cd_model.specs.Thing.{Thing, IsValue}
use Rattle.cd_matching.specs.Captures.{Captures}
use Rattle.cd_matching.specs.Pattern.{Pattern}
use Rattle.cd_matching.specs.PatternsAlike.{Alike}
use Rattle.cd_matching.specs.Sequences.{nil}
use Rattle.cd_matching.specs.Take.{take}
use Rattle.cd_matching.specs.Takes.{IsRight, WrittenValueTakes}
use Rattle.cd_matching.specs.WrittenPattern.{pattern_of}
use Rattle.cd_matching.proofs.PatternsAlike.{composed}
use Rattle.cd_matching.proofs.TakesOnce.{values_have_results}
use Rattle.cd_rules.proofs.NumbersBeyond.{beyond}
use Rattle.cd_safety.specs.OfInterface.{HasArrows}
use Rattle.cd_safety.specs.PatternTypes.{IsTypedPattern}
use Rattle.cd_safety.proofs.ArrowsOf.{all_have_arrows}
use Rattle.cd_safety.proofs.PatternGraphs.{nodes_of_all}
use Rattle.cd_safety.proofs.StandIns.{value_decided}

module _ (interfaces : Interfaces) (each : (function : ℕ) → HasArrows interfaces function) where
  module _ (scope : Scope) (written : Tree) (typed : IsTypedPattern scope written) where
    -- each value is in a node of the pattern's graph or outside it
    in_or_outside : (v : Thing) (id : NodeId) → IsValue v
        → value_in_node typed.graph interfaces v id true ⊎ value_in_node typed.graph interfaces v id false
    in_or_outside v id is = elim (cases_Bool (nat_lt id.0 (length typed.graph))) [
      | inl below ↦ at_node (ltb-true id.0 (length typed.graph) below)
      | inr not ↦ inr (subst (λ formula. holds (at_formula (value_reader typed.graph interfaces v)) formula false)
          (sym (beyond typed.graph id.0 (ltb-false id.0 (length typed.graph) not))) refl)
    ]
      where
        at_node : id.0 < length typed.graph
            → value_in_node typed.graph interfaces v id true ⊎ value_in_node typed.graph interfaces v id false
        at_node below =
            let shared = nodes_of_all (typed.graph ∷ []) (typed.sound, tt) in
            let found = shared.nodes.0 id below in
            elim (value_decided shared.graph shared.more shared.begins shared.sound interfaces v is (all_have_arrows interfaces each v) found.0) [
              | inl inside ↦ inl ((found.1.values interfaces v true).0 inside)
              | inr outside ↦ inr ((found.1.values interfaces v false).0 outside)
            ]

    -- the types of the pattern have right tests
    pub has_tests : (tested : Pattern (Thing → Bool)) × Alike (IsRight (value_in_written interfaces) IsValue) (pattern_of scope written) tested
    has_tests =
        let found = values_have_results typed.graph interfaces in_or_outside typed.p nil in (
          found.1.tested,
          composed (StandsFor typed.graph) (IsRight (value_in_node typed.graph interfaces) IsValue)
              (IsRight (value_in_written interfaces) IsValue)
              (λ id type test stands right d sort. (stands.values interfaces d (test d) sort).0 (right d sort))
              typed.p (pattern_of scope written) found.1.tested typed.resolved found.1.right,
        )

    pub value_has_result : (v : Thing) → (result : Option (Captures Name)) × WrittenValueTakes interfaces scope written v result
    value_has_result v = (
      take (Thing → Bool) (λ test. test) has_tests.0 v,
      record { tested = has_tests.0; right = has_tests.1; gives = refl },
    )
