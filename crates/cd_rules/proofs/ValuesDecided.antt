-- Each value is in a node or outside it, where the arrows of closures are nodes of the same graph: a closure is in an arrow exactly
-- when a need of arrows is not met.
use Rattle.std.proofs.Common.{◌≡◌, ℕ, true, false, List, [], ◌∷◌, ◌++◌, ◌⊎◌, inl, inr, refl, sym, subst, map, length, nat_lt}
use Rattle.std.proofs.lemmas.Bool.{cases_Bool, ltb-true, ltb-false}
use Rattle.cd_sets.specs.declared.node_id.NodeId.{NodeId}
use Rattle.cd_model.specs.BuiltIns.{built_ins}
use Rattle.cd_model.specs.AllOf.{AllOf}
use Rattle.cd_model.specs.Formula.{Graph, IsGraph, nodes, at_formula, holds}
use Rattle.cd_model.specs.Interfaces.{OfNodes, OfWritten, ArrowOf, ArrowsAgree, admits, value_in_node, value_reader}
use Rattle.cd_model.specs.Membership.{mapping}
use Rattle.cd_model.specs.Thing.{Thing}
use Rattle.cd_model.specs.Types.{AllMap, no_closure, closure_maps}
use Rattle.cd_model.specs.Written.{WrittenType}
use Rattle.cd_model.proofs.Admitting.{interfaces_agree}
use Rattle.cd_model.proofs.Decided.{answers_decide}
use Rattle.cd_model.proofs.DecidedAtNodes.{nodes_decide}
use Rattle.cd_rules.specs.Clauses.{Pair}
use Rattle.cd_rules.specs.Members.{HasElement, IsMet}
use Rattle.cd_rules.specs.Needs.{Need, arrow_way, splits}
use Rattle.cd_rules.proofs.Answered.{map_of_each}
use Rattle.cd_rules.proofs.ArrowsForward.{arrows_forward, parts_have, mapping_decided, mapping_apart}
use Rattle.cd_rules.proofs.Asking.{each_of_map}
use Rattle.cd_rules.proofs.EachQuestion.{has_or_not}
use Rattle.cd_model.proofs.HoldsOrNot.{HoldsOrNot, each_or_not, one_or_not}
use Rattle.cd_rules.proofs.MembersOfArrows.{function_of_ways}
use Rattle.cd_rules.proofs.NumbersBeyond.{beyond}

module _ (graph more : Graph) (begins : graph ≡ built_ins ++ more) (sound : IsGraph graph) where
  -- whether a need is met is known
  need_or_not : (need : Need) → HoldsOrNot (IsMet (HasElement graph) need)
  need_or_not = one_or_not (AllOf (HasElement graph)) (each_or_not (HasElement graph) (has_or_not graph more begins sound))

  -- whether all functions that are in the arrows of an interface are in one more arrow
  module _ (interfaces : ℕ → List (ArrowOf NodeId)) (function : ℕ) (argument result : NodeId) where
    abbrev parts_of : ArrowOf NodeId → Pair
    parts_of arrow = (arrow.argument, arrow.result)

    abbrev wanted : List Pair
    wanted = map parts_of (interfaces function)

    abbrev need : Need
    need = map (arrow_way (argument, result)) (splits wanted)

    abbrev AllAre : Type 0
    AllAre = AllMap (nodes graph) (admits (OfNodes graph interfaces)) function argument result

    -- where the need is met, a function is in the arrows and outside that one
    not_where_met : IsMet (HasElement graph) need → AllAre → ⊥
    not_where_met met all =
        let made = function_of_ways graph wanted ((argument, result) ∷ []) (met, tt) in
        mapping_apart graph made.0 argument result
        (all made.0 made.1.0 (map_of_each parts_of (λ parts. mapping graph made.0 parts.0 parts.1 true) (interfaces function) made.1.1))
        made.1.2.0

    -- and else none is
    all_else : (IsMet (HasElement graph) need → ⊥) → AllAre
    all_else never pairs is inside = elim (mapping_decided graph pairs argument result) [
      | inl within ↦ within
      | inr out ↦ absurd (never (arrows_forward graph no_closure (HasElement graph) pairs
          (parts_have graph (HasElement graph) (λ e element q asking. (e, element, asking)) pairs is) wanted (argument, result)
          (each_of_map parts_of (λ parts. mapping graph pairs parts.0 parts.1 true) (interfaces function) inside) out))
    ]

    all_or_not : AllAre ⊎ (AllAre → ⊥)
    all_or_not = elim (need_or_not need) [ inl met ↦ inr (not_where_met met) | inr never ↦ inl (all_else never) ]

  module _ (arrows : ℕ → List (ArrowOf NodeId)) where
    pub in_or_outside : (v : Thing) (id : NodeId)
        → value_in_node graph (OfNodes graph arrows) v id true ⊎ value_in_node graph (OfNodes graph arrows) v id false
    in_or_outside = answers_decide (nodes graph) (nodes_decide graph) (closure_maps (nodes graph) (admits (OfNodes graph arrows)))
        (λ function argument result. all_or_not arrows function argument result)

    -- and so where the arrows are written types that hold the same elements as nodes do
    module _ (count : ℕ) (others : ℕ → List (ArrowOf WrittenType))
        (agree : (function : ℕ) → ArrowsAgree graph count (arrows function) (others function)) where
      pub in_or_outside_written : (v : Thing) (id : NodeId)
          → value_in_node graph (OfWritten count others) v id true ⊎ value_in_node graph (OfWritten count others) v id false
      in_or_outside_written v id = elim (cases_Bool (nat_lt id.0 (length graph))) [
        | inl below ↦ elim (in_or_outside v id) [
          | inl inside ↦ inl ((interfaces_agree graph count arrows others sound agree v id true (ltb-true id.0 (length graph) below)).0 inside)
          | inr outside ↦ inr ((interfaces_agree graph count arrows others sound agree v id false (ltb-true id.0 (length graph) below)).0 outside)
        ]
        | inr not ↦ inr (subst (λ formula. holds (at_formula (value_reader graph (OfWritten count others) v)) formula false)
            (sym (beyond graph id.0 (ltb-false id.0 (length graph) not))) refl)
      ]
