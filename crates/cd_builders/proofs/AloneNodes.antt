-- A node that a question asks for alone holds what is in the question.
use Rattle.std.proofs.Common.{◌≡◌, ◌<◌, ◌≤◌, ◌↔◌, inl, inr, true, false, List, [], ◌∷◌, ◌++◌}
use Rattle.std.proofs.Common.{length, refl, sym, subst, ap, ◌∙◌, arith}
use Rattle.std.proofs.lemmas.List.{length-append}
use Rattle.cd_sets.specs.declared.node_id.NodeId.{NodeId}
use Rattle.cd_sets.specs.declared.question.Question.{Question}
use Rattle.cd_model.specs.AllOf.{AllOf}
use Rattle.cd_model.specs.BuiltIns.{built_ins, ANY, BOOL, INT}
use Rattle.cd_model.specs.Formula.{Graph, asked, in_node}
use Rattle.cd_model.specs.Thing.{Thing}
use Rattle.cd_model.proofs.Ones.{each_weaker}
use Rattle.cd_rules.specs.Family.{AsksNodes}
use Rattle.cd_builders.specs.Inner.Alone.{IsOnly, AsksAlone}

module _ (graph more : Graph) (begins : graph ≡ built_ins ++ more) where
  all_in_any : (d : Thing) → in_node graph d ANY true
  all_in_any d = subst (λ (graph : Graph). in_node graph d ANY true) (sym begins) refl

  pub at_least : 14 ≤ length graph
  at_least = subst (λ (graph : Graph). 14 ≤ length graph) (sym begins)
      (omega (arith, length-append built_ins more))

  any_below : ANY.0 < length graph
  any_below = let enough = at_least in omega arith

  -- what is in all of some nodes, of which one is the only one
  only_same : (d : Thing) (ids : List NodeId) (id : NodeId) → IsOnly ids id
      → AllOf (λ id. in_node graph d id true) ids ↔ in_node graph d id true
  only_same d ids id (inl (none, any)) = (
    λ each. subst (λ (id : NodeId). in_node graph d id true) (sym any) (all_in_any d),
    λ inside. subst (AllOf (λ id. in_node graph d id true)) (sym none) tt,
  )
  only_same d ids id (inr (inl one)) = (
    λ each. (subst (AllOf (λ id. in_node graph d id true)) one each).0,
    λ inside. subst (AllOf (λ id. in_node graph d id true)) (sym one) (inside, tt),
  )
  only_same d ids id (inr (inr two)) = (
    λ each. (subst (AllOf (λ id. in_node graph d id true)) two each).1.0,
    λ inside. subst (AllOf (λ id. in_node graph d id true)) (sym two)
        (all_in_any d, (inside, tt)),
  )

  pub alone_same : (question : Question) (id : NodeId) → AsksAlone question id → (d : Thing)
      → asked (in_node graph d) question true ↔ in_node graph d id true
  alone_same question id (none, only) d =
      let same = only_same d question.pos id only in (
        λ inside. same.0 inside.0,
        λ inside. (
          same.1 inside,
          subst (AllOf (λ id. in_node graph d id false)) (sym none) tt,
        ),
      )

  -- it is a node of the graph
  pub alone_below : (question : Question) (id : NodeId) → AsksNodes (length graph) question
      → AsksAlone question id → id.0 < length graph
  alone_below question id asks (none, inl (nothing, any)) =
      subst (λ (id : NodeId). id.0 < length graph) (sym any) any_below
  alone_below question id asks (none, inr (inl one)) =
      (subst (AllOf (λ (id : NodeId). id.0 < length graph)) one asks.0).0
  alone_below question id asks (none, inr (inr two)) =
      (subst (AllOf (λ (id : NodeId). id.0 < length graph)) two asks.0).1.0

  -- built-in nodes are nodes of a longer one
  pub basic_below : (batch longer : Graph) → longer ≡ graph ++ batch
      → AllOf (λ id. id.0 < length longer) (BOOL ∷ INT ∷ [])
  basic_below batch longer added =
      let enough = at_least in
      let long = ap length added ∙ length-append graph batch in
      (omega (arith, enough, long), (omega (arith, enough, long), tt))

-- nodes of a graph are nodes of a longer one
pub still_below : {X : Type 0} (graph batch after : List X) → after ≡ graph ++ batch
    → (ids shown : List NodeId) → shown ≡ ids
    → AllOf (λ id. id.0 < length graph) ids → AllOf (λ id. id.0 < length after) shown
still_below graph batch after put ids shown same each =
    subst (AllOf (λ id. id.0 < length after)) (sym same)
    (each_weaker (λ (id : NodeId). id.0 < length graph) (λ id. id.0 < length after)
    (λ id below. omega (arith, ap length put ∙ length-append graph batch)) ids each)
