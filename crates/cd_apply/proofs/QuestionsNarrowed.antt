-- Questions with one node more, inside it or outside it.
use Rattle.std.proofs.Common.{◌≡◌, ◌<◌, ℕ, Bool, true, false, not, List, Option, Some, None}
use Rattle.std.proofs.Common.{◌↔◌, is_some, sym, subst}
use Rattle.std.proofs.lemmas.Bool.{true≢false}
use Rattle.cd_sets.specs.declared.node_id.NodeId.{NodeId}
use Rattle.cd_sets.specs.declared.question.Question.{Question}
use Rattle.cd_model.specs.Formula.{Graph, IsIn, IsOutside, in_node}
use Rattle.cd_model.specs.Thing.{Thing}
use Rattle.cd_elements.specs.Table.{element_at}
use Rattle.cd_elements.specs.declared.shape.ElementId.{ElementId}
use Rattle.cd_rules.specs.Family.{AsksNodes}
use Rattle.cd_products.specs.QuestionBoxes.{within_node, without_node}
use Rattle.cd_products.proofs.OneMore.{each_with, each_without}
use Rattle.cd_apply.specs.Inner.Found.{IsFoundIn, SaysInside, SaysDisjoint}
use Rattle.cd_apply.specs.Inner.Results.{IsInQuestion}

module _ (graph : Graph) (id : NodeId) (question : Question) (e : Thing) where
  pub within_exactly : IsInQuestion graph (within_node id question) e
      ↔ (IsInQuestion graph question e × IsIn graph e id)
  within_exactly = (
    λ is. let parts = each_without (λ one. in_node graph e one true) id question.pos is.0 in
        ((parts.1, is.1), parts.0),
    λ is. (each_with (λ one. in_node graph e one true) id question.pos is.1 is.0.0, is.0.1),
  )

  pub without_exactly : IsInQuestion graph (without_node id question) e
      ↔ (IsInQuestion graph question e × IsOutside graph e id)
  without_exactly = (
    λ is. let parts = each_without (λ one. in_node graph e one false) id question.neg is.1 in
        ((is.0, parts.1), parts.0),
    λ is. (is.0.0, each_with (λ one. in_node graph e one false) id question.neg is.1 is.0.1),
  )

module _ (count : ℕ) (id : NodeId) (question : Question) (below : id.0 < count)
    (asks : AsksNodes count question) where
  pub within_asks : AsksNodes count (within_node id question)
  within_asks = (each_with (λ one. one.0 < count) id question.pos below asks.0, asks.1)

  pub without_asks : AsksNodes count (without_node id question)
  without_asks = (asks.0, each_with (λ one. one.0 < count) id question.neg below asks.1)

-- what is found there says whether all of a question is in a node, and whether none is
module _ (graph : Graph) (table : List Thing) (id : NodeId) (question asked : Question) where
  pub says_inside : asked ≡ without_node id question → (found : Option ElementId) (b : Bool)
      → is_some found ≡ not b → IsFoundIn graph table asked found
      → SaysInside graph question id b
  says_inside same None true answer none = λ e is asking out. none e is
      (subst (λ (q : Question). IsInQuestion graph q e) (sym same)
      ((without_exactly graph id question e).1 (asking, out)))
  says_inside same None false answer none = absurd (true≢false (sym answer))
  says_inside same (Some one) true answer found = absurd (true≢false answer)
  says_inside same (Some one) false answer (names, is, asking) =
      let e = element_at table one in
      let both = (without_exactly graph id question e).0
      (subst (λ (q : Question). IsInQuestion graph q e) same asking) in (e, is, both.0, both.1)

  pub says_disjoint : asked ≡ within_node id question → (found : Option ElementId) (b : Bool)
      → is_some found ≡ not b → IsFoundIn graph table asked found
      → SaysDisjoint graph question id b
  says_disjoint same None true answer none = λ e is asking inside. none e is
      (subst (λ (q : Question). IsInQuestion graph q e) (sym same)
      ((within_exactly graph id question e).1 (asking, inside)))
  says_disjoint same None false answer none = absurd (true≢false (sym answer))
  says_disjoint same (Some one) true answer found = absurd (true≢false answer)
  says_disjoint same (Some one) false answer (names, is, asking) =
      let e = element_at table one in
      let both = (within_exactly graph id question e).0
      (subst (λ (q : Question). IsInQuestion graph q e) same asking) in (e, is, both.0, both.1)
