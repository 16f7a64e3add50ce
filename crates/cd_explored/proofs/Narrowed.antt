-- A question with one node more holds what is in that node too, or outside it.
use Rattle.std.proofs.Common.{◌<◌, ℕ, true, false}
use Rattle.cd_sets.specs.declared.node_id.NodeId.{NodeId}
use Rattle.cd_sets.specs.declared.question.Question.{Question}
use Rattle.cd_model.specs.Thing.{Thing}
use Rattle.cd_model.specs.Types.{Answers}
use Rattle.cd_rules.specs.Family.{AsksNodes}
use Rattle.cd_products.specs.QuestionBoxes.{within_node, without_node}
use Rattle.cd_products.proofs.OneMore.{each_with, each_without}
use Rattle.cd_filter.specs.Capturing.{IsNarrowed}

module _ (answers : Thing → Answers NodeId) (Sort : Thing → Type 0) (id : NodeId)
    (question : Question) where
  pub within_narrows : IsNarrowed answers Sort true id question (within_node id question)
  within_narrows d sound = (
    λ h. let parts = each_without (λ one. answers d one true) id question.pos h.0 in
        ((parts.1, h.1), parts.0),
    λ h. (each_with (λ one. answers d one true) id question.pos h.1 h.0.0, h.0.1),
  )

  pub without_narrows : IsNarrowed answers Sort false id question (without_node id question)
  without_narrows d sound = (
    λ h. let parts = each_without (λ one. answers d one false) id question.neg h.1 in
        ((h.0, parts.1), parts.0),
    λ h. (h.0.0, each_with (λ one. answers d one false) id question.neg h.1 h.0.1),
  )

pub within_asks : (count : ℕ) (id : NodeId) (question : Question) → id.0 < count
    → AsksNodes count question → AsksNodes count (within_node id question)
within_asks count id question below asks =
    (each_with (λ one. one.0 < count) id question.pos below asks.0, asks.1)

pub without_asks : (count : ℕ) (id : NodeId) (question : Question) → id.0 < count
    → AsksNodes count question → AsksNodes count (without_node id question)
without_asks count id question below asks =
    (asks.0, each_with (λ one. one.0 < count) id question.neg below asks.1)
