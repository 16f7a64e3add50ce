-- The question of what is in a node and outside the arguments of arrows.
use Rattle.std.proofs.Common.{◌≡◌, ◌<◌, ℕ, false, List, [], ◌∷◌, ◌↔◌, map, Option, Some}
use Rattle.std.proofs.Common.{None, sym, subst}
use Rattle.cd_sets.specs.declared.node_id.NodeId.{NodeId}
use Rattle.cd_sets.specs.declared.question.Question.{Question}
use Rattle.cd_model.specs.AllOf.{AllOf}
use Rattle.cd_model.specs.Formula.{Graph, IsIn, in_node}
use Rattle.cd_model.specs.Thing.{Thing}
use Rattle.cd_elements.specs.Table.{element_at}
use Rattle.cd_elements.specs.declared.shape.ElementId.{ElementId}
use Rattle.cd_rules.specs.Clauses.{Pair}
use Rattle.cd_rules.specs.Family.{AsksNodes}
use Rattle.cd_rules.specs.Needs.{question}
use Rattle.cd_rules.specs.Within.{IsPairWithin}
use Rattle.cd_rules.proofs.Answered.{map_of_each, each_of_asked}
use Rattle.cd_rules.proofs.Asking.{each_of_map, each_of_set, asked_of_each}
use Rattle.cd_model.proofs.Ones.{each_weaker}
use Rattle.cd_apply.specs.Inner.Found.{IsFoundIn, IsFoundBeyond}
use Rattle.cd_apply.specs.Inner.Results.{IsInQuestion, IsBeyond}

module _ (argument : NodeId) (arrows : List Pair) where
  abbrev pub beyond_question : Question
  beyond_question = question (argument ∷ []) (map (λ arrow. arrow.0) arrows)

  pub beyond_exactly : (graph : Graph) (e : Thing)
      → IsInQuestion graph beyond_question e
      ↔ (IsIn graph e argument × AllOf (IsBeyond graph e) arrows)
  beyond_exactly graph e = (
    λ asking. let parts = each_of_asked (in_node graph e) (argument ∷ [])
        (map (λ arrow. arrow.0) arrows) asking in (
          parts.0.0,
          map_of_each (λ (arrow : Pair). arrow.0) (λ id. in_node graph e id false) arrows parts.1,
        ),
    λ both. asked_of_each (in_node graph e) (argument ∷ []) (map (λ arrow. arrow.0) arrows)
        (both.0, tt)
        (each_of_map (λ (arrow : Pair). arrow.0) (λ id. in_node graph e id false) arrows both.1),
  )

  pub beyond_asks : (count : ℕ) → argument.0 < count → AllOf (IsPairWithin count) arrows
      → AsksNodes count beyond_question
  beyond_asks count below within = (
    (below, tt),
    each_of_set (λ id. id.0 < count) (map (λ arrow. arrow.0) arrows)
        (each_of_map (λ (arrow : Pair). arrow.0) (λ id. id.0 < count) arrows
        (each_weaker (IsPairWithin count) (λ arrow. arrow.0.0 < count) (λ arrow both. both.0) arrows
        within)),
  )

  -- what is found in it
  pub found_beyond : (graph : Graph) (table : List Thing) (asked : Question)
      → asked ≡ beyond_question → (found : Option ElementId) → IsFoundIn graph table asked found
      → IsFoundBeyond graph table argument arrows found
  found_beyond graph table asked same None none = λ from is inside beyond.
      none from is (subst (λ (q : Question). IsInQuestion graph q from) (sym same)
      ((beyond_exactly graph from).1 (inside, beyond)))
  found_beyond graph table asked same (Some id) (names, is, asking) =
      let both = (beyond_exactly graph (element_at table id)).0
      (subst (λ (q : Question). IsInQuestion graph q (element_at table id)) same asking) in
      (names, is, both.0, both.1)
