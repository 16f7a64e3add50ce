-- Each value is in a node or outside it, and what no element is in no value is in.
use Rattle.std.proofs.Common.{◌≡◌, ◌++◌, ◌<◌, ◌⊎◌, inl, inr, Bool, true, false, List, [], ◌∷◌}
use Rattle.std.proofs.Common.{length, Option, refl, sym, ap, subst, ◌∙◌, append_assoc, nat_lt}
use Rattle.std.proofs.lemmas.Bool.{cases_Bool, ltb-true, ltb-false}
use Rattle.cd_sets.specs.declared.node_id.NodeId.{NodeId}
use Rattle.cd_sets.specs.declared.question.Question.{Question}
use Rattle.cd_syntax.specs.Name.{Name}
use Rattle.cd_model.specs.AllOf.{AllOf}
use Rattle.cd_model.specs.BuiltIns.{built_ins}
use Rattle.cd_model.specs.Formula.{Graph, IsGraph, at_formula, holds, in_node}
use Rattle.cd_model.specs.Interfaces.{Interfaces, OfNodes, OfWritten, admits, value_in_node}
use Rattle.cd_model.specs.Interfaces.{value_reader}
use Rattle.cd_model.specs.Thing.{Thing, IsElement, IsValue}
use Rattle.cd_model.proofs.BothWays.{itself}
use Rattle.cd_model.proofs.Extending.{kept_values}
use Rattle.cd_model.proofs.HoldsOrNot.{HoldsOrNot}
use Rattle.cd_model.proofs.SoundOrNot.{value_or_not}
use Rattle.cd_matching.specs.Captures.{Captures}
use Rattle.cd_matching.specs.Pattern.{Pattern}
use Rattle.cd_matching.specs.Takes.{Answering, IsRight, ValueTakes}
use Rattle.cd_matching.proofs.TakesOnce.{values_have_results}
use Rattle.cd_products.specs.Products.{AreInterfacesOf}
use Rattle.cd_products.specs.QuestionBoxes.{AreDecided, IsInhabited, DropsEmpty, InQuestions}
use Rattle.cd_rules.proofs.EachQuestion.{element_too}
use Rattle.cd_rules.proofs.NumbersBeyond.{beyond}
use Rattle.cd_rules.proofs.ValuesDecided.{in_or_outside, in_or_outside_written}
use Rattle.cd_filter.specs.Accepting.{AreRight}
use Rattle.cd_filter.specs.OfProgram.{AreOfProgram}

-- a test that is right of each type, where each thing of a sort is in it or outside
module _ {T : Type 0} (answers : Answering T) (Sort : Thing → Type 0)
    (sort_or_not : (d : Thing) → HoldsOrNot (Sort d))
    (decided : (d : Thing) (type : T) → Sort d → answers d type true ⊎ answers d type false) where
  one_answer : (d : Thing) (type : T) → HoldsOrNot (Sort d)
      → (answer : Bool) × (Sort d → answers d type answer)
  one_answer d type (inl is) = elim (decided d type is) [
    | inl inside ↦ (true, λ here. inside)
    | inr outside ↦ (false, λ here. outside)
  ]
  one_answer d type (inr not) = (false, λ here. absurd (not here))

  right_tests : (test : T → Thing → Bool) × ((type : T) → IsRight answers Sort type (test type))
  right_tests = (
    λ type d. (one_answer d type (sort_or_not d)).0,
    λ type d is. (one_answer d type (sort_or_not d)).1 is,
  )

-- at the nodes of the graph whose nodes are the arrows
module _ (graph more : Graph) (begins : graph ≡ built_ins ++ more) (sound : IsGraph graph) where
  in_graph : (interfaces : Interfaces) → AreInterfacesOf graph interfaces → (v : Thing)
      (id : NodeId) → value_in_node graph interfaces v id true ⊎ value_in_node graph interfaces v id false
  in_graph (OfNodes other arrows) same v id = subst
      (λ g. value_in_node graph (OfNodes g arrows) v id true
      ⊎ value_in_node graph (OfNodes g arrows) v id false) (sym same)
      (in_or_outside graph more begins sound arrows v id)
  in_graph (OfWritten count others) (arrows, agree) v id =
      in_or_outside_written graph more begins sound arrows count others agree v id

module _ (graph : Graph) (interfaces : Interfaces) (is : AreOfProgram graph interfaces) where
  pub decided : AreDecided (value_in_node graph interfaces) IsValue
  decided v id value = elim (cases_Bool (nat_lt id.0 (length graph))) [
    | inl below ↦ at_old (ltb-true id.0 (length graph) below)
    | inr not ↦ inr (subst
        (λ f. holds (at_formula (value_reader graph interfaces v)) f false)
        (sym (beyond graph id.0 (ltb-false id.0 (length graph) not))) refl)
  ]
    where
      kept : (answer : Bool) → id.0 < length graph
          → value_in_node (graph ++ is.later) interfaces v id answer
          → value_in_node graph interfaces v id answer
      kept answer below = (kept_values graph is.later is.sound (admits interfaces)
          (admits interfaces) (λ function pairs element. itself) v id answer below).1

      at_old : id.0 < length graph → value_in_node graph interfaces v id true
          ⊎ value_in_node graph interfaces v id false
      at_old below = elim (in_graph (graph ++ is.later) (is.others ++ is.later)
          (ap (λ g. g ++ is.later) is.built_in ∙ append_assoc built_ins is.others is.later)
          is.still_sound interfaces is.arrows v id) [
            | inl inside ↦ inl (kept true below inside)
            | inr outside ↦ inr (kept false below outside)
          ]

  -- so there are right tests of values, and each pattern has a result of each value
  pub tests : (test : NodeId → Thing → Bool)
      × AreRight (value_in_node graph interfaces) IsValue (length graph) test
  tests = let all = right_tests (value_in_node graph interfaces) IsValue value_or_not decided in
      (all.0, λ id below. all.1 id)

  pub patterns_answer : (p : Pattern NodeId) (v : Thing)
      → (result : Option (Captures Name)) × ValueTakes graph interfaces p v result
  patterns_answer = values_have_results graph interfaces decided

-- a question without elements has no values, under any interfaces
module _ (graph more : Graph) (begins : graph ≡ built_ins ++ more) (sound : IsGraph graph)
    (interfaces : Interfaces) where
  pub has_element : (question : Question)
      → IsInhabited (value_in_node graph interfaces) IsValue question
      → IsInhabited (in_node graph) IsElement question
  has_element question (v, value, inside) =
      element_too graph more begins sound question interfaces v value inside

  elements_in : (values : List Thing) (box : List Question) → AllOf IsValue values
      → InQuestions (value_in_node graph interfaces) values box
      → (elements : List Thing) × AllOf IsElement elements
      × InQuestions (in_node graph) elements box
  elements_in [] [] sorts inside = ([], tt, tt)
  elements_in [] (question ∷ box) sorts inside = absurd inside
  elements_in (v ∷ values) [] sorts inside = absurd inside
  elements_in (v ∷ values) (question ∷ box) sorts inside =
      let first = has_element question (v, sorts.0, inside.0) in
      let rest = elements_in values box sorts.1 inside.1 in
      (first.0 ∷ rest.0, (first.1, rest.1), (first.2, rest.2))

  pub drops_values : (inhabited : List Question → Bool)
      → DropsEmpty (in_node graph) IsElement inhabited
      → DropsEmpty (value_in_node graph interfaces) IsValue inhabited
  drops_values inhabited drops box values empty sorts inside =
      let found = elements_in values box sorts inside in
      drops box found.0 empty found.1 found.2
