-- The pieces of the boxes of a question's clauses are its products.
use Rattle.std.proofs.Common.{◌≡◌, Bool, true, false, List, [], ◌∷◌, ◌++◌, ◌⊎◌, inl, inr, length}
use Rattle.std.proofs.Common.{subst, sym, ap, ◌∙◌, append_assoc}
use Rattle.cd_sets.specs.declared.question.Question.{Question}
use Rattle.cd_model.specs.AllOf.{AllOf, AnyOf}
use Rattle.cd_model.specs.BuiltIns.{built_ins}
use Rattle.cd_model.specs.Formula.{Graph, IsGraph, in_node}
use Rattle.cd_model.specs.Interfaces.{Interfaces, OfNodes, OfWritten, value_in_node}
use Rattle.cd_model.specs.Membership.{closure_mapping}
use Rattle.cd_model.specs.Thing.{Thing, IsElement, IsValue}
use Rattle.cd_model.specs.Types.{no_closure}
use Rattle.cd_model.proofs.Sorts as sort
use Rattle.cd_rules.specs.Clauses.{Clause}
use Rattle.cd_rules.specs.Family.{AsksNodes}
use Rattle.cd_rules.specs.Members.{HasElement}
use Rattle.cd_rules.proofs.EachQuestion.{element_too}
use Rattle.cd_rules.proofs.ValuesDecided.{in_or_outside, in_or_outside_written}
use Rattle.cd_products.specs.QuestionBoxes.{AreDecided, DropsEmpty, KeepsInhabited, InQuestions}
use Rattle.cd_products.specs.QuestionBoxes.{question_pieces, pairs_of, triples_of}
use Rattle.cd_products.specs.Products.{AreProducts, Cover, CoverValues, AreInterfacesOf}
use Rattle.cd_products.specs.Products.{AreTriples, CoverTriples, CoverTripleValues}
use Rattle.cd_products.specs.Inner.ClauseBoxes.{AreClauses, pair_boxes, triple_boxes}
use Rattle.cd_products.specs.Inner.Tests.{IsTested, IsTest}
use Rattle.cd_products.proofs.ClausesOfPairs.{are_pair_clauses}
use Rattle.cd_products.proofs.ClausesOfXmls.{cover_xml, make_xml}
use Rattle.cd_products.proofs.Decided.{elements_decided}
use Rattle.cd_products.proofs.LongerGraphs.{clauses_kept, test_of_longer}
use Rattle.cd_products.proofs.Products.{products_are, products_cover, triples_are, triples_cover}
use Rattle.cd_products.proofs.Tests.{right_test}

-- a longer graph begins with the built-in nodes too
abbrev begins_longer : (graph more : Graph) → ((rest : Graph) × (graph ≡ built_ins ++ rest))
    → (rest : Graph) × (graph ++ more ≡ built_ins ++ rest)
begins_longer graph more begins = (
  begins.0 ++ more,
  ap (λ nodes. nodes ++ more) begins.1 ∙ append_assoc built_ins begins.0 more,
)

-- what a test that is right of each box says of things
module _ (graph : Graph) (test : List Question → Bool)
    (right : (box : List Question) → IsTested graph box (test box)) where
  none_inside : (box : List Question) (elements : List Thing)
      → AnyOf (λ question. HasElement graph question → ⊥) box
      → AllOf IsElement elements → InQuestions (in_node graph) elements box → ⊥
  none_inside [] elements one sorts inside = one
  none_inside (question ∷ box) [] one sorts inside = inside
  none_inside (question ∷ box) (e ∷ elements) (inl none) sorts inside =
      none (e, sorts.0, inside.0)
  none_inside (question ∷ box) (e ∷ elements) (inr later) sorts inside =
      none_inside box elements later sorts.1 inside.1

  pub drops : DropsEmpty (in_node graph) IsElement test
  drops box elements empty =
      none_inside box elements (subst (IsTested graph box) empty (right box))

  pub keeps : KeepsInhabited (in_node graph) IsElement test
  keeps box inhabited = subst (IsTested graph box) inhabited (right box)

  module _ (begins : (more : Graph) × (graph ≡ built_ins ++ more)) (sound : IsGraph graph)
      (interfaces : Interfaces) where
    no_values : (box : List Question) (values : List Thing)
        → AnyOf (λ question. HasElement graph question → ⊥) box
        → AllOf IsValue values → InQuestions (value_in_node graph interfaces) values box → ⊥
    no_values [] values one sorts inside = one
    no_values (question ∷ box) [] one sorts inside = inside
    no_values (question ∷ box) (v ∷ values) (inl none) sorts inside =
        none (element_too graph begins.0 begins.1 sound question interfaces v sorts.0 inside.0)
    no_values (question ∷ box) (v ∷ values) (inr later) sorts inside =
        no_values box values later sorts.1 inside.1

    pub drops_values : DropsEmpty (value_in_node graph interfaces) IsValue test
    drops_values box values empty =
        no_values box values (subst (IsTested graph box) empty (right box))

-- values are decided under interfaces of the graph
pub values_decided : (graph : Graph) → ((more : Graph) × (graph ≡ built_ins ++ more))
    → IsGraph graph → (interfaces : Interfaces) → AreInterfacesOf graph interfaces
    → AreDecided (value_in_node graph interfaces) IsValue
values_decided graph begins sound (OfNodes other arrows) same v id is =
    subst (λ (by : Graph). value_in_node graph (OfNodes by arrows) v id true
    ⊎ value_in_node graph (OfNodes by arrows) v id false) (sym same)
    (in_or_outside graph begins.0 begins.1 sound arrows v id)
values_decided graph begins sound (OfWritten count others) agree v id is =
    in_or_outside_written graph begins.0 begins.1 sound agree.0 count others agree.1 v id

-- pairs
module _ (graph : Graph) (begins : (more : Graph) × (graph ≡ built_ins ++ more))
    (sound : IsGraph graph) (question : Question) (asks : AsksNodes (length graph) question)
    (all : List Clause) (are : AreClauses graph question all) (boxes : List (List Question)) where
  pub are_products : ((test : List Question → Bool) → IsTest graph test
      → boxes ≡ question_pieces test (pair_boxes all))
      → AreProducts (in_node graph) IsElement question (pairs_of boxes)
  are_products made =
      let found = right_test graph begins.0 begins.1 sound in
      subst (λ boxes. AreProducts (in_node graph) IsElement question (pairs_of boxes))
      (sym (made found.0 (λ box asks. found.1 box)))
      (products_are (in_node graph) IsElement found.0 sort.elements.pair sort.elements.xml
      (elements_decided graph) (drops graph found.0 found.1) question (pair_boxes all)
      (keeps graph found.0 found.1)
      (are_pair_clauses graph no_closure question all are IsElement))

  pub cover_values : ((test : List Question → Bool) → IsTest graph test
      → boxes ≡ question_pieces test (pair_boxes all))
      → CoverValues graph question (pairs_of boxes)
  cover_values made more interfaces sound_too of =
      let longer = graph ++ more in
      let begins_too = begins_longer graph more begins in
      let found = right_test longer begins_too.0 begins_too.1 sound_too in
      let answers = value_in_node longer interfaces in
      subst (λ boxes. Cover answers IsValue question (pairs_of boxes))
      (sym (made found.0 (test_of_longer graph more sound found.0 found.1)))
      (products_cover answers IsValue found.0 sort.values.pair sort.values.xml
      (values_decided longer begins_too sound_too interfaces of)
      (drops_values longer found.0 found.1 begins_too sound_too interfaces)
      question (pair_boxes all)
      (are_pair_clauses longer (closure_mapping longer interfaces) question all
      (clauses_kept graph more question asks all are) IsValue))

-- XML things
module _ (graph : Graph) (begins : (more : Graph) × (graph ≡ built_ins ++ more))
    (sound : IsGraph graph) (question : Question) (asks : AsksNodes (length graph) question)
    (all : List Clause) (are : AreClauses graph question all) (boxes : List (List Question)) where
  pub are_triples : ((test : List Question → Bool) → IsTest graph test
      → boxes ≡ question_pieces test (triple_boxes all))
      → AreTriples (in_node graph) IsElement question (triples_of boxes)
  are_triples made =
      let found = right_test graph begins.0 begins.1 sound in
      subst (λ boxes. AreTriples (in_node graph) IsElement question (triples_of boxes))
      (sym (made found.0 (λ box asks. found.1 box)))
      (triples_are (in_node graph) IsElement found.0 sort.elements.pair sort.elements.xml
      (elements_decided graph) (drops graph found.0 found.1) question (triple_boxes all)
      (keeps graph found.0 found.1)
      (cover_xml graph begins question all are no_closure IsElement
      (λ tag attributes content sort. (sort.0, sort.1)))
      (make_xml graph begins question all are))

  pub cover_triple_values : ((test : List Question → Bool) → IsTest graph test
      → boxes ≡ question_pieces test (triple_boxes all))
      → CoverTripleValues graph question (triples_of boxes)
  cover_triple_values made more interfaces sound_too of =
      let longer = graph ++ more in
      let begins_too = begins_longer graph more begins in
      let found = right_test longer begins_too.0 begins_too.1 sound_too in
      let answers = value_in_node longer interfaces in
      subst (λ boxes. CoverTriples answers IsValue question (triples_of boxes))
      (sym (made found.0 (test_of_longer graph more sound found.0 found.1)))
      (triples_cover answers IsValue found.0 sort.values.pair sort.values.xml
      (values_decided longer begins_too sound_too interfaces of)
      (drops_values longer found.0 found.1 begins_too sound_too interfaces)
      question (triple_boxes all)
      (cover_xml longer begins_too question all (clauses_kept graph more question asks all are)
      (closure_mapping longer interfaces) IsValue
      (λ tag attributes content sort. (sort.0, sort.1))))
