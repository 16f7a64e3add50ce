-- Facts that are right make what is known right, also with one fact more, and over more elements and nodes.
use Rattle.std.proofs.Common.{◌≡◌, ◌<◌, Bool, true, false, List, [], ◌∷◌, ◌++◌, Some, None, nat_eq, if◌then◌else◌}
use Rattle.std.proofs.Common.{inl, inr, ◌⊎◌, refl, sym, subst, ap, ◌∙◌, arith, length-append, append-nil, append_assoc}
use Rattle.std.proofs.lemmas.Bool.{cases_Bool, and_parts}
use Rattle.std.proofs.lemmas.Bool.Decides.{nat_tests}
use Rattle.std.proofs.lemmas.List.{get_or_append_left}
use Rattle.cd_sets.specs.declared.node_id.NodeId.{NodeId}
use Rattle.cd_model.specs.Thing.{Thing, Atom}
use Rattle.cd_syntax.specs.Name.{Name}
use Rattle.cd_model.specs.Formula.{Formula, Field, Record, Graph, IsGraph, formula_at}
use Rattle.cd_model.specs.Membership.{answers, holds, reader}
use Rattle.cd_model.proofs.Extending.{kept_elements}
use Rattle.cd_model.proofs.Ones.{each_of_lists, each_weaker}
use Rattle.cd_elements.specs.declared.shape.ElementId.{ElementId}
use Rattle.cd_elements.specs.declared.shape.Shape.{Shape}
use Rattle.cd_elements.specs.Table.{element_at, element_by}
use Rattle.cd_facts.specs.declared.finding.Finding.{Finding}
use Rattle.cd_facts.specs.declared.membership.Membership.{Membership}
use Rattle.cd_facts.specs.Facts.{Fact, IsRight, AreRight, Grows}
use Rattle.cd_facts.specs.Inner.Known.{is_of, known}
use Rattle.cd_facts.specs.Inner.Finding.{Justifies, finding_of}
use Rattle.cd_facts.specs.Inner.Known.{IsKnowledge}
use Rattle.cd_facts.proofs.FindingIsRight.{finding_right}

-- numbers that are equal are of one element, and of one node
one_element : (first second : ElementId) → first.0 ≡ second.0 → first ≡ second
one_element first second same = λ i. record { 0 = same i }

one_node : (first second : NodeId) → first.0 ≡ second.0 → first ≡ second
one_node first second same = λ i. record { 0 = same i }

-- a membership that passes the test is that of the element and the node
same_element : (id : ElementId) (node : NodeId) (asked : Membership) → is_of id node asked ≡ true → asked.id ≡ id
same_element id node asked is =
    let both = and_parts (nat_eq id.0 asked.id.0) (nat_eq node.0 asked.node.0) is in
    one_element asked.id id (grind (arith, nat_tests))

same_node : (id : ElementId) (node : NodeId) (asked : Membership) → is_of id node asked ≡ true → asked.node ≡ node
same_node id node asked is =
    let both = and_parts (nat_eq id.0 asked.id.0) (nat_eq node.0 asked.node.0) is in
    one_node asked.node node (grind (arith, nat_tests))

module _ (graph : Graph) (table : List Thing) where
  pub facts_are_knowledge : (facts : List Fact) → AreRight graph table facts → IsKnowledge graph table (known facts)
  facts_are_knowledge [] right id node answer none = absurd cc
  facts_are_knowledge (fact ∷ facts) right id node answer is =
      by_test (cases_Bool (is_of id node fact.0)) (facts_are_knowledge facts right.1 id node answer)
    where
      by_test : (is_of id node fact.0 ≡ true) ⊎ (is_of id node fact.0 ≡ false)
          → (known facts id node ≡ Some answer → answers graph (element_at table id) node answer)
          → answers graph (element_at table id) node answer
      by_test (inl same) later =
          let found : Some fact.1 ≡ Some answer = rw same at is in
          let says : fact.1 ≡ answer = cc found in
          subst (λ id. answers graph (element_at table id) node answer) (same_element id node fact.0 same)
          (subst (λ node. answers graph (element_at table fact.0.id) node answer) (same_node id node fact.0 same)
          (subst (answers graph (element_at table fact.0.id) fact.0.node) says right.0.1))
      by_test (inr other) later = later (rw other at is)

  pub right_more : (facts : List Fact) (fact : Fact) → AreRight graph table facts → IsRight graph table fact
      → AreRight graph table (facts ++ fact ∷ [])
  right_more facts fact right is = each_of_lists (IsRight graph table) facts (fact ∷ []) right (is, tt)

-- what is not known of an element with a higher number stays so
pub still_unknown : (facts : List Fact) (asked : Membership) (answer : Bool) (id : ElementId) (node : NodeId) → asked.id.0 < id.0
    → known facts id node ≡ None
    → known (facts ++ (asked, answer) ∷ []) id node ≡ None
still_unknown [] asked answer id node above none =
    let other : nat_eq id.0 asked.id.0 ≡ false = grind (arith, nat_tests) in rw other refl
still_unknown (fact ∷ facts) asked answer id node above none =
    by_test (is_of id node fact.0) none (still_unknown facts asked answer id node above)
  where
    by_test : (test : Bool) → (if test then Some fact.1 else known facts id node) ≡ None
        → (known facts id node ≡ None → known (facts ++ (asked, answer) ∷ []) id node ≡ None)
        → (if test then Some fact.1 else known (facts ++ (asked, answer) ∷ []) id node) ≡ None
    by_test true none later = absurd cc
    by_test false none later = later none

-- over a graph and a table with more in them
pub right_in_more : (graph more : Graph) (table others : List Thing) (facts : List Fact) → IsGraph graph → AreRight graph table facts
    → AreRight (graph ++ more) (table ++ others) facts
right_in_more graph more table others facts sound = each_weaker (IsRight graph table) (IsRight (graph ++ more) (table ++ others)) one facts
  where
    one : (fact : Fact) → IsRight graph table fact → IsRight (graph ++ more) (table ++ others) fact
    one fact right = (
      (omega (arith, length-append table others, right.0.0), omega (arith, length-append graph more, right.0.1)),
      subst (λ (is : Thing). answers (graph ++ more) is fact.0.node fact.1)
          (sym (get_or_append_left table others (Atom []) fact.0.id.0 right.0.0))
          ((kept_elements graph more sound (element_at table fact.0.id) fact.0.node fact.1 right.0.1).0 right.1),
    )

-- what is found by facts that are right is so of the element and the node
pub found_right : (graph : Graph) (table : List Thing) (facts : List Fact) (id : ElementId) (node : NodeId) (shape : Shape)
    (form : Formula) (finding : Finding) → AreRight graph table facts
    → element_by table shape ≡ element_at table id → form ≡ formula_at graph node → finding ≡ finding_of (known facts) shape form
    → Justifies (answers graph (element_at table id) node) finding
found_right graph table facts id node shape form finding right element formula found =
    subst (λ (is : Thing). Justifies (answers graph is node) finding) element
    (subst (λ (form : Formula). Justifies (holds (reader graph (element_by table shape)) form) finding) formula
    (subst (Justifies (holds (reader graph (element_by table shape)) form)) (sym found)
    (finding_right graph table (known facts) (facts_are_knowledge graph table facts right) shape form)))

-- and so of the element and a record type
pub found_right_of_type : (graph : Graph) (table : List Thing) (facts : List Fact) (id : ElementId) (shape : Shape)
    (named : List (Name × Field)) (rest : NodeId) (finding : Finding) → AreRight graph table facts
    → element_by table shape ≡ element_at table id → finding ≡ finding_of (known facts) shape (Record named rest)
    → Justifies (reader graph (element_at table id) (Record named rest)) finding
found_right_of_type graph table facts id shape named rest finding right element found =
    subst (λ (is : Thing). Justifies (reader graph is (Record named rest)) finding) element
    (subst (Justifies (reader graph (element_by table shape) (Record named rest))) (sym found)
    (finding_right graph table (known facts) (facts_are_knowledge graph table facts right) shape (Record named rest)))

-- facts that are as they were, and with one more at their end
pub none_added : (facts : List Fact) → Grows facts facts
none_added facts = ([], sym (append-nil facts))

pub one_added : (old facts new : List Fact) (fact : Fact) → Grows old facts → new ≡ facts ++ fact ∷ [] → Grows old new
one_added old facts new fact grows added = (
  grows.0 ++ fact ∷ [],
  added ∙ ap (λ facts. facts ++ fact ∷ []) grows.1 ∙ append_assoc old grows.0 (fact ∷ []),
)

pub grown_on : (old facts new : List Fact) → Grows old facts → Grows facts new → Grows old new
grown_on old facts new grows more = (
  grows.0 ++ more.0,
  more.1 ∙ ap (λ facts. facts ++ more.0) grows.1 ∙ append_assoc old grows.0 more.0,
)
