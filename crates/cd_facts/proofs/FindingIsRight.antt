-- What is found of an element is right where what is known of its parts is.
use Rattle.std.proofs.Common.{◌≡◌, Bool, true, false, not, ◌⊎◌, List, [], ◌∷◌, Option, Some, None, map, bytes_eq}
use Rattle.std.proofs.Common.{if◌then◌else◌, inl, inr, refl, ap, subst}
use Rattle.std.proofs.lemmas.Bool.{cases_Bool}
use Rattle.std.proofs.lemmas.Slice.Eq.{bytes_eq-Decides}
use Rattle.cd_sets.specs.declared.node_id.NodeId.{NodeId}
use Rattle.cd_syntax.specs.Name.{Name}
use Rattle.cd_model.specs.Thing.{Thing}
use Rattle.cd_model.specs.Formula as formula
use Rattle.cd_model.specs.Formula.{Formula, Formulas, NoFormula, AFormula, Field, Graph, field_of}
use Rattle.cd_model.specs.Membership.{answers, holds, reader, labelled, mapping, record_reader}
use Rattle.cd_model.specs.Membership.{either}
use Rattle.cd_model.proofs.Labels.{IsOneOf, names_of}
use Rattle.cd_rules.proofs.LabelsNamed.{named_or_free}
use Rattle.cd_model.proofs.Ones.{one_on_left, one_on_right}
use Rattle.cd_elements.specs.declared.shape.ElementId.{ElementId}
use Rattle.cd_elements.specs.declared.shape.Shape.{Shape}
use Rattle.cd_elements.specs.declared.shape.Shape.TheVariants.{Int, Char, Atom, Pair, Xml, Record, Fun}
use Rattle.cd_elements.specs.Table.{element_at, element_by, fields_of, pairs_of}
use Rattle.cd_facts.specs.declared.finding.Finding.{Finding}
use Rattle.cd_facts.specs.declared.finding.Finding.TheVariants.{Known, Unknown}
use Rattle.cd_facts.specs.Inner.Rising.{item_at}
use Rattle.cd_facts.specs.Inner.Finding.{both, one_of, opposite, labels, look, look_by, finding_at_field}
use Rattle.cd_facts.specs.Inner.Finding.{finding_at_labels, finding_at_result, finding_at_pairs, finding_of}
use Rattle.cd_facts.specs.Inner.Finding.{finding_of_all, finding_of_any, Justifies}
use Rattle.cd_facts.specs.Inner.Known.{IsKnowledge}

-- facts of both, and of one of both
abbrev Both : (one other : Bool → Type 0) → Bool → Type 0
Both one other true = one true × other true
Both one other false = one false ⊎ other false

abbrev Either : (one other : Bool → Type 0) → Bool → Type 0
Either one other true = one true ⊎ other true
Either one other false = one false × other false

module _ (one other fact : Bool → Type 0) where
  both_right : ((answer : Bool) → Both one other answer → fact answer) → (first second : Finding)
      → Justifies one first → Justifies other second → Justifies fact (both first second)
  both_right leads (Known true) (Known true) is so = leads true (is, so)
  both_right leads (Known true) (Known false) is so = leads false (inr so)
  both_right leads (Known true) (Unknown id node) is so = tt
  both_right leads (Known false) second is so = leads false (inl is)
  both_right leads (Unknown id node) second is so = tt

  one_right : ((answer : Bool) → Either one other answer → fact answer) → (first second : Finding)
      → Justifies one first → Justifies other second → Justifies fact (one_of first second)
  one_right leads (Known false) (Known false) is so = leads false (is, so)
  one_right leads (Known false) (Known true) is so = leads true (inr so)
  one_right leads (Known false) (Unknown id node) is so = tt
  one_right leads (Known true) second is so = leads true (inl is)
  one_right leads (Unknown id node) second is so = tt

-- the opposite of what is known of a fact
opposite_right : (fact : Bool → Type 0) (first : Finding) → Justifies fact first
    → Justifies (λ answer. fact (not answer)) (opposite first)
opposite_right fact (Known true) is = is
opposite_right fact (Known false) is = is
opposite_right fact (Unknown id node) is = tt

-- a finding has each fact that follows from one that it has
leads_on : (one other : Bool → Type 0) → ((answer : Bool) → one answer → other answer) → (first : Finding)
    → Justifies one first → Justifies other first
leads_on one other leads (Known answer) is = leads answer is
leads_on one other leads (Unknown id node) is = tt

-- a label is one of those of a record, or nothing is there
abbrev names : List (Name × ElementId) → List Name
names parts = map (λ part. part.0) parts

part_or_none : (parts : List (Name × ElementId)) (label : Name) → IsOneOf (names parts) label ⊎ (item_at parts label ≡ None)
part_or_none [] label = inr refl
part_or_none (part ∷ parts) label = by_test (cases_Bool (bytes_eq part.0 label)) (part_or_none parts label)
  where
    by_test : (bytes_eq part.0 label ≡ true) ⊎ (bytes_eq part.0 label ≡ false)
        → IsOneOf (names parts) label ⊎ (item_at parts label ≡ None)
        → IsOneOf (names (part ∷ parts)) label ⊎ (item_at (part ∷ parts) label ≡ None)
    by_test (inl same) rest = inl (inl ((bytes_eq-Decides part.0 label).0 same))
    by_test (inr differ) (inl one) = inl (inr one)
    by_test (inr differ) (inr none) = inr (rw differ none)

module _ (graph : Graph) (table : List Thing) (known : ElementId → NodeId → Option Bool)
    (right : IsKnowledge graph table known) where
  -- what a part answers at a node
  abbrev AtNode : ElementId → NodeId → Bool → Type 0
  AtNode id node = answers graph (element_at table id) node

  look_right : (id : ElementId) (node : NodeId) → Justifies (AtNode id node) (look known id node)
  look_right id node = by_known (known id node) (right id node)
    where
      by_known : (is : Option Bool) → ((answer : Bool) → is ≡ Some answer → AtNode id node answer)
          → Justifies (AtNode id node) (look_by known is id node)
      by_known (Some answer) so = so answer refl
      by_known None so = tt

  -- what a record says of a label
  field_right : (parts : List (Name × ElementId)) (label : Name) (field : Field)
      → Justifies (labelled graph (fields_of table parts) label field) (finding_at_field known (item_at parts label) field)
  field_right [] label field = refl
  field_right (part ∷ parts) label field = by_test (bytes_eq part.0 label) (field_right parts label field)
    where
      by_test : (test : Bool)
          → Justifies (labelled graph (fields_of table parts) label field)
          (finding_at_field known (item_at parts label) field)
          → Justifies (λ answer. either test (AtNode part.1 field.type answer)
          (labelled graph (fields_of table parts) label field answer))
          (finding_at_field known (if test then Some part.1 else item_at parts label) field)
      by_test true later = look_right part.1 field.type
      by_test false later = later

  module _ (parts : List (Name × ElementId)) (named : List (Name × Field)) (rest : NodeId) where
    abbrev At : Name → Bool → Type 0
    At label = labelled graph (fields_of table parts) label (field_of named rest label)

    -- the record is as the type says of each of these labels, or is not so of some label
    abbrev AtEach : List Name → Bool → Type 0
    AtEach these true = (label : Name) → IsOneOf these label → At label true
    AtEach these false = (label : Name) × At label false

    labels_right : (these : List Name) → Justifies (AtEach these) (finding_at_labels known parts named rest these)
    labels_right [] = λ label none. elim none [ ]
    labels_right (label ∷ these) =
        both_right (At label) (AtEach these) (AtEach (label ∷ these)) leads
        (finding_at_field known (item_at parts label) (field_of named rest label))
        (finding_at_labels known parts named rest these) (field_right parts label (field_of named rest label))
        (labels_right these)
      where
        leads : (answer : Bool) → Both (At label) (AtEach these) answer → AtEach (label ∷ these) answer
        leads true is = λ other one. elim one [
          | inl same ↦ subst (λ (name : Name). At name true) same is.0
          | inr later ↦ is.1 other later
        ]
        leads false (inl is) = (label, is)
        leads false (inr is) = is

    -- a record is as the type says of a label that the type does not name and at which there is nothing
    free_is_right : (label : Name) → field_of named rest label ≡ record { optional = true; type = rest }
        → item_at parts label ≡ None → At label true
    free_is_right label free none =
        subst (At label) (ap (λ (field : Field). field.optional) free)
        (subst (λ what. Justifies (At label) (finding_at_field known what (field_of named rest label))) none
        (field_right parts label (field_of named rest label)))

    -- so the labels of both are enough
    each_label : AtEach (labels named parts) true → (label : Name) → At label true
    each_label each label = by_both (named_or_free named rest label) (part_or_none parts label)
      where
        by_both : IsOneOf (names_of named) label ⊎ (field_of named rest label ≡ record { optional = true; type = rest })
            → IsOneOf (names parts) label ⊎ (item_at parts label ≡ None) → At label true
        by_both (inl one) part = each label (one_on_left (λ name. name ≡ label) (names_of named) (names parts) one)
        by_both (inr free) (inl one) =
            each label (one_on_right (λ name. name ≡ label) (names_of named) (names parts) one)
        by_both (inr free) (inr none) = free_is_right label free none

    record_right : Justifies (record_reader (labelled graph (fields_of table parts)) (formula.Record named rest))
        (finding_at_labels known parts named rest (labels named parts))
    record_right =
        leads_on (AtEach (labels named parts))
        (record_reader (labelled graph (fields_of table parts)) (formula.Record named rest)) leads
        (finding_at_labels known parts named rest (labels named parts)) (labels_right (labels named parts))
      where
        leads : (answer : Bool) → AtEach (labels named parts) answer
            → record_reader (labelled graph (fields_of table parts)) (formula.Record named rest) answer
        leads true is = λ label. each_label is label
        leads false is = is

  -- the pairs of a function
  module _ (argument result : NodeId) where
    abbrev Outside : ElementId → Bool → Type 0
    Outside from answer = AtNode from argument (not answer)

    abbrev HasResult : Option ElementId → Bool → Type 0
    HasResult None answer = answer ≡ false
    HasResult (Some to) answer = AtNode to result answer

    outside_right : (from : ElementId) → Justifies (Outside from) (opposite (look known from argument))
    outside_right from = opposite_right (AtNode from argument) (look known from argument) (look_right from argument)

    result_right : (to : Option ElementId) → Justifies (HasResult to) (finding_at_result known to result)
    result_right None = refl
    result_right (Some to) = look_right to result

    pair_right : (from : ElementId) (to : Option ElementId)
        → Justifies (Either (Outside from) (HasResult to))
        (one_of (opposite (look known from argument)) (finding_at_result known to result))
    pair_right from to =
        one_right (Outside from) (HasResult to) (Either (Outside from) (HasResult to)) (λ answer is. is)
        (opposite (look known from argument)) (finding_at_result known to result) (outside_right from) (result_right to)

    abbrev MapsAll : List (ElementId × Option ElementId) → Bool → Type 0
    MapsAll pairs = mapping graph (pairs_of table pairs) argument result

    next_maps : (from : ElementId) (to : Option ElementId) (pairs : List (ElementId × Option ElementId)) (answer : Bool)
        → Both (Either (Outside from) (HasResult to)) (MapsAll pairs) answer
        → MapsAll ((from, to) ∷ pairs) answer
    next_maps from (Some to) pairs true is = is
    next_maps from (Some to) pairs false is = is
    next_maps from None pairs true (inl outside, rest) = (outside, rest)
    next_maps from None pairs true (inr none, rest) = absurd cc
    next_maps from None pairs false (inl inside) = inl inside.0
    next_maps from None pairs false (inr rest) = inr rest

    pairs_right : (pairs : List (ElementId × Option ElementId))
        → Justifies (MapsAll pairs) (finding_at_pairs known pairs argument result)
    pairs_right [] = refl
    pairs_right ((from, to) ∷ pairs) =
        both_right (Either (Outside from) (HasResult to)) (MapsAll pairs) (MapsAll ((from, to) ∷ pairs))
        (next_maps from to pairs)
        (one_of (opposite (look known from argument)) (finding_at_result known to result))
        (finding_at_pairs known pairs argument result) (pair_right from to) (pairs_right pairs)

  -- what the element of a shape answers at a formula that is no connective
  abbrev Reads : Shape → Formula → Bool → Type 0
  Reads shape = reader graph (element_by table shape)

  pair_formula : (first second : ElementId) (one other : NodeId)
      → Justifies (Reads (Pair first second) (formula.Pair one other)) (both (look known first one) (look known second other))
  pair_formula first second one other =
      both_right (AtNode first one) (AtNode second other) (Reads (Pair first second) (formula.Pair one other)) leads
      (look known first one) (look known second other) (look_right first one) (look_right second other)
    where
      leads : (answer : Bool) → Both (AtNode first one) (AtNode second other) answer
          → Reads (Pair first second) (formula.Pair one other) answer
      leads true is = is
      leads false is = is

  xml_formula : (tag attributes content : ElementId) (one other last : NodeId)
      → Justifies (Reads (Xml tag attributes content) (formula.Xml one other last))
      (both (look known tag one) (both (look known attributes other) (look known content last)))
  xml_formula tag attributes content one other last =
      both_right (AtNode tag one) Inside (Reads (Xml tag attributes content) (formula.Xml one other last)) leads
      (look known tag one) (both (look known attributes other) (look known content last)) (look_right tag one)
      (both_right (AtNode attributes other) (AtNode content last) Inside (λ answer is. is)
      (look known attributes other) (look known content last) (look_right attributes other) (look_right content last))
    where
      Inside : Bool → Type 0
      Inside = Both (AtNode attributes other) (AtNode content last)

      leads : (answer : Bool) → Both (AtNode tag one) Inside answer
          → Reads (Xml tag attributes content) (formula.Xml one other last) answer
      leads true is = (is.0, is.1.0, is.1.1)
      leads false is = is

  -- what it answers at all and at one of some formulas
  abbrev AllHold : Shape → Formulas → Bool → Type 0
  AllHold shape formulas answer = holds (Reads shape) (formula.And formulas) answer

  abbrev OneHolds : Shape → Formulas → Bool → Type 0
  OneHolds shape formulas answer = holds (Reads shape) (formula.Or formulas) answer

  first_and_rest : (shape : Shape) (is : Formula) (rest : Formulas) (answer : Bool)
      → Both (holds (Reads shape) is) (AllHold shape rest) answer → AllHold shape (AFormula is rest) answer
  first_and_rest shape is rest true so = so
  first_and_rest shape is rest false so = so

  first_or_rest : (shape : Shape) (is : Formula) (rest : Formulas) (answer : Bool)
      → Either (holds (Reads shape) is) (OneHolds shape rest) answer → OneHolds shape (AFormula is rest) answer
  first_or_rest shape is rest true so = so
  first_or_rest shape is rest false so = so

  mutual
    -- what is found of a formula is right
    pub finding_right : (shape : Shape) (is : Formula) → Justifies (holds (Reads shape) is) (finding_of known shape is)
    finding_right shape formula.Nothing = refl
    finding_right shape formula.Everything = refl
    finding_right shape (formula.And formulas) = all_right shape formulas
    finding_right shape (formula.Or formulas) = any_right shape formulas
    finding_right shape (formula.Not is) =
        opposite_right (holds (Reads shape) is) (finding_of known shape is) (finding_right shape is)
    finding_right (Int n) (formula.Ints set) = refl
    finding_right (Char c) (formula.Chars set) = refl
    finding_right (Atom name) (formula.Atoms set) = refl
    finding_right (Pair first second) (formula.Pair one other) = pair_formula first second one other
    finding_right (Xml tag attributes content) (formula.Xml one other last) =
        xml_formula tag attributes content one other last
    finding_right (Record parts) (formula.Record named rest) = record_right parts named rest
    finding_right (Fun pairs) (formula.Arrow argument result) = pairs_right argument result pairs
    finding_right _ _ = refl

    all_right : (shape : Shape) (formulas : Formulas) → Justifies (AllHold shape formulas) (finding_of_all known shape formulas)
    all_right shape NoFormula = tt
    all_right shape (AFormula is rest) =
        both_right (holds (Reads shape) is) (AllHold shape rest) (AllHold shape (AFormula is rest))
        (first_and_rest shape is rest) (finding_of known shape is) (finding_of_all known shape rest)
        (finding_right shape is) (all_right shape rest)

    any_right : (shape : Shape) (formulas : Formulas) → Justifies (OneHolds shape formulas) (finding_of_any known shape formulas)
    any_right shape NoFormula = tt
    any_right shape (AFormula is rest) =
        one_right (holds (Reads shape) is) (OneHolds shape rest) (OneHolds shape (AFormula is rest))
        (first_or_rest shape is rest) (finding_of known shape is) (finding_of_any known shape rest)
        (finding_right shape is) (any_right shape rest)
