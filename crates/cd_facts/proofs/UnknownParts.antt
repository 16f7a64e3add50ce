-- Where something has to be known first, it is not known yet, and it is of a part of the element at a node of the graph.
use Rattle.std.proofs.Common.{◌≡◌, ◌<◌, ℕ, Bool, true, false, List, [], ◌∷◌, ◌++◌, Option, Some, None, map, bytes_eq, if◌then◌else◌, refl}
use Rattle.cd_sets.specs.declared.node_id.NodeId.{NodeId}
use Rattle.cd_syntax.specs.Name.{Name}
use Rattle.cd_model.specs.AllOf.{AllOf}
use Rattle.cd_model.specs.Formula as formula
use Rattle.cd_model.specs.Formula.{Formula, Formulas, NoFormula, AFormula, Field, IsFormula, AreFormulas, field_of}
use Rattle.cd_elements.specs.declared.shape.ElementId.{ElementId}
use Rattle.cd_elements.specs.declared.shape.Shape.{Shape}
use Rattle.cd_elements.specs.declared.shape.Shape.TheVariants.{Int, Char, Atom, Pair, Xml, Record, Fun}
use Rattle.cd_elements.specs.Table.{ArePartsBelow, IsResultBelow}
use Rattle.cd_facts.specs.declared.finding.Finding.{Finding}
use Rattle.cd_facts.specs.declared.finding.Finding.TheVariants.{Known, Unknown}
use Rattle.cd_facts.specs.Inner.Rising.{item_at}
use Rattle.cd_facts.specs.Inner.Finding.{both, one_of, opposite, look, look_by, finding_at_field, finding_at_labels}
use Rattle.cd_facts.specs.Inner.Finding.{finding_at_result, finding_at_pairs, finding_of, finding_of_all, finding_of_any}
use Rattle.cd_facts.specs.Inner.Finding.{AsksPart}

module _ (known : ElementId → NodeId → Option Bool) (bound size : ℕ) where
  abbrev Asks : Finding → Type 0
  Asks = AsksPart known bound size

  both_ask : (first second : Finding) → Asks first → Asks second → Asks (both first second)
  both_ask (Known true) second is so = so
  both_ask (Known false) second is so = tt
  both_ask (Unknown id node) second is so = is

  one_asks : (first second : Finding) → Asks first → Asks second → Asks (one_of first second)
  one_asks (Known true) second is so = tt
  one_asks (Known false) second is so = so
  one_asks (Unknown id node) second is so = is

  opposite_asks : (first : Finding) → Asks first → Asks (opposite first)
  opposite_asks (Known answer) is = tt
  opposite_asks (Unknown id node) is = is

  look_asks : (id : ElementId) (node : NodeId) → id.0 < bound → node.0 < size → Asks (look known id node)
  look_asks id node below within = by_known (known id node) refl
    where
      by_known : (is : Option Bool) → known id node ≡ is → Asks (look_by known is id node)
      by_known (Some answer) same = tt
      by_known None same = (below, within, same)

  -- what a record type says of a label is of its nodes
  field_within : (named : List (Name × Field)) (rest : NodeId) (label : Name) → AllOf (λ field. field.1.type.0 < size) named
      → rest.0 < size
      → (field_of named rest label).type.0 < size
  field_within [] rest label within last = last
  field_within (field ∷ named) rest label within last =
      by_test (bytes_eq field.0 label) (field_within named rest label within.1 last)
    where
      by_test : (test : Bool) → (field_of named rest label).type.0 < size
          → (if test then field.1 else field_of named rest label).type.0 < size
      by_test true later = within.0
      by_test false later = later

  field_asks : (parts : List (Name × ElementId)) (label : Name) (field : Field) → AllOf (λ part. part.1.0 < bound) parts
      → field.type.0 < size
      → Asks (finding_at_field known (item_at parts label) field)
  field_asks [] label field below within = tt
  field_asks (part ∷ parts) label field below within =
      by_test (bytes_eq part.0 label) (field_asks parts label field below.1 within)
    where
      by_test : (test : Bool) → Asks (finding_at_field known (item_at parts label) field)
          → Asks (finding_at_field known (if test then Some part.1 else item_at parts label) field)
      by_test true later = look_asks part.1 field.type below.0 within
      by_test false later = later

  labels_ask : (parts : List (Name × ElementId)) (named : List (Name × Field)) (rest : NodeId) (labels : List Name)
      → AllOf (λ part. part.1.0 < bound) parts → AllOf (λ field. field.1.type.0 < size) named → rest.0 < size
      → Asks (finding_at_labels known parts named rest labels)
  labels_ask parts named rest [] below within last = tt
  labels_ask parts named rest (label ∷ labels) below within last =
      both_ask (finding_at_field known (item_at parts label) (field_of named rest label))
      (finding_at_labels known parts named rest labels)
      (field_asks parts label (field_of named rest label) below (field_within named rest label within last))
      (labels_ask parts named rest labels below within last)

  result_asks : (to : Option ElementId) (node : NodeId) → IsResultBelow bound to → node.0 < size
      → Asks (finding_at_result known to node)
  result_asks None node below within = tt
  result_asks (Some to) node below within = look_asks to node below within

  pairs_ask : (pairs : List (ElementId × Option ElementId)) (argument result : NodeId)
      → AllOf (λ pair. (pair.0.0 < bound) × IsResultBelow bound pair.1) pairs → argument.0 < size → result.0 < size
      → Asks (finding_at_pairs known pairs argument result)
  pairs_ask [] argument result below one other = tt
  pairs_ask (pair ∷ pairs) argument result below one other =
      both_ask (one_of (opposite (look known pair.0 argument)) (finding_at_result known pair.1 result))
      (finding_at_pairs known pairs argument result)
      (one_asks (opposite (look known pair.0 argument)) (finding_at_result known pair.1 result)
      (opposite_asks (look known pair.0 argument) (look_asks pair.0 argument below.0.0 one))
      (result_asks pair.1 result below.0.1 other)) (pairs_ask pairs argument result below.1 one other)

  -- a record type asks of the parts of records alone
  pub type_asks : (shape : Shape) (named : List (Name × Field)) (rest : NodeId) → ArePartsBelow bound shape
      → AllOf (λ field. field.1.type.0 < size) named → rest.0 < size
      → Asks (finding_of known shape (formula.Record named rest))
  type_asks (Record parts) named rest below within last =
      labels_ask parts named rest (map (λ field. field.0) named ++ map (λ part. part.0) parts) below within last
  type_asks (Int n) named rest below within last = tt
  type_asks (Char c) named rest below within last = tt
  type_asks (Atom name) named rest below within last = tt
  type_asks (Pair first second) named rest below within last = tt
  type_asks (Xml tag attributes content) named rest below within last = tt
  type_asks (Fun pairs) named rest below within last = tt

  mutual
    pub finding_asks : (shape : Shape) (is : Formula) → ArePartsBelow bound shape → IsFormula size is
        → Asks (finding_of known shape is)
    finding_asks shape formula.Nothing below within = tt
    finding_asks shape formula.Everything below within = tt
    finding_asks shape (formula.And formulas) below within = all_ask shape formulas below within
    finding_asks shape (formula.Or formulas) below within = any_asks shape formulas below within
    finding_asks shape (formula.Not is) below within =
        opposite_asks (finding_of known shape is) (finding_asks shape is below within)
    finding_asks (Pair first second) (formula.Pair one other) below within =
        both_ask (look known first one) (look known second other) (look_asks first one below.0 within.0)
        (look_asks second other below.1 within.1)
    finding_asks (Xml tag attributes content) (formula.Xml one other last) below within =
        both_ask (look known tag one) (both (look known attributes other) (look known content last))
        (look_asks tag one below.0 within.0)
        (both_ask (look known attributes other) (look known content last) (look_asks attributes other below.1 within.1)
        (look_asks content last below.2 within.2))
    finding_asks (Record parts) (formula.Record named rest) below within =
        labels_ask parts named rest (map (λ field. field.0) named ++ map (λ part. part.0) parts) below within.1 within.2
    finding_asks (Fun pairs) (formula.Arrow argument result) below within =
        pairs_ask pairs argument result below within.0 within.1
    finding_asks (Int n) (formula.Ints set) below within = tt
    finding_asks (Char c) (formula.Chars set) below within = tt
    finding_asks (Atom name) (formula.Atoms set) below within = tt
    finding_asks _ _ below within = tt

    all_ask : (shape : Shape) (formulas : Formulas) → ArePartsBelow bound shape → AreFormulas size formulas
        → Asks (finding_of_all known shape formulas)
    all_ask shape NoFormula below within = tt
    all_ask shape (AFormula is rest) below within = both_ask (finding_of known shape is) (finding_of_all known shape rest)
        (finding_asks shape is below within.0) (all_ask shape rest below within.1)

    any_asks : (shape : Shape) (formulas : Formulas) → ArePartsBelow bound shape → AreFormulas size formulas
        → Asks (finding_of_any known shape formulas)
    any_asks shape NoFormula below within = tt
    any_asks shape (AFormula is rest) below within = one_asks (finding_of known shape is) (finding_of_any known shape rest)
        (finding_asks shape is below within.0) (any_asks shape rest below within.1)
