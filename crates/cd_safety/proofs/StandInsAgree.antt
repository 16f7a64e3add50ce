-- An element that stands in for a value answers as the value does at each node: what parts answer decides what the whole answers.
use Rattle.std.proofs.Common.{ℕ, Bool, true, false, ◌↔◌, bytes_eq}
use Rattle.cd_sets.specs.declared.node_id.NodeId.{NodeId}
use Rattle.cd_syntax.specs.Name.{Name}
use Rattle.cd_model.specs.Formula as formula
use Rattle.cd_model.specs.Formula.{Formula, Formulas, NoFormula, AFormula, Graph, FormulaReader, at_formula, holds, each_holds, one_holds, formula_at, nodes}
use Rattle.cd_model.specs.Interfaces.{Interfaces, admits}
use Rattle.cd_model.specs.Thing as thing
use Rattle.cd_model.specs.Thing.{Thing, Fields}
use Rattle.cd_model.specs.Types.{FieldOf, field_of, Answers, Reader, Labelled, Mapping, Items, pair_at, with_sequences, with_item, xml_at, record_at, reader, items, labelled, answers, no_closure, closure_maps}
use Rattle.cd_model.proofs.BothWays.{itself, both_agree, three_agree, one_agrees, each_agrees, some_agrees, chosen_agree}
use Rattle.cd_safety.specs.StandsIn as stand
use Rattle.cd_safety.specs.StandsIn.{Agrees, StandsIn, FieldsStandIn}

-- the same is answered everywhere
abbrev SameAnswers : Answers NodeId → Answers NodeId → Type 0
SameAnswers one other = (id : NodeId) (answer : Bool) → one id answer ↔ other id answer

abbrev SameAtLabels : Labelled NodeId → Labelled NodeId → Type 0
SameAtLabels one other = (label : Name) (field : FieldOf NodeId) (answer : Bool) → one label field answer ↔ other label field answer

abbrev SameAtForms : FormulaReader NodeId → FormulaReader NodeId → Type 0
SameAtForms one other = (is : Formula) (answer : Bool) → one is answer ↔ other is answer

module _ (one other : FormulaReader NodeId) (same : SameAtForms one other) where
  mutual
    holds_same : (is : Formula) (answer : Bool) → holds one is answer ↔ holds other is answer
    holds_same formula.Nothing answer = itself
    holds_same formula.Everything answer = itself
    holds_same (formula.And all) true = each_same all true
    holds_same (formula.And all) false = one_same all false
    holds_same (formula.Or all) true = one_same all true
    holds_same (formula.Or all) false = each_same all false
    holds_same (formula.Not is) true = holds_same is false
    holds_same (formula.Not is) false = holds_same is true
    holds_same is answer = same is answer

    each_same : (all : Formulas) (answer : Bool) → each_holds one all answer ↔ each_holds other all answer
    each_same NoFormula answer = itself
    each_same (AFormula is rest) answer = both_agree (holds_same is answer) (each_same rest answer)

    one_same : (all : Formulas) (answer : Bool) → one_holds one all answer ↔ one_holds other all answer
    one_same NoFormula answer = itself
    one_same (AFormula is rest) answer = one_agrees (holds_same is answer) (one_same rest answer)

-- formulas of nodes have no sequences as heads, so that items make no difference
pair_same : (many others : Items (Answers NodeId)) (a b c d : Answers NodeId) → SameAnswers a c → SameAnswers b d
    → SameAtForms (at_formula (with_sequences many (pair_at a b))) (at_formula (with_sequences others (pair_at c d)))
pair_same many others a b c d first second (formula.Pair x y) true = both_agree (first x true) (second y true)
pair_same many others a b c d first second (formula.Pair x y) false = one_agrees (first x false) (second y false)
pair_same many others a b c d first second _ answer = itself

xml_same : (a b c d e f : Answers NodeId) → SameAnswers a d → SameAnswers b e → SameAnswers c f
    → SameAtForms (at_formula (xml_at a b c)) (at_formula (xml_at d e f))
xml_same a b c d e f first second third (formula.Xml x y z) true = three_agree (first x true) (second y true) (third z true)
xml_same a b c d e f first second third (formula.Xml x y z) false =
    one_agrees (first x false) (one_agrees (second y false) (third z false))
xml_same a b c d e f first second third _ answer = itself

record_same : (one other : Labelled NodeId) → SameAtLabels one other
    → SameAtForms (at_formula (record_at one)) (at_formula (record_at other))
record_same one other same (formula.Record named rest) true = each_agrees _ _ (λ label. same label (field_of named rest label) true)
record_same one other same (formula.Record named rest) false = some_agrees _ _ (λ label. same label (field_of named rest label) false)
record_same one other same _ answer = itself

module _ (graph : Graph) (interfaces : Interfaces) where
  at_nodes : (one other : Reader NodeId) → SameAtForms (at_formula one) (at_formula other)
      → SameAnswers (nodes graph one) (nodes graph other)
  at_nodes one other same id answer = holds_same (at_formula one) (at_formula other) same (formula_at graph id) answer

  abbrev closed : ℕ → Mapping NodeId
  closed = closure_maps (nodes graph) (admits interfaces)

  mutual
    pub agree : (v e : Thing) → StandsIn graph interfaces v e → Agrees graph interfaces v e
    agree _ _ (stand.integer n) = λ id answer. itself
    agree _ _ (stand.character c) = λ id answer. itself
    agree _ _ (stand.atom name) = λ id answer. itself
    agree _ _ (stand.pair v w d e first second) =
        at_nodes (reader (nodes graph) closed (thing.Pair v w)) (reader (nodes graph) no_closure (thing.Pair d e))
        (pair_same (with_item (answers (nodes graph) closed v) (items (nodes graph) closed w))
        (with_item (answers (nodes graph) no_closure d) (items (nodes graph) no_closure e))
        (answers (nodes graph) closed v) (answers (nodes graph) closed w)
        (answers (nodes graph) no_closure d) (answers (nodes graph) no_closure e) (agree v d first) (agree w e second))
    agree _ _ (stand.xml tag attributes content d e last first second third) =
        at_nodes (reader (nodes graph) closed (thing.Xml tag attributes content)) (reader (nodes graph) no_closure (thing.Xml d e last))
        (xml_same (answers (nodes graph) closed tag) (answers (nodes graph) closed attributes) (answers (nodes graph) closed content)
        (answers (nodes graph) no_closure d) (answers (nodes graph) no_closure e) (answers (nodes graph) no_closure last)
        (agree tag d first) (agree attributes e second) (agree content last third))
    agree _ _ (stand.of_fields fields others stands) =
        at_nodes (reader (nodes graph) closed (thing.Record fields)) (reader (nodes graph) no_closure (thing.Record others))
        (record_same (labelled (nodes graph) closed fields) (labelled (nodes graph) no_closure others) (fields_agree fields others stands))
    agree _ _ (stand.closure function environment pairs agrees) = agrees

    fields_agree : (fields others : Fields) → FieldsStandIn graph interfaces fields others
        → SameAtLabels (labelled (nodes graph) closed fields) (labelled (nodes graph) no_closure others)
    fields_agree _ _ stand.no_field = λ label field answer. itself
    fields_agree _ _ (stand.field name v e rest others stands more) = λ label field answer. chosen_agree (bytes_eq name label)
        (agree v e stands field.type answer) (fields_agree rest others more label field answer)
