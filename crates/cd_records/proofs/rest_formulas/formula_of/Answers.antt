use Rattle.std.proofs.Common.{◌≡◌, [], ◌∷◌, List, None, length, map, ap, sym, subst, ◌∙◌}
use Rattle.std.proofs.lemmas.Result.{IfOk-weaker}
use Rattle.cd_syntax.specs.Name.{Name, IsLabel}
use Rattle.cd_model.specs.AllOf.{AllOf}
use Rattle.cd_graph.specs.Nodes.{nodes}
use Rattle.cd_graph.specs.PlainFormula.{plain}
use Rattle.cd_needs.specs.RecordTypes.{plain_row}
use Rattle.cd_rules.specs.Rows.{Row}
use Rattle.cd_records.specs.Inner.Entries.{Entry}
use Rattle.cd_records.specs.Inner.Labels.{AreRising, labels_in}
use Rattle.cd_records.specs.Inner.Leaving.{rest_entries}
use Rattle.cd_records.specs.Inner.Plain.{plain_questions, plain_said}
use Rattle.cd_records.specs.Inner.Standing.{EntryAsks}
use Rattle.cd_records.proofs.AskNodes.{rest_asks}
use Rattle.cd_records.proofs.FieldsMade.{rest_names}
use Rattle.cd_records.proofs.LabelsRise.{all_rise, one_rises}
use Rattle.cd_records.proofs.RestFormulas.{rest_found}
use Rattle.cd_records.proofs.rest_formulas.formula_of.Goals as goal

-- the labels of the entries of a row rise
rising : (row : Row) (label : Name) → IsLabel label → AllOf IsLabel (labels_in row.cells)
    → (entries : List (Name × Entry)) → entries ≡ rest_entries row label
    → AreRising None (map (λ one. one.0) entries)
rising row label is_label labels entries same = subst
    (λ (entries : List (Name × Entry)). AreRising None (map (λ one. one.0) entries)) (sym same)
    (subst (AreRising None) (sym (rest_names row label))
    (one_rises label _ is_label (all_rise (labels_in row.cells) [] labels tt)))

pub record_of-requires-clause-asks : goal.record_of-requires-clause-asks
record_of-requires-clause-asks c = let count = length (nodes c.args.graph.now) in
    subst (AllOf (EntryAsks count))
    (sym (ap (map plain_said) c.as_slice.ensures.value ∙ c.in_ok-said.ensures))
    (rest_asks count (plain_row c.args.rest.now.row.now) c.args.label.now c.requires.rest.row)

pub record_of-requires-clause-rising : goal.record_of-requires-clause-rising
record_of-requires-clause-rising c = rising (plain_row c.args.rest.now.row.now)
    c.args.label.now c.requires.label c.requires.rest.labels
    (map plain_said c.as_slice.result.now)
    (ap (map plain_said) c.as_slice.ensures.value ∙ c.in_ok-said.ensures)

pub with_others-requires-clause-rising : goal.with_others-requires-clause-rising
with_others-requires-clause-rising c = rising (plain_row c.args.rest.now.row.now)
    c.args.label.now c.requires.label c.requires.rest.labels
    (map plain_said c.as_slice-2.result.now)
    (ap (map plain_said) c.as_slice-2.ensures.value ∙ c.in_ok-said.ensures)

pub returns-clause-holding : goal.returns-clause-holding
returns-clause-holding c =
    let row = plain_row c.args.rest.now.row.now in
    IfOk-weaker c.with_others.result _ _
    (λ is meet. rest_found (nodes c.args.graph.now) (map plain c.record_of.new.batch.items)
    (map plain c.with_others.new.batch.items) (rest_entries row c.args.label.now)
    (map plain_said c.as_slice.result.now) (map plain_said c.as_slice-2.result.now)
    (ap (map plain_said) c.as_slice.ensures.value ∙ c.in_ok-said.ensures)
    (ap (map plain_said) c.as_slice-2.ensures.value ∙ c.in_ok-said.ensures)
    (plain_questions c.args.rest.now.left.items) (plain_questions c.as_slice-3.result.now)
    (ap plain_questions c.as_slice-3.ensures.value) (row.every ∷ []) (plain c.in_ok-record.record)
    (plain is) c.in_ok-record.ensures.holding meet)
    c.with_others.ensures.holding
