use Rattle.std.proofs.Common.{List, None, length, map, sym, subst, ap, ◌∙◌}
use Rattle.cd_syntax.specs.Name.{Name}
use Rattle.cd_model.specs.AllOf.{AllOf}
use Rattle.cd_graph.specs.Nodes.{nodes}
use Rattle.cd_needs.specs.RecordTypes.{plain_row}
use Rattle.cd_rules.specs.Family.{AsksNodes}
use Rattle.cd_records.specs.Inner.Entries.{Entry}
use Rattle.cd_records.specs.Inner.Labels.{AreRising}
use Rattle.cd_records.specs.Inner.Plain.{plain_questions, plain_said}
use Rattle.cd_records.specs.Inner.Rests.{merged_labels}
use Rattle.cd_records.specs.Inner.Standing.{EntryAsks}
use Rattle.cd_records.proofs.AskNodes.{entries_ask, merged_every_ask}
use Rattle.cd_records.proofs.FieldsMade.{merged_names}
use Rattle.cd_records.proofs.MergedRecords.{labels_rise}
use Rattle.cd_records.proofs.merged_formulas.made_of.Goals as goal

pub record_of-requires-clause-asks : goal.record_of-requires-clause-asks
record_of-requires-clause-asks c =
    let count = length (nodes c.args.graph.now) in
    let first = map plain_row c.args.first.now in
    let second = map plain_row c.args.second.now in
    subst (AllOf (EntryAsks count))
    (sym (ap (map plain_said) c.as_slice.ensures.value ∙ c.in_ok-said.ensures))
    (entries_ask count first second c.requires.first.asks c.requires.second.asks
    (merged_labels first second))

pub record_of-requires-clause-every : goal.record_of-requires-clause-every
record_of-requires-clause-every c =
    let count = length (nodes c.args.graph.now) in
    subst (AllOf (AsksNodes count))
    (sym (ap plain_questions c.as_slice-2.ensures.value ∙ c.in_ok-every.ensures))
    (merged_every_ask count (map plain_row c.args.first.now) (map plain_row c.args.second.now)
    c.requires.first.asks c.requires.second.asks)

pub record_of-requires-clause-rising : goal.record_of-requires-clause-rising
record_of-requires-clause-rising c =
    let first = map plain_row c.args.first.now in
    let second = map plain_row c.args.second.now in
    subst (λ (entries : List (Name × Entry)). AreRising None (map (λ one. one.0) entries))
    (sym (ap (map plain_said) c.as_slice.ensures.value ∙ c.in_ok-said.ensures))
    (subst (AreRising None) (sym (merged_names first second (merged_labels first second)))
    (labels_rise (nodes c.args.graph.now) first second c.requires.first.witnesses
    c.requires.second.witnesses))
