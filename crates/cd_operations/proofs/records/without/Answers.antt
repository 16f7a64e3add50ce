use Rattle.std.proofs.Common.{◌∙◌, ap, sym, subst}
use Rattle.std.specs.Str.{chars}
use Rattle.cd_model.specs.Thing.{Record}
use Rattle.cd_evaluation.specs.Runs.{Done}
use Rattle.cd_evaluation.specs.RecordFields as fields
use Rattle.cd_operations.specs.Inner.Merging.{fields_by, AreOfRecord}
use Rattle.cd_operations.proofs.PartsPut.{of_others, others_are, dropped_record}
use Rattle.cd_operations.proofs.records.without.Goals as goal

pub record_of-requires-clause-parts : goal.record_of-requires-clause-parts
record_of-requires-clause-parts c =
    let values = c.args.values.now in
    let of = of_others values (chars c.args.label.now) _ _ c.parts_at.ensures.record c.in_ok-made.ensures in
    (subst (AreOfRecord values) (sym c.as_slice.ensures.value) of).parts_are

pub record_of-requires-clause-rise : goal.record_of-requires-clause-rise
record_of-requires-clause-rise c =
    let values = c.args.values.now in
    let of = of_others values (chars c.args.label.now) _ _ c.parts_at.ensures.record c.in_ok-made.ensures in
    (subst (AreOfRecord values) (sym c.as_slice.ensures.value) of).rise

pub returns-clause-is : goal.returns-clause-is
returns-clause-is c =
    let values = c.args.values.now in
    let label = chars c.args.label.now in
    let same = ap (fields_by values) c.as_slice.ensures.value
    ∙ others_are values label _ _ c.parts_at.ensures.record c.in_ok-made.ensures
    ∙ ap (fields.without label) c.parts_at.ensures.fields in
    ap Done (c.in_ok-record_of.ensures.is.is ∙ ap Record same) ∙ dropped_record label _ _ c.in-Record.ensures.thing
