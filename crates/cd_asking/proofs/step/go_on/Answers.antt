use Rattle.std.proofs.lemmas.Result.{IfOk-weaker}
use Rattle.std.proofs.Common.{refl}
use Rattle.cd_graph.specs.Nodes.{nodes}
use Rattle.cd_cells.specs.Cells.{fields_of}
use Rattle.cd_cells.specs.Table.{table, names}
use Rattle.cd_asking.specs.MappedArrows.{maps_at}
use Rattle.cd_asking.specs.Inner.Rows.{row_at}
use Rattle.cd_asking.proofs.Stepping.{field_answered, same_step}
use Rattle.cd_asking.proofs.step.go_on.Goals as goal

pub returns-in-OfField-clause-step : goal.returns-in-OfField-clause-step
returns-in-OfField-clause-step c =
    let made = field_answered (names c.args.values.now) (nodes c.args.graph.now) (maps_at c.args.maps.now) (table c.args.values.now) c.args.asker.now.sets c.in-OfField.set
    (row_at c.args.asker.now.rows c.in-OfField.row) (record { label = c.in-OfField.label; nodes = c.args.answer })
    (fields_of (names c.args.values.now) (table c.args.values.now) c.in-OfField.left.now) in
    rw c.in-OfField.is (IfOk-weaker c.ask_next_field.result _ _ (λ next step. same_step (names c.args.values.now) (nodes c.args.graph.now) (maps_at c.args.maps.now)
    (table c.args.values.now) c.ask_next_field.new.asker _ _ _ _ next made refl step) c.ask_next_field.ensures.step)

pub returns-in-OfXml-clause-step : goal.returns-in-OfXml-clause-step
returns-in-OfXml-clause-step c = rw c.in-OfXml.is c.answer_case.ensures.step
