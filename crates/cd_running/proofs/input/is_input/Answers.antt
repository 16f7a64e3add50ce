use Rattle.std.proofs.Common.{sym, subst}
use Rattle.std.proofs.lemmas.Option.{same_Some}
use Rattle.std.proofs.lemmas.Result.{IfOk-weaker}
use Rattle.cd_cells.specs.Cells.{thing_at}
use Rattle.cd_cells.specs.Table.{table}
use Rattle.cd_graph.specs.Nodes.{nodes}
use Rattle.cd_model.specs.Formula.{Graph}
use Rattle.cd_names.specs.Arrows.{AreArrows}
use Rattle.cd_program.specs.PlainExpr.{plain_function}
use Rattle.cd_typing.specs.Typed.{scope_of}
use Rattle.cd_evaluation.specs.ProgramInterfaces.{interface_of}
use Rattle.cd_resolved.specs.Resolved.{program_of}
use Rattle.cd_running.proofs.ArrowsAnswered.{arrows_take_nodes, as_input}
use Rattle.cd_running.proofs.input.is_input.Goals as goal

pub takes-requires-clause-arrows : goal.takes-requires-clause-arrows
takes-requires-clause-arrows c =
    let scope = scope_of (program_of c.args.program.now) in
    let interface = interface_of (plain_function c.in-Some.main.now) in
    let arrows = c.arrows_of-arrows.result.now in
    arrows_take_nodes scope (nodes c.graph.result.now) interface arrows
    (subst (λ (graph : Graph). AreArrows scope graph interface arrows) (sym c.graph.ensures) c.arrows_of-arrows.ensures)

pub returns-in-Some : goal.returns-in-Some
returns-in-Some c =
    let program = program_of c.args.program.now in
    let f = plain_function c.in-Some.main.now in
    let arrows = c.arrows_of-arrows.result.now in
    IfOk-weaker c.takes.result _ _ (λ answer is main main_is.
    as_input program (nodes c.graph.result.now) (thing_at (table c.args.values.now) c.args.value.0) c.requires.document
    f main (same_Some _ _ (c.in-Some.ensures.main main main_is)) arrows
    (subst (λ (graph : Graph). AreArrows (scope_of program) graph (interface_of f) arrows) (sym c.graph.ensures) c.arrows_of-arrows.ensures) answer is)
    c.takes.ensures
