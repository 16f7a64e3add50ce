use Rattle.std.proofs.Common.{subst}
use Rattle.cd_cells.specs.Cells.{thing_at}
use Rattle.cd_cells.specs.Table.{table}
use Rattle.cd_graph.specs.Nodes.{nodes}
use Rattle.cd_running.specs.Inner.Inputs.{AnswersAt}
use Rattle.cd_running.proofs.ArrowsAnswered.{first_answers, rest_left}
use Rattle.cd_running.proofs.input.takes.Goals as goal

-- the document is in what the first arrow that is left takes
pub returns-then-branch : goal.returns-then-branch
returns-then-branch c =
    let graph = nodes c.args.graph.now in
    let d = thing_at (table c.args.values.now) c.args.value.0 in
    first_answers graph d c.args.arrows.now c.loop-arrow.left.now c.loop-arrow.invariant c.in-Some.arrow.now c.in-Some.rest.now c.in-Some.ensures.cases.0
    (subst (AnswersAt graph d c.in-Some.arrow.now.0) c.if-branch.true c.in_ok-is_in_node.ensures)

-- it is outside, so the others are left
pub loop-arrow-preserved : goal.loop-arrow-preserved
loop-arrow-preserved c =
    let graph = nodes c.args.graph.now in
    let d = thing_at (table c.args.values.now) c.args.value.0 in
    rest_left graph d c.args.arrows.now c.loop-arrow.left.now c.loop-arrow.invariant c.in-Some.arrow.now c.in-Some.rest.now c.in-Some.ensures.cases.0
    (subst (AnswersAt graph d c.in-Some.arrow.now.0) c.if-branch.false c.in_ok-is_in_node.ensures)
