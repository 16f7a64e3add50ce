use Rattle.std.proofs.Common.{map}
use Rattle.std.proofs.lemmas.Result.{IfOk-weaker}
use Rattle.cd_graph.specs.Nodes.{nodes}
use Rattle.cd_elements.specs.Table.{element_at}
use Rattle.cd_tasks.specs.PlainTask.{plain_task}
use Rattle.cd_empty.specs.Kept.{table}
use Rattle.cd_empty.proofs.ChosenPlaces.{one_of_held}
use Rattle.cd_empty.proofs.decider.Decider.choose.Goals as goal

pub returns-clause-held : goal.returns-clause-held
returns-clause-held c =
    let parts = map (element_at (table c.args.self.now)) c.args.ids.now in
    IfOk-weaker c.most_closed.result _ _
    (λ other among. one_of_held (nodes c.args.graph.now) parts (plain_task c.args.branch.now) c.in_ok-places.places.items c.args.place other
    c.in_ok-places.ensures.held
    (rw c.as_slice-3.ensures.value at among))
    c.most_closed.ensures
