use Rattle.std.proofs.Common.{◌∷◌, map, subst}
use Rattle.std.specs.Option.{option_map}
use Rattle.cd_graph.specs.Nodes.{nodes}
use Rattle.cd_normal.specs.PlainClause.{plain_clause}
use Rattle.cd_tasks.specs.PlainTask.{plain_task}
use Rattle.cd_empty.specs.Inner.Splitting.{AreCasesOf}
use Rattle.cd_empty.proofs.BranchesTried.{put_back, split}
use Rattle.cd_empty.proofs.CasesLookedAt.{case_asks}
use Rattle.cd_empty.proofs.decider.Decider.split.Goals as goal

pub returns-in_ok-push_all-in-Are-clause-doing : goal.returns-in_ok-push_all-in-Are-clause-doing
returns-in_ok-push_all-in-Are-clause-doing c =
    split (nodes c.args.graph.now) c.args.self.now c.args.frame.now c.args.branch c.in-Are.cases.items
    c.push_all.new.self c.in_ok-push_all-in-Are.ensures c.requires.ready.fit
    (subst (AreCasesOf c.args.self.now (plain_task c.args.branch)) c.in-Are.is c.in_ok-cases.ensures)

pub returns-in_ok-push-in-Wants-clause-doing : goal.returns-in_ok-push-in-Wants-clause-doing
returns-in_ok-push-in-Wants-clause-doing c =
    let frame = c.args.frame.now in
    let begins = c.knows.ensures.built_in in
    let is = subst (AreCasesOf c.args.self.now (plain_task c.args.branch)) c.in-Wants.is c.in_ok-cases.ensures in
    put_back (nodes c.args.graph.now) c.args.self.now frame c.args.branch c.push.new.self c.in-Wants.question
    c.in_ok-push-in-Wants.ensures c.requires.ready.fit is.2.0
    (case_asks (nodes c.args.graph.now) begins.0 begins.1 c.knows.ensures.sound frame.question (option_map plain_clause frame.clause)
    (plain_task c.args.branch) (map plain_task frame.branches) is.0 c.requires.ready.work.branches_are is.1 c.in-Wants.question is.2.1)
