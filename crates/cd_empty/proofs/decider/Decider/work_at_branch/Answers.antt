use Rattle.std.proofs.Common.{◌∷◌, length, map, subst}
use Rattle.std.specs.Option.{option_map}
use Rattle.cd_graph.specs.Nodes.{nodes}
use Rattle.cd_rules.proofs.WorkOfQuestion.{tasks_of_nodes}
use Rattle.cd_normal.specs.PlainClause.{plain_clause}
use Rattle.cd_rules.specs.Tasks.{IsTaskOfNodes, questions_of}
use Rattle.cd_tasks.specs.PlainTask.{plain_task}
use Rattle.cd_empty.specs.Inner.Looking.{AreParts}
use Rattle.cd_empty.proofs.BranchesTried.{dropped, wanted}
use Rattle.cd_empty.proofs.decider.Decider.work_at_branch.Goals as goal
use Rattle.cd_empty.proofs.decider.Decider.work_at_branch.Goals.{After-knows, In_ok-parts_of}

-- the branch is a task of nodes
of_nodes : (c : After-knows) → IsTaskOfNodes (length (nodes c.args.graph.now)) (plain_task c.args.branch)
of_nodes c =
    let frame = c.args.frame.now in
    let begins = c.knows.ensures.built_in in
    (tasks_of_nodes (nodes c.args.graph.now) begins.0 begins.1 c.knows.ensures.sound frame.question
    (option_map plain_clause frame.clause) (plain_task c.args.branch ∷ map plain_task frame.branches) c.requires.work.branches_are).0

-- what is known of its questions
looked : (c : In_ok-parts_of) → AreParts c.args.self.now (questions_of (plain_task c.args.branch)) c.in_ok-parts_of.field-0
looked c = c.in_ok-parts_of.ensures

pub try_branch-requires-clause-nodes : goal.try_branch-requires-clause-nodes
try_branch-requires-clause-nodes c = of_nodes (goal.at.try_branch-requires-clause-nodes c).After-knows

pub returns-in-Missing-clause-doing : goal.returns-in-Missing-clause-doing
returns-in-Missing-clause-doing c =
    dropped (nodes c.args.graph.now) c.args.self.now c.args.frame.now c.args.branch c.requires.fit
    (subst (AreParts c.args.self.now (questions_of (plain_task c.args.branch))) c.in-Missing.is
    (looked (goal.at.returns-in-Missing-clause-doing c).In_ok-parts_of))

pub returns-in_ok-push-in-Unknown-clause-doing : goal.returns-in_ok-push-in-Unknown-clause-doing
returns-in_ok-push-in-Unknown-clause-doing c =
    let at = goal.at.returns-in_ok-push-in-Unknown-clause-doing c in
    let is = subst (AreParts c.args.self.now (questions_of (plain_task c.args.branch))) c.in-Unknown.is (looked at.In_ok-parts_of) in
    wanted (nodes c.args.graph.now) c.args.self.now c.args.frame.now c.args.branch c.push.new.self c.in-Unknown.question
    c.in_ok-push-in-Unknown.ensures c.requires.fit (of_nodes at.After-knows).asks is.0 is.1
