use Rattle.std.proofs.Common.{sym, subst, ◌+◌, ◌<◌, length}
use Rattle.cd_graph.specs.Nodes.{nodes}
use Rattle.cd_cells.specs.Cells.{thing_at}
use Rattle.cd_cells.specs.Table.{table}
use Rattle.cd_matching.specs.PlainKernel.{plain_nodes}
use Rattle.cd_sets.specs.declared.node_id.NodeId.{NodeId}
use Rattle.cd_taking.specs.declared.frame.Frame.TheVariants.{Field}
use Rattle.cd_taking.specs.declared.frame.Next.TheVariants.{Fields, Look, Yes, No}
use Rattle.cd_taking.specs.Inner.Machine.{ends, lacks, passes, field_is_in, field_is_out, opens_field}
use Rattle.cd_taking.specs.Inner.Stepping.{Asked}
use Rattle.cd_taking.proofs.Stepping.{stays, pushed}
use Rattle.cd_taking.proofs.TypesOfFields.{asked_type}
use Rattle.cd_taking.proofs.look_field.look_at_field.Goals as goal

pub ask-requires-clause-node : goal.ask-requires-clause-node
ask-requires-clause-node c =
    asked_type (λ (type : NodeId). type.0 < length (nodes c.args.tests.now.graph)) (plain_nodes c.args.kernel.now.nodes.items)
    (length c.args.kernel.now.variables.items) c.args.node c.requires.kernel.nodes (thing_at (table c.args.values.now) c.args.value.0) c.args.index
    c.in-Asks.type_id (thing_at (table c.args.values.now) c.in-Asks.id.0) c.in-Asks.ensures.is

pub returns-then-branch-clause-step : goal.returns-then-branch-clause-step
returns-then-branch-clause-step c =
    stays (nodes c.args.tests.now.graph) c.args.tests.now.maps (plain_nodes c.args.kernel.now.nodes.items) (table c.args.values.now) c.args.taker.now
    (Fields c.args.value c.args.node c.args.index) (Fields c.args.value c.args.node (c.args.index + 1))
    (field_is_in _ _ _ _ _ _ _ c.in-Asks.type_id (sym c.in-Asks.ensures.is)
    (subst (Asked (nodes c.args.tests.now.graph) c.args.tests.now.maps c.in-Asks.type_id (thing_at (table c.args.values.now) c.in-Asks.id.0)) c.if-branch.true
    c.in_ok-ask-in-Asks.ensures.asked)) c.requires.within c.requires.value

pub returns-else-branch-clause-step : goal.returns-else-branch-clause-step
returns-else-branch-clause-step c =
    stays (nodes c.args.tests.now.graph) c.args.tests.now.maps (plain_nodes c.args.kernel.now.nodes.items) (table c.args.values.now) c.args.taker.now
    (Fields c.args.value c.args.node c.args.index) No
    (field_is_out _ _ _ _ _ _ _ c.in-Asks.type_id (sym c.in-Asks.ensures.is)
    (subst (Asked (nodes c.args.tests.now.graph) c.args.tests.now.maps c.in-Asks.type_id (thing_at (table c.args.values.now) c.in-Asks.id.0)) c.if-branch.false
    c.in_ok-ask-in-Asks.ensures.asked)) c.requires.within tt

pub returns-in-Ends-clause-step : goal.returns-in-Ends-clause-step
returns-in-Ends-clause-step c =
    stays (nodes c.args.tests.now.graph) c.args.tests.now.maps (plain_nodes c.args.kernel.now.nodes.items) (table c.args.values.now) c.args.taker.now
    (Fields c.args.value c.args.node c.args.index) Yes (ends _ _ _ _ _ _ (sym c.in-Ends.ensures.is)) c.requires.within tt

pub returns-in-Lacks-clause-step : goal.returns-in-Lacks-clause-step
returns-in-Lacks-clause-step c =
    stays (nodes c.args.tests.now.graph) c.args.tests.now.maps (plain_nodes c.args.kernel.now.nodes.items) (table c.args.values.now) c.args.taker.now
    (Fields c.args.value c.args.node c.args.index) No (lacks _ _ _ _ _ _ (sym c.in-Lacks.ensures.is)) c.requires.within tt

pub returns-in-Passes-clause-step : goal.returns-in-Passes-clause-step
returns-in-Passes-clause-step c =
    stays (nodes c.args.tests.now.graph) c.args.tests.now.maps (plain_nodes c.args.kernel.now.nodes.items) (table c.args.values.now) c.args.taker.now
    (Fields c.args.value c.args.node c.args.index) (Fields c.args.value c.args.node (c.args.index + 1)) (passes _ _ _ _ _ _ (sym c.in-Passes.ensures.is))
    c.requires.within c.requires.value

pub returns-in_ok-push-in-Looks-clause-step : goal.returns-in_ok-push-in-Looks-clause-step
returns-in_ok-push-in-Looks-clause-step c =
    pushed (nodes c.args.tests.now.graph) c.args.tests.now.maps (plain_nodes c.args.kernel.now.nodes.items) (table c.args.values.now)
    (Field c.args.value c.args.node (c.args.index + 1)) c.args.taker.now c.push.new.self (Fields c.args.value c.args.node c.args.index)
    (Look c.in-Looks.id c.in-Looks.number) c.in_ok-push-in-Looks.ensures
    (opens_field _ _ _ _ _ _ _ _ (sym c.in-Looks.ensures.is)) c.requires.within c.requires.value c.in-Looks.ensures.within
