use Rattle.std.proofs.Common.{◌∙◌, sym, subst, ◌<◌, length}
use Rattle.cd_sets.specs.declared.node_id.NodeId.{NodeId}
use Rattle.cd_matching.specs.Kernel.{IsSound}
use Rattle.cd_matching.specs.PlainKernel.{plain_kernel}
use Rattle.cd_graph.specs.Nodes.{nodes}
use Rattle.cd_graph.specs.declared.graph.Graph.{Graph}
use Rattle.cd_cells.specs.Cells.{thing_at}
use Rattle.cd_cells.specs.Table.{table}
use Rattle.cd_cells.proofs.GrownTables.{further}
use Rattle.cd_taking.proofs.InTurn.{begins, runs, runs_down, ends_as, ends_within, goes, ends}
use Rattle.cd_taking.proofs.taker.Taker.take.Goals as goal

pub loop-then-init : goal.loop-then-init
loop-then-init c =
    begins c.args.kernel.now c.args.tests.now c.args.values.now c.requires.kernel c.clear.new.self c.args.id c.clear.ensures c.requires.value c.requires.knows

pub step-requires-clause-kernel : goal.step-requires-clause-kernel
step-requires-clause-kernel c =
    subst (λ (graph : Graph). IsSound (λ (type : NodeId). type.0 < length (nodes graph)) (plain_kernel c.args.kernel.now))
    (sym c.loop-then.invariant.stays.graph) c.requires.kernel

pub step-requires-clause-within : goal.step-requires-clause-within
step-requires-clause-within c = c.loop-then.invariant.within

pub step-requires-clause-next : goal.step-requires-clause-next
step-requires-clause-next c = c.loop-then.invariant.next_within

pub step-requires-clause-knows : goal.step-requires-clause-knows
step-requires-clause-knows c = c.loop-then.invariant.stays.knows

pub returns-in_err-then-clause-graph : goal.returns-in_err-then-clause-graph
returns-in_err-then-clause-graph c = c.in_err-then.ensures.stays.graph ∙ c.loop-then.invariant.stays.graph

pub returns-in_err-then-clause-maps : goal.returns-in_err-then-clause-maps
returns-in_err-then-clause-maps c = c.in_err-then.ensures.stays.maps ∙ c.loop-then.invariant.stays.maps

pub returns-in_err-then-clause-grows : goal.returns-in_err-then-clause-grows
returns-in_err-then-clause-grows c =
    further c.args.values.now c.loop-then.values c.step.new.values c.loop-then.invariant.stays.grows c.in_err-then.ensures.stays.grows

pub loop-then-smaller : goal.loop-then-smaller
loop-then-smaller c =
    runs_down c.args.kernel.now c.args.tests.now c.args.values.now c.requires.kernel (thing_at (table c.args.values.now) c.args.id.0)
    c.loop-then.tests c.loop-then.values c.loop-then.self c.loop-then.next c.loop-then.invariant
    c.step.new.values c.step.new.taker c.in-Goes.then (goes _ _ _ _ _ _ _ _ _ c.in_ok-then.ensures.doing c.in-Goes.then c.in-Goes.is)

pub loop-then-preserved : goal.loop-then-preserved
loop-then-preserved c =
    runs c.args.kernel.now c.args.tests.now c.args.values.now c.requires.kernel (thing_at (table c.args.values.now) c.args.id.0)
    c.loop-then.tests c.loop-then.values c.loop-then.self c.loop-then.next c.loop-then.invariant
    c.step.new.tests c.step.new.values c.step.new.taker c.in-Goes.then (goes _ _ _ _ _ _ _ _ _ c.in_ok-then.ensures.doing c.in-Goes.then c.in-Goes.is) c.in_ok-then.ensures.stays

pub returns-in-Ends-clause-taken : goal.returns-in-Ends-clause-taken
returns-in-Ends-clause-taken c =
    ends_as c.args.kernel.now c.args.tests.now c.args.values.now c.requires.kernel (thing_at (table c.args.values.now) c.args.id.0)
    c.loop-then.tests c.loop-then.values c.loop-then.self c.loop-then.next c.loop-then.invariant
    c.step.new.values c.step.new.taker c.in-Ends.answer (ends _ _ _ _ _ _ _ _ _ c.in_ok-then.ensures.doing c.in-Ends.answer c.in-Ends.is)

pub returns-in-Ends-clause-within : goal.returns-in-Ends-clause-within
returns-in-Ends-clause-within c =
    ends_within c.args.kernel.now c.args.tests.now c.args.values.now c.requires.kernel (thing_at (table c.args.values.now) c.args.id.0)
    c.loop-then.tests c.loop-then.values c.loop-then.self c.loop-then.next c.loop-then.invariant
    c.step.new.values c.step.new.taker c.in-Ends.answer (ends _ _ _ _ _ _ _ _ _ c.in_ok-then.ensures.doing c.in-Ends.answer c.in-Ends.is)

pub returns-in-Ends-clause-graph : goal.returns-in-Ends-clause-graph
returns-in-Ends-clause-graph c = c.in_ok-then.ensures.stays.graph ∙ c.loop-then.invariant.stays.graph

pub returns-in-Ends-clause-maps : goal.returns-in-Ends-clause-maps
returns-in-Ends-clause-maps c = c.in_ok-then.ensures.stays.maps ∙ c.loop-then.invariant.stays.maps

pub returns-in-Ends-clause-grows : goal.returns-in-Ends-clause-grows
returns-in-Ends-clause-grows c =
    further c.args.values.now c.loop-then.values c.step.new.values c.loop-then.invariant.stays.grows c.in_ok-then.ensures.stays.grows
