use Rattle.cd_syntax.specs.PlainTree.{plain}
use Rattle.cd_empty.specs.Seen.{graph_of}
use Rattle.cd_resolve.specs.Named.{declared_by}
use Rattle.cd_running.proofs.NodesKept.{grown_keeps, not_reported}
use Rattle.cd_running.proofs.workload.queries.put.Goals as goal

-- no naming fault stands in the type
pub unreachable-requires : goal.unreachable-requires
unreachable-requires c =
    not_reported (declared_by c.args.names.now) (plain c.args.tree.now) c.requires.none c.requires.sound
    c.in-Err-Fault.field-0-0 c.in-Err-Fault.field-0-1 c.in-Err-Fault.field-0-2
    (rw (c.in-Err-Fault.is, c.in-Err-Fault.field-0-is) at c.resolve_type.ensures.fault)

pub returns-clause-kept : goal.returns-clause-kept
returns-clause-kept c =
    grown_keeps (graph_of c.args.world.now) (graph_of c.extend.new.self) c.graph.ensures.sound
    c.in_ok-extend.ensures.grows.graph
