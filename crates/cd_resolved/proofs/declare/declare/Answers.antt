use Rattle.std.proofs.Common.{sym, subst}
use Rattle.cd_syntax.specs.PlainTree.{plain_declarations}
use Rattle.cd_graph.specs.Nodes.{nodes}
use Rattle.cd_resolve.specs.Named.{AreNamed, plain_names}
use Rattle.cd_resolved.proofs.NamesDeclared.{not_reported, enough_nodes}
use Rattle.cd_resolved.proofs.declare.declare.Goals as goal

pub resolve-requires-clause-built_ins : goal.resolve-requires-clause-built_ins
resolve-requires-clause-built_ins c = enough_nodes (nodes c.args.graph.now) c.knows.ensures.built_in.0 c.knows.ensures.built_in.1
    c.len.result c.len.ensures.count

pub unreachable-requires : goal.unreachable-requires
unreachable-requires c = not_reported (plain_declarations c.args.types.now) c.requires.sound
    c.in-Err-Fault.field-0-0 c.in-Err-Fault.field-0-1 c.in-Err-Fault.field-0-2
    (rw (c.in-Err-Fault.is, c.in-Err-Fault.field-0-is) at c.resolve.ensures.fault)

pub returns-clause-named : goal.returns-clause-named
returns-clause-named c = subst (λ g. AreNamed g (plain_names c.in-Ok.batch.names)) (sym c.in_ok-extend.ensures.added)
    (c.in-Ok.ensures.stand (nodes c.args.graph.now) (sym c.len.ensures.count) c.knows.ensures.built_in)
