use Rattle.std.proofs.Common.{refl}
use Rattle.cd_cells.specs.Cells.{thing_at}
use Rattle.cd_cells.specs.Table.{table}
use Rattle.cd_graph.specs.Nodes.{nodes}
use Rattle.cd_matching.specs.PlainKernel.{plain_kernel}
use Rattle.cd_code.proofs.TakenParts.{taken_with, not_taken, are_parts}
use Rattle.cd_code.proofs.take.take.Goals as goal

pub returns-in_ok-put_parts-clause-taken : goal.returns-in_ok-put_parts-clause-taken
returns-in_ok-put_parts-clause-taken c =
    taken_with (nodes c.args.tests.now.graph) c.args.tests.now.maps (plain_kernel c.args.kernel.now)
    (thing_at (table c.args.values.now) c.args.id.0) c.args.values.now c.take.new.values c.in_ok-take.ensures.grows
    c.args.bindings.now c.args.bindings.now refl c.requires.labels
    c.take.new.self.captures.items c.captures-2.result.now c.captures-2.ensures c.in_ok-take.field-0 c.in_ok-take.ensures.taken
    c.if-branch.true c.put_parts.new.parts.items c.in_ok-put_parts.ensures.env

pub returns-in_ok-put_parts-clause-parts : goal.returns-in_ok-put_parts-clause-parts
returns-in_ok-put_parts-clause-parts c =
    are_parts (nodes c.args.tests.now.graph) c.args.tests.now.maps (plain_kernel c.args.kernel.now)
    (thing_at (table c.args.values.now) c.args.id.0) c.args.values.now c.take.new.values c.in_ok-take.ensures.grows
    c.args.bindings.now c.args.bindings.now refl c.requires.labels
    c.take.new.self.captures.items c.captures-2.result.now c.captures-2.ensures c.in_ok-take.field-0 c.in_ok-take.ensures.taken
    c.in_ok-take.ensures.within c.put_parts.new.parts.items c.in_ok-put_parts.ensures.parts

pub returns-else-branch-clause-taken : goal.returns-else-branch-clause-taken
returns-else-branch-clause-taken c =
    not_taken (nodes c.args.tests.now.graph) c.args.tests.now.maps (plain_kernel c.args.kernel.now)
    (thing_at (table c.args.values.now) c.args.id.0) c.args.values.now c.take.new.values c.in_ok-take.ensures.grows
    c.args.bindings.now c.args.bindings.now refl c.requires.labels
    c.take.new.self.captures.items c.take.new.self.captures.items refl c.in_ok-take.field-0 c.in_ok-take.ensures.taken
    c.if-branch.false _
