use Rattle.cd_empty.specs.Seen.{graph_of}
use Rattle.cd_coming.proofs.HeldLater.{held, held_alone}
use Rattle.cd_coming.proofs.capture.types_captured.Goals as goal

pub returns-clause-hold : goal.returns-clause-hold
returns-clause-hold c =
    held (graph_of c.args.world.now) (graph_of c.captured.new.world) c.captured.ensures.grows.graph
    c.captured.ensures.sound c.args.site.now c.args.matched c.requires.matched
    c.in_ok-captured.field-0.items c.in_ok-captured.ensures.names c.in_ok-captured.ensures.elements

pub returns-clause-only : goal.returns-clause-only
returns-clause-only c =
    held_alone (graph_of c.args.world.now) (graph_of c.captured.new.world)
    c.captured.ensures.grows.graph c.captured.ensures.sound c.args.site.now c.args.matched
    c.requires.matched c.in_ok-captured.field-0.items c.in_ok-captured.ensures.names
    c.in_ok-captured.ensures.elements
