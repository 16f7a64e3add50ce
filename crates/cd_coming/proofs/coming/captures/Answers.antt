use Rattle.cd_empty.specs.Seen.{graph_of, table_of}
use Rattle.cd_coming.proofs.Comes.{nothing, something}
use Rattle.cd_coming.proofs.coming.captures.Goals as goal

pub returns-in-None-clause-comes : goal.returns-in-None-clause-comes
returns-in-None-clause-comes c = nothing (graph_of c.args.world.now) c.args.matched c.args.site.now (table_of c.taken.new.world)
    c.in_ok-taken.field-0 c.in_ok-taken.ensures.taken c.in-None.is

pub returns-in_ok-types_captured-in-Some-clause-comes : goal.returns-in_ok-types_captured-in-Some-clause-comes
returns-in_ok-types_captured-in-Some-clause-comes c =
    something (graph_of c.args.world.now) c.args.matched c.args.site.now (table_of c.taken.new.world) c.in_ok-taken.field-0
    c.in_ok-taken.ensures.taken c.in-Some.field-0 c.in-Some.is (graph_of c.taken.new.world) c.taken.ensures.graph
    (graph_of c.types_captured.new.world) c.in_ok-types_captured-in-Some.field-0.items c.in_ok-types_captured-in-Some.ensures.hold
    c.in_ok-types_captured-in-Some.ensures.only c.in_ok-types_captured-in-Some.ensures.nodes
