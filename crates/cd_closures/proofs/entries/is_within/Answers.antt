use Rattle.cd_empty.specs.Seen.{graph_of, table_of}
use Rattle.cd_closures.proofs.Deciding.{not_within}
use Rattle.cd_closures.proofs.entries.is_within.Goals as goal

pub returns-in-Inhabited-clause-decides : goal.returns-in-Inhabited-clause-decides
returns-in-Inhabited-clause-decides c = not_within (graph_of c.args.world.now) c.args.whole c.args.one.now c.requires.asked
    (table_of c.subtype.new.self) c.in_ok-subtype.field-0 c.in-Inhabited.field-0 c.in_ok-subtype.ensures.exact c.in-Inhabited.is
