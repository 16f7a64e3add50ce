use Rattle.cd_graph.specs.Nodes.{nodes}
use Rattle.cd_elements.specs.Elements.{table}
use Rattle.cd_members.proofs.Growing.{facts_stay}
use Rattle.cd_members.proofs.making.make.Goals as goal

-- facts stay right over more elements
pub returns-clause-right : goal.returns-clause-right
returns-clause-right c = facts_stay (nodes c.args.graph.now) c.knows.ensures.sound (table c.args.elements.now) (table c.make.new.self)
    c.in_ok-id.ensures.grows
