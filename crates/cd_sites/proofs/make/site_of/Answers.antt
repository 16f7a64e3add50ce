use Rattle.cd_empty.specs.Seen.{graph_of}
use Rattle.cd_sites.proofs.SitesMade.{is_site}
use Rattle.cd_sites.proofs.make.site_of.Goals as goal

pub returns-clause-site : goal.returns-clause-site
returns-clause-site c =
    is_site (graph_of c.args.world.now) (graph_of c.accepted.new.world)
    (record { kernel = c.args.kernel; accepted = c.in_ok-accepted.accepted }) c.graph.ensures.sound
    c.in_ok-accepted.ensures.added.0 c.in_ok-accepted.ensures.added.1 c.graph.ensures.built_in.0 c.graph.ensures.built_in.1
    c.in_ok-accepted.ensures.sound c.in_ok-accepted.ensures.nodes c.in_ok-accepted.ensures.root
