use Rattle.std.proofs.Common.{◌≡◌, ◌++◌, List, drop, map}
use Rattle.cd_model.specs.Formula.{IsGraph}
use Rattle.cd_empty.specs.Growth.{Grows}
use Rattle.cd_empty.specs.Seen.{graph_of}
use Rattle.cd_typing.specs.Sites.{Site, all_sites, AreMatched}
use Rattle.cd_typing.specs.Typed.{scope_of}
use Rattle.cd_placed.specs.Patterns.{all_patterns}
use Rattle.cd_resolved.specs.PlainSite.{plain_site}
use Rattle.cd_resolved.specs.Resolved.{program_of}
use Rattle.cd_matched.specs.Accepted.{AreAccepted}
use Rattle.cd_matched.proofs.matched.matched_nodes.Given as goal

-- the sites so far have their nodes, and those that are left are the others
abbrev pub invariant-loop-site : goal.invariant-loop-site
invariant-loop-site l = IsGraph (graph_of l.world) × Grows l.fn.world l.world
    × AreAccepted (scope_of (program_of l.program)) (graph_of l.world) (all_patterns (program_of l.program)) l.accepted
    × (done : List Site) × AreMatched (scope_of (program_of l.program)) (graph_of l.world) done l.ids.items
    × (done ++ map plain_site (drop l.site-index l.site-items) ≡ all_sites (program_of l.program))
