use Rattle.std.proofs.Common.{◌+◌, ◌++◌, [], ◌∷◌, List, drop, map, ap, sym, subst, ◌∙◌, get_or, length, ◌<◌, ◌≡◌}
use Rattle.std.proofs.lemmas.List.{at_drop_more}
use Rattle.cd_sets.specs.declared.node_id.NodeId.{NodeId}
use Rattle.cd_model.specs.AllOf.{AllOf}
use Rattle.cd_empty.specs.Seen.{graph_of}
use Rattle.cd_empty.proofs.GrowingWorlds.{and_further}
use Rattle.cd_typing.specs.Later.{IsLater}
use Rattle.cd_typing.specs.Sites.{Site, all_sites, AreMatched}
use Rattle.cd_typing.specs.Typed.{scope_of}
use Rattle.cd_placed.specs.Patterns.{all_patterns}
use Rattle.cd_resolved.specs.Parts.{IsPatternOf}
use Rattle.cd_resolved.specs.PlainSite.{plain_site}
use Rattle.cd_resolved.specs.Resolved.{program_of, site_trees}
use Rattle.cd_resolved.specs.declared.site_tree.SiteTree.{SiteTree}
use Rattle.cd_resolved.proofs.SitePatterns.{patterns_of_sites}
use Rattle.cd_matched.proofs.SitesMatched.{further, one_more_matched, all_matched_later, all_accepted_later, fact_at}
use Rattle.cd_matched.proofs.matched.matched_nodes.Goals as goal

pub matched_at-requires-clause-patterns : goal.matched_at-requires-clause-patterns
matched_at-requires-clause-patterns c =
    let resolved = c.args.program.now in
    let program = program_of resolved in
    fact_at plain_site (λ (site : Site). AllOf (IsPatternOf program) site.patterns) c.sites-site-items.result.now c.loop-site.site-index
    c.site-item.result c.site-item.is c.loop-site-test.true
    (subst (λ (all : List SiteTree). AllOf (λ (site : Site). AllOf (IsPatternOf program) site.patterns) (map plain_site all))
    (sym c.sites-site-items.ensures)
    (subst (λ (all : List Site). AllOf (λ (site : Site). AllOf (IsPatternOf program) site.patterns) all)
    (sym c.requires.resolved.sites) (patterns_of_sites program)))

pub loop-site-preserved : goal.loop-site-preserved
loop-site-preserved c =
    let program = program_of c.args.program.now in
    let scope = scope_of program in
    let old = graph_of c.loop-site.world in
    let new = graph_of c.matched_at.new.world in
    let so_far = c.loop-site.invariant in
    let step = c.in_ok-matched_at.ensures in
    let is : IsLater old new = record { more = step.grows.graph.0; is = step.grows.graph.1; sound = step.sound } in
    let items = c.sites-site-items.result.now in
    let index = c.loop-site.site-index in
    let one = c.site-item.result in
    let done = so_far.3 in
    let left : List SiteTree → List Site = λ all. map plain_site all in (
      step.sound,
      and_further c.args.world.now c.loop-site.world c.matched_at.new.world so_far.1 step.grows,
      all_accepted_later scope old new is so_far.0 (all_patterns program) c.args.accepted.now so_far.2,
      done ++ plain_site one ∷ [],
      subst (λ (ids : List NodeId). AreMatched scope new (done ++ plain_site one ∷ []) ids) (sym c.in_ok-push.ensures.items)
          (one_more_matched scope new done c.loop-site.ids.items (plain_site one) c.in_ok-matched_at.field-0
          (all_matched_later scope old new is so_far.0 done c.loop-site.ids.items so_far.4) step.matched),
      further done (left (drop index items)) (all_sites program) (plain_site one) (left (drop (index + 1) items)) so_far.5
          (at_drop_more left items index one c.loop-site-test.true
          ∙ ap (λ (next : SiteTree). plain_site next ∷ left (drop (index + 1) items)) (sym c.site-item.is)),
    )
