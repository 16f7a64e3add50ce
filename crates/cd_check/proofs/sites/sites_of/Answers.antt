use Rattle.std.proofs.Common.{◌∙◌, ◌+◌, List, drop, map, refl, sym, subst, ap}
use Rattle.cd_model.specs.AllOf.{AllOf}
use Rattle.cd_resolve.proofs.Views.{at_item}
use Rattle.cd_empty.specs.Seen.{graph_of}
use Rattle.cd_empty.proofs.GrowingWorlds.{to_itself, and_further}
use Rattle.cd_typing.specs.Typed.{scope_of}
use Rattle.cd_placed.specs.Patterns.{all_patterns}
use Rattle.cd_resolved.specs.Inner.SoundPatterns.{IsSoundPattern}
use Rattle.cd_resolved.specs.Resolved.{HasKernel, program_of, pattern_of}
use Rattle.cd_resolved.specs.declared.pattern_kernel.PatternKernel.{PatternKernel}
use Rattle.cd_resolved.proofs.KernelsStay.{kernels_grown}
use Rattle.cd_check.specs.declared.sites.Sited.{Sited}
use Rattle.cd_check.specs.Inner.Divided.{IsSited, sited_pattern}
use Rattle.cd_check.proofs.Decided.{captures_all}
use Rattle.cd_check.proofs.Divided.{all_sited_later}
use Rattle.cd_check.proofs.NextOne.{one_at, one_more, joined_on}
use Rattle.cd_check.proofs.ReadyLater.{later_of}
use Rattle.cd_check.proofs.SitesPut.{kernels_in, patterns_faultless}
use Rattle.cd_check.proofs.sites.sites_of.Goals as goal

pub site_of-requires : goal.site_of-requires
site_of-requires c = (one_at (HasKernel (scope_of (program_of c.args.program.now)) (graph_of c.loop-one.world)) c.kernels-one-items.result.now
    c.loop-one.one-index c.one-item.result c.one-item.is c.loop-one-test.true c.loop-one.invariant.2).sound

pub loop-one-init : goal.loop-one-init
loop-one-init c =
    let program = c.args.program.now in
    let scope = scope_of (program_of program) in
    let start = graph_of c.args.world.now in
    rw c.new-sites.ensures.items (
      c.graph.ensures.sound,
      to_itself c.args.world.now,
      subst (λ (all : List PatternKernel). AllOf (HasKernel scope start) all) (sym c.kernels-one-items.ensures)
          (kernels_in program c.requires.resolved start c.requires.begins),
      tt,
      ap (λ (all : List PatternKernel). map pattern_of all) c.kernels-one-items.ensures ∙ c.requires.resolved.patterns,
    )

pub loop-one-preserved : goal.loop-one-preserved
loop-one-preserved c =
    let program = c.args.program.now in
    let scope = scope_of (program_of program) in
    let old = graph_of c.loop-one.world in
    let new = graph_of c.site_of.new.world in
    let so_far = c.loop-one.invariant in
    let step = c.in_ok-site.ensures in
    let is = later_of c.loop-one.world c.site_of.new.world step.grows step.sound in
    let items = c.kernels-one-items.result.now in
    let index = c.loop-one.one-index in
    let one = c.one-item.result in
    let here = step.site scope (pattern_of one)
    (one_at (HasKernel scope old) items index one c.one-item.is c.loop-one-test.true so_far.2) in
    let faultless = one_at (λ (one : PatternKernel). IsSoundPattern (program_of program).types (pattern_of one)) items index one c.one-item.is
    c.loop-one-test.true (subst (λ (all : List PatternKernel). AllOf (λ one. IsSoundPattern (program_of program).types (pattern_of one)) all)
    (sym c.kernels-one-items.ensures) (patterns_faultless program c.requires.resolved)) in
    let sited : Sited = record { pattern = one.pattern; site = c.in_ok-site.site } in (
      step.sound,
      and_further c.args.world.now c.loop-one.world c.site_of.new.world so_far.1 step.grows,
      kernels_grown scope old new so_far.0 step.grows.graph items so_far.2,
      one_more (IsSited new scope) c.loop-one.sites.items c.push.new.self.items sited c.in_ok-push.ensures.items
          (all_sited_later old new is scope c.loop-one.sites.items so_far.3) (record {
            site = here;
            bound = captures_all new scope (pattern_of one) c.in_ok-site.site here
                (c.captured_names_are_bound.ensures (program_of program).types scope (pattern_of one) faultless.sound);
          }),
      joined_on sited_pattern c.loop-one.sites.items c.push.new.self.items sited c.in_ok-push.ensures.items (pattern_of one)
          (map pattern_of (drop index items)) (map pattern_of (drop (index + 1) items))
          (at_item (λ (all : List PatternKernel). map pattern_of all) items index one c.one-item.is c.loop-one-test.true)
          refl (all_patterns (program_of program)) so_far.4,
    )
