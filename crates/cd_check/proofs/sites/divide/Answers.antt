use Rattle.std.proofs.Common.{[], ◌+◌, List, drop, map, refl, sym, subst, append-nil, ◌∙◌}
use Rattle.cd_syntax.specs.TypeTree.{Tree}
use Rattle.cd_program.specs.Expr.{Branches, branches_of}
use Rattle.cd_program.specs.PlainExpr.{plain_branch, plain_branches}
use Rattle.cd_program.specs.declared.expr.Branch.{Branch as CodeBranch}
use Rattle.cd_names.specs.ProgramFaults.{patterns}
use Rattle.cd_empty.specs.Seen.{graph_of}
use Rattle.cd_empty.proofs.GrowingWorlds.{and_further}
use Rattle.cd_resolve.proofs.Views.{at_item}
use Rattle.cd_resolved.specs.Parts.{IsPatternOf}
use Rattle.cd_check.specs.declared.sites.Coming.{Coming}
use Rattle.cd_check.specs.Inner.Divided.{IsSited, Come, sited_pattern, coming_pattern}
use Rattle.cd_check.specs.Inner.Ready.{program_of, scope_of}
use Rattle.cd_check.specs.Inner.SoundNames.{ArePatternsOf}
use Rattle.cd_check.proofs.Divided.{ComeFurther, all_sited_later, one_comes}
use Rattle.cd_check.proofs.Itself.{later_itself}
use Rattle.cd_check.proofs.NextOne.{joined_on}
use Rattle.cd_check.proofs.ProgramViews.{branch_pattern}
use Rattle.cd_check.proofs.ReadyLater.{later_of}
use Rattle.cd_check.proofs.SoundAt.{pattern_at}
use Rattle.cd_check.proofs.sites.divide.Goals as goal

pub site_at-sited-requires-clause-pattern : goal.site_at-sited-requires-clause-pattern
site_at-sited-requires-clause-pattern c =
    let program = program_of c.args.base.now in
    subst (λ (pattern : Tree). IsPatternOf program pattern) (branch_pattern c.branch-item.result)
    (pattern_at program c.items-branch-items.result.now c.loop-branch.branch-index c.branch-item.result c.branch-item.is
    c.loop-branch-test.true (subst (λ (branches : Branches). ArePatternsOf program branches) (sym c.items-branch-items.ensures)
    c.requires.branches))

pub remaining-requires-clause-site : goal.remaining-requires-clause-site
remaining-requires-clause-site c = (c.site_at-sited.ensures.sited (graph_of c.loop-branch.world) (scope_of c.args.base.now)
    c.loop-branch.invariant.3).site.accepted

pub loop-branch-preserved : goal.loop-branch-preserved
loop-branch-preserved c =
    let base = c.args.base.now in
    let scope = scope_of base in
    let old = graph_of c.loop-branch.world in
    let new = graph_of c.remaining.new.world in
    let so_far = c.loop-branch.invariant in
    let step = c.in_ok-rest.ensures in
    let is = later_of c.loop-branch.world c.remaining.new.world step.grows step.sound in
    let items = c.items-branch-items.result.now in
    let index = c.loop-branch.branch-index in
    let one = c.branch-item.result in
    let sited = c.site_at-sited.result.now in
    let left : List CodeBranch → List Tree = λ all. patterns (branches_of (map plain_branch all)) in
    let at : IsSited old scope sited = c.site_at-sited.ensures.sited old scope so_far.3 in (
      step.sound,
      and_further c.args.world.now c.loop-branch.world c.remaining.new.world so_far.1 step.grows,
      step.node,
      all_sited_later old new is scope base.sites.now so_far.3,
      subst (λ (comings : List Coming). ComeFurther new scope c.args.matched comings c.in_ok-rest.rest) (sym c.in_ok-push.ensures.items)
          (one_comes old new is so_far.0 scope c.args.matched c.loop-branch.rest c.in_ok-rest.rest c.loop-branch.comings.items so_far.2 sited _ refl
          refl at step.node (step.all_left scope (sited_pattern sited) at.site) (step.left scope (sited_pattern sited) at.site) so_far.4),
      joined_on coming_pattern c.loop-branch.comings.items c.push.new.self.items _ c.in_ok-push.ensures.items (plain_branch one).pattern
          (left (drop index items)) (left (drop (index + 1) items))
          (at_item left items index one c.branch-item.is c.loop-branch-test.true)
          (c.site_at-sited.ensures.pattern ∙ sym (branch_pattern one)) (patterns (plain_branches c.args.branches.now)) so_far.5,
    )

pub returns-clause-division : goal.returns-clause-division
returns-clause-division c =
    let graph = graph_of c.loop-branch.world in
    let scope = scope_of c.args.base.now in
    let so_far = c.loop-branch.invariant in
    subst (λ (comings : List Coming). Come graph scope c.args.matched comings c.loop-branch.rest) (append-nil c.loop-branch.comings.items)
    (so_far.4 graph (later_itself graph so_far.0) [] c.loop-branch.rest (so_far.2, refl))
