use Rattle.std.proofs.Common.{[], ◌∷◌, refl}
use Rattle.cd_syntax.specs.PlainTree.{plain}
use Rattle.cd_graph.specs.Nodes.{nodes}
use Rattle.cd_resolve.specs.Named.{plain_names, declared_by}
use Rattle.cd_resolved.specs.Resolved.{HasKernel, pattern_of}
use Rattle.cd_resolved.specs.Inner.PlainParts.{trees_of}
use Rattle.cd_resolved.specs.Inner.SoundPatterns.{IsSoundPattern}
use Rattle.cd_resolved.proofs.GraphsGrow.{further, names_grown}
use Rattle.cd_resolved.proofs.KernelsStay.{kernels_grown}
use Rattle.cd_resolved.proofs.PartsListed.{goes_on, next_has, one_more}
use Rattle.cd_resolved.proofs.kernels.kernels_of.Goals as goal

pub kernel_of-requires-clause-pattern : goal.kernel_of-requires-clause-pattern
kernel_of-requires-clause-pattern c = (next_has (λ one. plain one.now) c.args.patterns.now c.loop-pattern.pattern-index
    c.pattern-item.result c.loop-pattern-test.true c.pattern-item.is (IsSoundPattern (declared_by c.args.names.now))
    c.loop-pattern.invariant.left).0

pub loop-pattern-preserved : goal.loop-pattern-preserved
loop-pattern-preserved c =
    let types = declared_by c.args.names.now in
    let patterns = c.args.patterns.now in
    let index = c.loop-pattern.pattern-index in
    let one = c.pattern-item.result in
    let before = c.loop-pattern.invariant in
    let made = c.in_ok-kernel.ensures in
    let old = nodes c.loop-pattern.graph in
    let new = nodes c.kernel_of.new.graph in record {
      kernels = one_more (HasKernel (types ∷ []) new) c.loop-pattern.kernels.items c.push.new.self.items _
          c.in_ok-push.ensures.items
          (kernels_grown (types ∷ []) old new before.sound made.grows c.loop-pattern.kernels.items before.kernels) made.kernel;
      patterns = goes_on (λ one. plain one.now) patterns index one c.loop-pattern-test.true c.pattern-item.is pattern_of
          c.loop-pattern.kernels.items c.push.new.self.items _ c.in_ok-push.ensures.items refl (trees_of patterns) before.patterns;
      left = (next_has (λ one. plain one.now) patterns index one c.loop-pattern-test.true c.pattern-item.is
          (IsSoundPattern types) before.left).1;
      sound = made.sound;
      named = names_grown old new (plain_names c.args.names.now) before.sound made.grows before.named;
      grows = further (nodes c.args.graph.now) old new before.grows made.grows;
    }
