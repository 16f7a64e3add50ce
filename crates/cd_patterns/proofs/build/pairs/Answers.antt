use Rattle.std.proofs.Common.{ap₂, ◌∙◌}
use Rattle.cd_matching.specs.Pattern as pattern
use Rattle.cd_matching.specs.PlainPattern.{plain}
use Rattle.cd_patterns.proofs.Filling.{pair_last}
use Rattle.cd_patterns.proofs.build.pairs.Goals as goal

pub loop-first-preserved : goal.loop-first-preserved
loop-first-preserved c =
    pair_last c.loop-first.all.items c.pop-in-loop-first.new.self.items c.in-Some-pop.first
    c.loop-first.last c.pair-last.result _ c.in-Some-pop.ensures.items
    (c.pair-last.ensures
    ∙ ap₂ (λ first second. pattern.Pair (plain first) (plain second)) c.in_ok-new.ensures.ok
    c.in_ok-second.ensures.ok)
    c.loop-first.invariant
