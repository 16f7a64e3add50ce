use Rattle.std.proofs.Common.{◌&&◌, refl, sym, ap, ◌∙◌}
use Rattle.cd_sets.specs.Interval.{holds}
use Rattle.cd_normal.proofs.basic_sets.integers_of_both.Goals as goal

pub returns-then-is_empty : goal.returns-then-is_empty
returns-then-is_empty c = λ x. ap (λ set. holds set x) c.empty.ensures
    ∙ sym (ap (λ first. first && holds c.args.other.now x) (c.if-is_empty.ensures.0 refl x))
