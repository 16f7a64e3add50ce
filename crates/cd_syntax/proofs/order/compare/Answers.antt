use Rattle.std.proofs.Common.{◌∙◌}
use Rattle.std.proofs.lemmas.Str.{IsUtf8-past_char}
use Rattle.cd_syntax.proofs.Comparing.{below, above, along, ends_before, ends_after, end_together}
use Rattle.cd_syntax.proofs.order.compare.Goals as goal

-- the other ends first
pub returns-in_default : goal.returns-in_default
returns-in_default c = ends_after _ _ _ _ c.loop-c.invariant.0 c.in-Some.ensures.steps.0
    c.in_default.ensures.steps.0.0
    ∙ c.loop-c.invariant.2

pub returns-then-c-d : goal.returns-then-c-d
returns-then-c-d c = below _ _ _ _ _ _ c.loop-c.invariant.0 c.loop-c.invariant.1
    c.in-Some.ensures.steps.0
    c.in-Some-next.ensures.steps.0 c.if-c-d.true ∙ c.loop-c.invariant.2

pub returns-then-d-c : goal.returns-then-d-c
returns-then-d-c c = above _ _ _ _ _ _ c.loop-c.invariant.0 c.loop-c.invariant.1
    c.in-Some.ensures.steps.0
    c.in-Some-next.ensures.steps.0 c.if-d-c.true ∙ c.loop-c.invariant.2

-- one character off each
pub loop-c-preserved : goal.loop-c-preserved
loop-c-preserved c = (
  IsUtf8-past_char _ _ _ c.loop-c.invariant.0 c.in-Some.ensures.steps.0,
  IsUtf8-past_char _ _ _ c.loop-c.invariant.1 c.in-Some-next.ensures.steps.0,
  along _ _ _ _ _ _ c.loop-c.invariant.0 c.loop-c.invariant.1 c.in-Some.ensures.steps.0
      c.in-Some-next.ensures.steps.0
      c.if-c-d.false c.if-d-c.false ∙ c.loop-c.invariant.2,
)

-- the one ends first, or both end
pub returns-in-Some-next-2 : goal.returns-in-Some-next-2
returns-in-Some-next-2 c = ends_before _ _ _ _ c.in-None.ensures.steps.0.0 c.loop-c.invariant.1
    c.in-Some-next-2.ensures.steps.0 ∙ c.loop-c.invariant.2

pub returns-in-None-next : goal.returns-in-None-next
returns-in-None-next c = end_together _ _ c.in-None.ensures.steps.0.0
    c.in-None-next.ensures.steps.0.0
    ∙ c.loop-c.invariant.2
