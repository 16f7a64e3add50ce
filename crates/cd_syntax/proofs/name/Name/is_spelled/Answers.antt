use Rattle.std.proofs.Common.{◌∙◌, sym}
use Rattle.std.proofs.lemmas.Str.{IsUtf8-past_char}
use Rattle.cd_syntax.proofs.Spelled.{same_first, ends_early, ends}
use Rattle.cd_syntax.proofs.name.Name.is_spelled.Goals as goal

-- one character off each
pub loop-c-preserved : goal.loop-c-preserved
loop-c-preserved c = (
  IsUtf8-past_char _ _ _ c.loop-c.invariant.0 c.in-Some.ensures.steps.0,
  same_first _ _ _ _ _ c.loop-c.invariant.0 c.in-Some.ensures.steps.0 c.in-len1-up.len_at_least (sym c.first-item.is ∙ c.if-first-c.true) ∙ c.loop-c.invariant.1,
)

-- the characters end before the name does
pub returns-in_default : goal.returns-in_default
returns-in_default c = ends_early _ _ _ _ c.loop-c.invariant.0 c.in-Some.ensures.steps.0 c.in_default.len_below ∙ c.loop-c.invariant.1

-- the name ends
pub returns : goal.returns
returns c = c.is_empty.ensures ∙ ends _ _ c.in-None.ensures.steps.0.0 ∙ c.loop-c.invariant.1
