use Rattle.std.proofs.Common.{◌∙◌, ap}
use Rattle.std.specs.Iterator.Adapters.{rev_source}
use Rattle.std.specs.Str.Iter.{chars_rest}
use Rattle.cd_taking.proofs.TextFromEnd.{paired_start, paired_on, paired_end, paired_within}
use Rattle.cd_taking.proofs.constants.characters.Goals as goal

pub loop-c-init : goal.loop-c-init
loop-c-init c =
    paired_start _ _ _ _ _ (ap (λ it. chars_rest (rev_source it)) c.into_iter-c-iterator.ensures.into_iter_gives ∙ ap chars_rest c.rev-c-items.ensures.source ∙ c.chars.ensures.rest)
    c.in_ok-made.ensures.is c.in_ok-made.ensures.grows

pub pair-requires-clause-first : goal.pair-requires-clause-first
pair-requires-clause-first c = c.in_ok-letter.ensures.is.within

pub pair-requires-clause-second : goal.pair-requires-clause-second
pair-requires-clause-second c = paired_within _ _ _ _ _ _ c.loop-c.invariant c.in_ok-letter.ensures.grows

pub loop-c-preserved : goal.loop-c-preserved
loop-c-preserved c =
    paired_on _ _ _ _ _ _ _ _ _ _ _ c.loop-c.invariant c.in-Some.ensures.steps c.in_ok-letter.ensures.grows c.in_ok-letter.ensures.is
    c.in_ok-made-2.ensures.grows c.in_ok-made-2.ensures.added c.in_ok-made-2.ensures.number

pub returns-clause-is : goal.returns-clause-is
returns-clause-is c = paired_end _ _ _ _ _ c.utf8.text c.loop-c.invariant c.in-None.ensures.steps.0
