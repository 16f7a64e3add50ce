use Rattle.std.proofs.Common.{◌∙◌}
use Rattle.cd_members.proofs.ArrowAttempts.{arrow_attempted, arrow_held}
use Rattle.cd_members.proofs.Lists.{looked_up}
use Rattle.cd_members.proofs.arrow.attempt_arrow.Goals as goal

-- the pair breaks an arrow that is left
pub returns-in-Some-clause-attempt : goal.returns-in-Some-clause-attempt
returns-in-Some-clause-attempt c = arrow_held c.requires.ready (record { 0 = 0 }) c.in-Some.place
    (c.copied-to.ensures ∙ looked_up c.args.ids.now 1 c.get.result c.get.ensures.lookup)
    (rw (c.in-Some.is, c.as_slice.ensures.value, c.deref.ensures) at c.in_ok-place.ensures.place)

-- the pair breaks no arrow that is left
pub returns-in-None-clause-attempt : goal.returns-in-None-clause-attempt
returns-in-None-clause-attempt c = arrow_attempted c.requires.ready (record { 0 = 0 }) c.knows.ensures
    (c.copied-to.ensures ∙ looked_up c.args.ids.now 1 c.get.result c.get.ensures.lookup)
    (rw (c.in-None.is, c.as_slice.ensures.value, c.deref.ensures) at c.in_ok-place.ensures.place)
