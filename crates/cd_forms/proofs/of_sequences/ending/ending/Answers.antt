use Rattle.std.proofs.Common.{map, subst, ◌∙◌}
use Rattle.cd_forms.specs.Inner.Ending.{ArePassed}
use Rattle.cd_forms.specs.Inner.States.{plain_state}
use Rattle.cd_forms.proofs.Marking.{ends_of_plain, passed_first, all_marked}
use Rattle.cd_forms.proofs.of_sequences.ending.ending.Goals as goal

pub loop-more-init : goal.loop-more-init
loop-more-init c = passed_first (map plain_state c.args.states.now) c.in_ok-marks.marks.items
    (c.in_ok-marks.ensures ∙ ends_of_plain c.args.states.now)

pub returns : goal.returns
returns c =
    let states = map plain_state c.args.states.now in
    all_marked states c.loop-more.marks.items
    (subst (ArePassed states c.loop-more.marks.items) c.loop-more-test.false
    c.loop-more.invariant)
