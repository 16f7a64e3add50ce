use Rattle.std.proofs.Common.{map}
use Rattle.cd_forms.specs.Inner.Ending.{ArePassed, passes_left}
use Rattle.cd_forms.specs.Inner.States.{plain_state}
use Rattle.cd_forms.proofs.of_sequences.ending.ending.Given as goal

-- what is marked is so between passes
abbrev pub invariant-loop-more : goal.invariant-loop-more
invariant-loop-more l = ArePassed (map plain_state l.states) l.marks.items l.more

abbrev pub decreases-loop-more : goal.decreases-loop-more
decreases-loop-more l = passes_left l.marks.items l.more
