use Rattle.std.proofs.Common.{◌≤◌, map, length}
use Rattle.cd_forms.specs.Inner.Ending.{IsPass}
use Rattle.cd_forms.specs.Inner.States.{plain_state}
use Rattle.cd_forms.proofs.of_sequences.ending.mark_more.Given as goal

-- the states from this number on are passed
abbrev pub invariant-loop-number : goal.invariant-loop-number
invariant-loop-number l = record {
  below : l.number ≤ length l.states;
  pass : IsPass (map plain_state l.states) l.number l.fn.marks.items l.marks.items l.more;
}

abbrev pub decreases-loop-number : goal.decreases-loop-number
decreases-loop-number l = l.number
