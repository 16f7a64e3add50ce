use Rattle.std.proofs.Common.{◌≡◌, map, take}
use Rattle.cd_forms.proofs.of_sequences.ending.ends_of.Given as goal

-- the marks so far are those of the first states
abbrev pub invariant-loop-state : goal.invariant-loop-state
invariant-loop-state l = l.marks.items ≡ map (λ state. state.ends) (take l.state-index l.states)
