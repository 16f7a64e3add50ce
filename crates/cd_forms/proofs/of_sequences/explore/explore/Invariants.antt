use Rattle.std.proofs.Common.{◌≡◌, ◌-◌, ◌^◌, map, length}
use Rattle.cd_empty.specs.Growth.{Grows}
use Rattle.cd_empty.specs.Seen.{graph_of}
use Rattle.cd_forms.specs.Inner.States.{plain_state, AreExploring}
use Rattle.cd_forms.proofs.of_sequences.explore.explore.Given as goal

-- the first questions have states, and the graph is the same
abbrev pub invariant-loop-question : goal.invariant-loop-question
invariant-loop-question l = record {
  explores : AreExploring (graph_of l.fn.world) l.fn.start l.questions
      (map plain_state l.states.items);
  graph : graph_of l.world ≡ graph_of l.fn.world;
  grows : Grows l.fn.world l.world;
}

-- no list has as many
abbrev pub decreases-loop-question : goal.decreases-loop-question
decreases-loop-question l = 2 ^ 64 - length l.states.items
