use Rattle.std.proofs.Common.{◌≡◌, take}
use Rattle.cd_empty.specs.Growth.{Grows}
use Rattle.cd_empty.specs.Seen.{graph_of}
use Rattle.cd_apply.specs.Inner.Found.{HasOneOutside}
use Rattle.cd_apply.proofs.refusing.has_one_outside.Given as goal

-- none of the first questions has an element outside the node
abbrev pub invariant-loop-question : goal.invariant-loop-question
invariant-loop-question l = record {
  none : HasOneOutside (graph_of l.fn.world) (take l.question-index l.questions) l.id → ⊥;
  graph : graph_of l.world ≡ graph_of l.fn.world;
  grows : Grows l.fn.world l.world;
}
