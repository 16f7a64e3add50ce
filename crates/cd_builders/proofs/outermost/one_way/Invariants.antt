use Rattle.std.proofs.Common.{◌≡◌, take}
use Rattle.cd_empty.specs.Growth.{Grows}
use Rattle.cd_empty.specs.Seen.{graph_of}
use Rattle.cd_builders.specs.Inner.Outermost.{AskSame}
use Rattle.cd_builders.proofs.outermost.one_way.Given as goal

-- what is kept asks what the first questions do
abbrev pub invariant-loop-question : goal.invariant-loop-question
invariant-loop-question l = record {
  same : AskSame (graph_of l.fn.world) (take l.question-index l.questions) l.kept.items;
  graph : graph_of l.world ≡ graph_of l.fn.world;
  grows : Grows l.fn.world l.world;
}
