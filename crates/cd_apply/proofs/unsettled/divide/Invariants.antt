use Rattle.std.proofs.Common.{◌≡◌, take}
use Rattle.cd_empty.specs.Growth.{Grows}
use Rattle.cd_empty.specs.Seen.{graph_of}
use Rattle.cd_apply.specs.Inner.Found.{IsDivided}
use Rattle.cd_apply.specs.Inner.PlainDivided.{plain_divided}
use Rattle.cd_apply.proofs.unsettled.divide.Given as goal

-- what is divided says what the first arrows say
abbrev pub invariant-loop-arrow : goal.invariant-loop-arrow
invariant-loop-arrow l = record {
  divided : IsDivided (graph_of l.fn.world) l.arguments (take l.arrow-index l.arrows)
      (plain_divided l.divided);
  graph : graph_of l.world ≡ graph_of l.fn.world;
  grows : Grows l.fn.world l.world;
}
