use Rattle.std.proofs.Common.{◌≡◌, map, take}
use Rattle.cd_empty.specs.Growth.{Grows}
use Rattle.cd_empty.specs.Seen.{graph_of}
use Rattle.cd_apply.specs.Inner.ImageUnions.{IsImageUnion}
use Rattle.cd_apply.specs.Inner.PlainClauses.{plain_function_clause}
use Rattle.cd_apply.proofs.image.image_of.Given as goal

-- the questions are those of the first clauses
abbrev pub invariant-loop-clause : goal.invariant-loop-clause
invariant-loop-clause l = record {
  image : IsImageUnion (graph_of l.fn.world) l.argument
      (map plain_function_clause (take l.clause-index l.clauses)) l.questions.items;
  graph : graph_of l.world ≡ graph_of l.fn.world;
  grows : Grows l.fn.world l.world;
}
