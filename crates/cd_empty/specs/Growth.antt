-- What a world keeps from one state to the next.
use Rattle.std.specs.Prelude.{◌≡◌, ◌++◌, List}
use Rattle.cd_sets.specs.declared.question.Question.{Question}
use Rattle.cd_model.specs.Thing.{Thing}
use Rattle.cd_model.specs.Formula.{Graph}
use Rattle.cd_verdicts.specs.declared.verdict.Verdict.{Verdict}
use Rattle.cd_empty.specs.Seen.{Seen, graph_of, table_of, kept}

-- the graph, the elements and the verdicts of the old world each begin those of the new one
pub record Grows (old new : Seen) : Type 0 where
  pub graph : (more : Graph) × (graph_of new ≡ graph_of old ++ more)
  pub table : (more : List Thing) × (table_of new ≡ table_of old ++ more)
  pub verdicts : (more : List (Question × Verdict)) × (kept new ≡ kept old ++ more)
