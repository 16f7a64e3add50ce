-- The arrows that are left, where a document is in what none before them takes.
use Rattle.std.specs.Prelude.{true, false, List}
use Rattle.cd_sets.specs.declared.node_id.NodeId.{NodeId}
use Rattle.cd_model.specs.Formula.{Graph}
use Rattle.cd_model.specs.Thing.{Thing}
use Rattle.cd_running.specs.Inner.Inputs.{AnswersAtArguments, TakeNodes}

-- what is answered of those that are left is so of all
pub record AreLeft (graph : Graph) (document : Thing) (all left : List (NodeId × NodeId))
    : Type 0 where
  pub nodes : TakeNodes graph left
  pub yes : AnswersAtArguments graph document left true
      → AnswersAtArguments graph document all true
  pub no : AnswersAtArguments graph document left false
      → AnswersAtArguments graph document all false
