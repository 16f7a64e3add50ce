use Rattle.std.proofs.Common.{List, [], ◌∷◌, drop, length, map}
use Rattle.cd_model.specs.AllOf.{AllOf}
use Rattle.cd_empty.specs.Seen.{graph_of}
use Rattle.cd_products.specs.Inner.After.{IsAfter}
use Rattle.cd_records.specs.Inner.Leaving.{AreChoices, Choice, ChoiceAsks}
use Rattle.cd_records.specs.Inner.Plain.{plain_choice, plain_questions}
use Rattle.cd_records.proofs.splitting.choices_by.Given as goal

-- what the choices so far become by the questions that are left, the first one becomes by all
abbrev pub invariant-loop-question : goal.invariant-loop-question
invariant-loop-question l = record {
  after : IsAfter l.fn.world l.world;
  asks : AllOf (ChoiceAsks (length (graph_of l.fn.world))) (map plain_choice l.choices.items);
  choices : (all : List Choice)
      → AreChoices (graph_of l.fn.world) (plain_questions (drop l.question-index l.some))
      (map plain_choice l.choices.items) all
      → AreChoices (graph_of l.fn.world) (plain_questions l.some) (plain_choice l.fn.first ∷ [])
      all;
}
