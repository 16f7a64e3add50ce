-- The questions that have elements.
use Rattle.std.specs.Prelude.{List, [], ◌∷◌}
use Rattle.cd_sets.specs.declared.question.Question.{Question}
use Rattle.cd_model.specs.Thing.{Thing}
use Rattle.cd_elements.specs.Table.{element_at}
use Rattle.cd_rules.specs.Machine.{Witness}
use Rattle.cd_verdicts.specs.declared.verdict.Verdict.{Verdict}
use Rattle.cd_verdicts.specs.declared.verdict.Verdict.TheVariants.{Empty, Inhabited}

-- the questions that have elements, and these
abbrev pub witnesses_in : (table : List Thing) → List (Question × Verdict) → List Witness
witnesses_in table [] = []
witnesses_in table ((question, Empty) ∷ kept) = witnesses_in table kept
witnesses_in table ((question, Inhabited id) ∷ kept) =
    (question, element_at table id) ∷ witnesses_in table kept
