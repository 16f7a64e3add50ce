-- What comes of a branch of which a member that is left holds what was made.
use Rattle.std.specs.Prelude.{◌≡◌, List, Option, Some, None, map}
use Rattle.cd_sets.specs.declared.question.Question.{Question}
use Rattle.cd_model.specs.AllOf.{AnyOf}
use Rattle.cd_rules.specs.Tasks.{Task, AreCases, questions_of}
use Rattle.cd_tasks.specs.PlainTask.{plain_task}
use Rattle.cd_empty.specs.declared.choosing.Cases.{Cases}
use Rattle.cd_empty.specs.declared.choosing.Cases.TheVariants.{Are, Wants}
use Rattle.cd_empty.specs.declared.decider.Decider.{Decider}
use Rattle.cd_empty.specs.Inner.Doing.{IsUnknown}

-- nothing is known of this question, which is one of some tasks
abbrev pub IsUnknownOf : Decider → List Task → Option Question → Type 0
IsUnknownOf decider tasks None = Unit {0}
IsUnknownOf decider tasks (Some question) = IsUnknown decider question
    × AnyOf (λ task. AnyOf (λ other. other ≡ question) (questions_of task)) tasks

-- these are the cases of a task; or a question of some cases of it is wanted
abbrev pub AreCasesOf : Decider → Task → Cases → Type 0
AreCasesOf decider task (Are cases) = AreCases task (map plain_task cases.items)
AreCasesOf decider task (Wants question) = (cases : List Task) × AreCases task cases
    × IsUnknownOf decider cases (Some question)
