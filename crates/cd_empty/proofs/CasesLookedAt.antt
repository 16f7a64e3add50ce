-- Where nothing is known of a question of a case, it may be asked.
use Rattle.std.proofs.Common.{◌≡◌, ℕ, ◌<◌, List, ◌∷◌, ◌++◌, Option, Some, None, length, map, get_or, subst}
use Rattle.cd_sets.specs.declared.question.Question.{Question}
use Rattle.cd_model.specs.AllOf.{AllOf, AnyOf}
use Rattle.cd_model.specs.BuiltIns.{built_ins}
use Rattle.cd_model.specs.Formula.{Graph, IsGraph}
use Rattle.cd_rules.specs.Clauses.{Clause}
use Rattle.cd_rules.specs.Family.{AsksNodes}
use Rattle.cd_rules.specs.Right.{AreTasksOf}
use Rattle.cd_rules.specs.Tasks as rules
use Rattle.cd_rules.specs.Tasks.{AreCases, IsTaskOf, questions_of}
use Rattle.cd_rules.proofs.Among.{of_each}
use Rattle.cd_rules.proofs.CasesAreTasks.{cases_of_task}
use Rattle.cd_rules.proofs.TasksOfNodes.{task_of_nodes}
use Rattle.cd_model.proofs.Ones.{each_weaker, one_leads, one_of_map, one_with_each}
use Rattle.cd_tasks.specs.PlainTask.{plain_task}
use Rattle.cd_tasks.specs.declared.task.Task.{Task}
use Rattle.cd_empty.specs.declared.decider.Decider.{Decider}
use Rattle.cd_empty.specs.declared.parts.Parts.TheVariants.{Unknown}
use Rattle.cd_empty.specs.Inner.Looking.{AreParts}
use Rattle.cd_empty.specs.Inner.Splitting.{IsUnknownOf}
use Rattle.cd_empty.proofs.EachAt.{one_at}

-- a question of one of some tasks
abbrev IsOneOf : Question → rules.Task → Type 0
IsOneOf question task = AnyOf (λ other. other ≡ question) (questions_of task)

pub unknown_at : (decider : Decider) (cases : List Task) (index : ℕ) (case no_one : Task) (question : Question) → index < length cases
    → case ≡ get_or cases index no_one → AreParts decider (questions_of (plain_task case)) (Unknown question)
    → IsUnknownOf decider (map plain_task cases) (Some question)
unknown_at decider cases index case no_one question within at is = (
  is.1,
  one_of_map plain_task (IsOneOf question) cases (one_at (λ case. IsOneOf question (plain_task case)) cases index no_one
      (subst (λ (case : Task). IsOneOf question (plain_task case)) at is.0) within),
)

-- each question of a case of a branch asks nodes of the graph
pub case_asks : (graph more : Graph) → graph ≡ built_ins ++ more → IsGraph graph → (asked : Question) (clause : Option Clause)
    (task : rules.Task) (rest cases : List rules.Task) → AreTasksOf graph asked clause (task ∷ rest) → AreCases task cases
    → (question : Question) → AnyOf (IsOneOf question) cases → AsksNodes (length graph) question
case_asks graph more begins sound asked None task rest cases none are question one = absurd (cc none)
case_asks graph more begins sound asked (Some clause) task rest cases (of, tasks) are question one =
    one_leads (λ (case : rules.Task). IsOneOf question case × AllOf (AsksNodes (length graph)) (questions_of case))
    (λ case both. of_each (AsksNodes (length graph)) (questions_of case) question both.1 both.0) cases
    (one_with_each (IsOneOf question) (λ case. AllOf (AsksNodes (length graph)) (questions_of case)) cases one
    (each_weaker (IsTaskOf clause) (λ case. AllOf (AsksNodes (length graph)) (questions_of case))
    (λ case is. (task_of_nodes graph more asked clause case begins sound of is).asks) cases
    (cases_of_task clause task cases are tasks.0)))
