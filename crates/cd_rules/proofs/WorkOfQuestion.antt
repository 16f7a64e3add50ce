-- The branches of a question are tasks of nodes of the graph, and what is in its begun clause is in the question.
use Rattle.std.proofs.Common.{◌≡◌, List, ◌++◌, Option, Some, None, length, sym, subst}
use Rattle.cd_sets.specs.declared.question.Question.{Question}
use Rattle.cd_model.specs.AllOf.{AllOf}
use Rattle.cd_model.specs.BuiltIns.{built_ins}
use Rattle.cd_model.specs.Formula.{Graph, IsGraph}
use Rattle.cd_model.specs.Kinds.{kind_of}
use Rattle.cd_model.specs.Membership.{reader}
use Rattle.cd_model.specs.Thing.{Thing, IsElement}
use Rattle.cd_model.specs.Types.{no_closure}
use Rattle.cd_rules.specs.Clauses.{Clause, IsClauseOfQuestion, IsInClause}
use Rattle.cd_rules.specs.Tasks.{Task, IsTaskOf, IsTaskOfNodes}
use Rattle.cd_rules.proofs.ClausesExact.{thing_exact}
use Rattle.cd_model.proofs.Ones.{each_weaker}
use Rattle.cd_rules.proofs.TasksOfNodes.{task_of_nodes}
use Rattle.cd_rules.specs.Machine.{IsWitness}
use Rattle.cd_rules.specs.Right.{AreTasksOf}

pub tasks_of_nodes : (graph more : Graph) → graph ≡ built_ins ++ more → IsGraph graph → (question : Question) (clause : Option Clause)
    (tasks : List Task) → AreTasksOf graph question clause tasks → AllOf (IsTaskOfNodes (length graph)) tasks
tasks_of_nodes graph more begins sound question None tasks none = subst (AllOf (IsTaskOfNodes (length graph))) (sym none) tt
tasks_of_nodes graph more begins sound question (Some clause) tasks (of, are) = each_weaker (IsTaskOf clause) (IsTaskOfNodes (length graph))
    (λ task. task_of_nodes graph more question clause task begins sound of) tasks are

pub in_begun_clause : (graph : Graph) (question : Question) (clause : Clause) (e : Thing) → IsClauseOfQuestion graph question clause
    → IsElement e → IsInClause (kind_of e) (reader graph e) clause → IsWitness graph (question, e)
in_begun_clause graph question clause e of element inside =
    (element, (thing_exact graph no_closure question e).1 (clause, of, inside))
