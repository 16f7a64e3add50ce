-- What is left to do for a question stays enough, and stays of the question, whatever is done.
use Rattle.std.proofs.Common.{List, [], ◌∷◌, ◌++◌, Option, Some, None, inl, inr, sym, subst}
use Rattle.cd_sets.specs.declared.question.Question.{Question}
use Rattle.cd_model.specs.AllOf.{AllOf, AnyOf}
use Rattle.cd_model.specs.Formula.{Graph}
use Rattle.cd_model.proofs.Covered.{each_parts}
use Rattle.cd_rules.specs.Clauses.{IsClauseOfQuestion, Clause}
use Rattle.cd_rules.specs.Family.{AreAmong, IsSubsumed, Refutes}
use Rattle.cd_rules.specs.PartialConjuncts.{clause_by, PartialFails, IsPartialOf}
use Rattle.cd_rules.specs.Tasks.{Task, TaskFails, IsTaskOf, AreCases, questions_of}
use Rattle.cd_rules.proofs.Among.{among_on}
use Rattle.cd_rules.proofs.CasesAreTasks.{cases_of_task, tasks_are}
use Rattle.cd_rules.proofs.Subsumption.{subsumed_where, subsumes_on}
use Rattle.cd_rules.proofs.FailingTasks.{subsumed_fails, cases_fail, task_refutes}
use Rattle.cd_model.proofs.Ones.{each_weaker, one_weaker, each_of_lists}
use Rattle.cd_rules.proofs.Completions.{of_more, to_more, of_complete, to_complete}
use Rattle.cd_rules.specs.Machine.{Work, Works, goes_further, cuts, begins, drops, splits, goes_on}
use Rattle.cd_rules.specs.Right.{AreTasksOf, IsWorkOf, IsRefuted}

module _ (graph : Graph) where
  -- a larger base keeps what rests on it
  pub refuted_on : (base more : List Question) → AreAmong base more → (questions : List Question)
      → AllOf (IsRefuted graph base) questions → AllOf (IsRefuted graph more) questions
  refuted_on base more among = each_weaker (IsRefuted graph base) (IsRefuted graph more)
      (λ question refuted family larger. refuted family (among_on base more family among larger))

  pub work_on : (base more : List Question) → AreAmong base more → (question : Question) (left : Work)
      → IsWorkOf graph base question left → IsWorkOf graph more question left
  work_on base more among question left is = record {
    conjuncts_fail = λ family larger. is.conjuncts_fail family (among_on base more family among larger);
    branches_fail = λ family larger. is.branches_fail family (among_on base more family among larger);
    later_fails = λ family larger. is.later_fails family (among_on base more family among larger);
    conjuncts_are = is.conjuncts_are;
    branches_are = is.branches_are;
    later_are = is.later_are;
  }

  module _ (question : Question) where
    -- the tasks after one, that one alone, and its cases in its place
    tasks_after : (clause : Option Clause) (task : Task) (tasks : List Task) → AreTasksOf graph question clause (task ∷ tasks)
        → AreTasksOf graph question clause tasks
    tasks_after None task tasks is = absurd cc
    tasks_after (Some clause) task tasks is = (is.0, is.1.1)

    task_alone : (clause : Option Clause) (task : Task) (tasks : List Task) → AreTasksOf graph question clause (task ∷ tasks)
        → AreTasksOf graph question clause (task ∷ [])
    task_alone None task tasks is = absurd cc
    task_alone (Some clause) task tasks is = (is.0, (is.1.0, tt))

    cases_before : (clause : Option Clause) (task : Task) (tasks cases : List Task) → AreCases task cases
        → AreTasksOf graph question clause (task ∷ tasks) → AreTasksOf graph question clause (cases ++ tasks)
    cases_before None task tasks cases are is = absurd cc
    cases_before (Some clause) task tasks cases are is =
        (is.0, each_of_lists (IsTaskOf clause) cases tasks (cases_of_task clause task cases are is.1.0) is.1.1)

    -- where each case of the first branch fails it fails
    cases_fail_too : (family : List Question) (clause : Option Clause) (task : Task) (tasks cases : List Task)
        → AreCases task cases → AreTasksOf graph question clause (task ∷ tasks) → AllOf (TaskFails family) cases → TaskFails family task
    cases_fail_too family None task tasks cases are is fail = absurd cc
    cases_fail_too family (Some clause) task tasks cases are is fail = cases_fail family task cases are is.1.0.1 fail

    pub work_kept : (base : List Question) (before after : Work) → Works base before after
        → IsWorkOf graph base question before → IsWorkOf graph base question after
    work_kept base _ _ (goes_further first more conjuncts clause later branches goes) is = record {
      conjuncts_fail = λ family larger refuted fail. let both = each_parts (PartialFails family) more conjuncts fail in
          is.conjuncts_fail family larger refuted (of_more (Refutes family) first more goes both.0, both.1);
      branches_fail = is.branches_fail;
      later_fails = is.later_fails;
      conjuncts_are = each_of_lists (IsPartialOf graph question) more conjuncts
          (to_more (IsClauseOfQuestion graph question) first more goes is.conjuncts_are.0) is.conjuncts_are.1;
      branches_are = is.branches_are;
      later_are = is.later_are;
    }
    work_kept base _ _ (cuts conjunct conjuncts clause later branches fails) is = record {
      conjuncts_fail = λ family larger refuted fail. is.conjuncts_fail family larger refuted (fails family larger, fail);
      branches_fail = is.branches_fail;
      later_fails = is.later_fails;
      conjuncts_are = is.conjuncts_are.1;
      branches_are = is.branches_are;
      later_are = is.later_are;
    }
    work_kept base _ _ (begins kind conjunct conjuncts before late task later same) is =
        let tasks = subst (AllOf (IsTaskOf (clause_by kind conjunct))) same (tasks_are (clause_by kind conjunct)) in
        let of = of_complete (IsClauseOfQuestion graph question) kind conjunct is.conjuncts_are.0 in record {
          conjuncts_fail = λ family larger refuted fail. is.conjuncts_fail family larger (is.branches_fail family larger tt)
              (to_complete (Refutes family) kind conjunct refuted, fail);
          branches_fail = λ family larger fail.
              task_refutes family (clause_by kind conjunct) (subst (AnyOf (TaskFails family)) (sym same) (inl fail.0));
          later_fails = λ family larger fail.
              task_refutes family (clause_by kind conjunct) (subst (AnyOf (TaskFails family)) (sym same) (inr fail));
          conjuncts_are = is.conjuncts_are.1;
          branches_are = (of, (tasks.0, tt));
          later_are = (of, tasks.1);
        }
    work_kept base _ _ (drops conjuncts clause later task branches subsumed) is = record {
      conjuncts_fail = is.conjuncts_fail;
      branches_fail = λ family larger fail. is.branches_fail family larger (
        subsumed_fails family task (one_weaker (λ question. IsSubsumed question base) (λ question. IsSubsumed question family)
            (subsumes_on base family (subsumed_where base family larger)) (questions_of task) subsumed),
        fail,
      );
      later_fails = is.later_fails;
      conjuncts_are = is.conjuncts_are;
      branches_are = tasks_after clause task branches is.branches_are;
      later_are = is.later_are;
    }
    work_kept base _ _ (splits conjuncts clause later task branches cases are) is = record {
      conjuncts_fail = is.conjuncts_fail;
      branches_fail = λ family larger fail. let both = each_parts (TaskFails family) cases branches fail in
          is.branches_fail family larger (cases_fail_too family clause task branches cases are is.branches_are both.0, both.1);
      later_fails = is.later_fails;
      conjuncts_are = is.conjuncts_are;
      branches_are = cases_before clause task branches cases are is.branches_are;
      later_are = is.later_are;
    }
    work_kept base _ _ (goes_on conjuncts clause next later task branches) is = record {
      conjuncts_fail = is.conjuncts_fail;
      branches_fail = λ family larger fail. is.later_fails family larger (inl fail.0);
      later_fails = λ family larger fail. is.later_fails family larger (inr fail);
      conjuncts_are = is.conjuncts_are;
      branches_are = task_alone clause next later is.later_are;
      later_are = tasks_after clause next later is.later_are;
    }
