-- What is so of a state of the machine: why each question of the list has no element, as far as
-- what is left to do fails.
use Rattle.std.specs.Prelude.{◌≡◌, ◌++◌, ◌⊎◌, List, [], ◌∷◌, Option, Some, None, length}
use Rattle.cd_sets.specs.declared.question.Question.{Question}
use Rattle.cd_model.specs.AllOf.{AllOf, AnyOf}
use Rattle.cd_model.specs.Formula.{Graph}
use Rattle.cd_rules.specs.Clauses.{Clause, IsClauseOfQuestion}
use Rattle.cd_rules.specs.Family.{AreAmong, Refutes, AsksNodes}
use Rattle.cd_rules.specs.PartialConjuncts.{PartialFails, IsPartialOf, AccountForClauses}
use Rattle.cd_rules.specs.Tasks.{Task, TaskFails, IsTaskOf}
use Rattle.cd_rules.specs.Machine.{Work, Frame, State, IsWitness, NotIn, all_questions}

-- the clause that is begun, if there is one, is refuted
abbrev pub RefutesBegun : List Question → Option Clause → Type 0
RefutesBegun family None = Unit {0}
RefutesBegun family (Some clause) = Refutes family clause

module _ (graph : Graph) where
  -- the clause that is begun is one of the question, and these are tasks of it
  abbrev pub AreTasksOf : Question → Option Clause → List Task → Type 0
  AreTasksOf question None tasks = tasks ≡ []
  AreTasksOf question (Some clause) tasks =
      IsClauseOfQuestion graph question clause × AllOf (IsTaskOf clause) tasks

  -- What is left to do is enough: in each family that has all of `base`, the clauses of the
  -- question are refuted where the begun one is and the conjuncts fail; and the begun one is where
  -- all branches fail, or one of the later tasks. And it is of the question
  pub record IsWorkOf (base : List Question) (question : Question) (left : Work) : Type 0 where
    pub conjuncts_fail : (family : List Question) → AreAmong base family
        → RefutesBegun family left.clause → AllOf (PartialFails family) left.conjuncts
        → (clause : Clause) → IsClauseOfQuestion graph question clause → Refutes family clause
    pub branches_fail : (family : List Question) → AreAmong base family
        → AllOf (TaskFails family) left.branches → RefutesBegun family left.clause
    pub later_fails : (family : List Question) → AreAmong base family
        → AnyOf (TaskFails family) left.later → RefutesBegun family left.clause
    pub conjuncts_are : AllOf (IsPartialOf graph question) left.conjuncts
    pub branches_are : AreTasksOf question left.clause left.branches
    pub later_are : AreTasksOf question left.clause left.later

  -- each clause of the question is refuted in each family that has all of `base`
  abbrev pub IsRefuted : (base : List Question) → Question → Type 0
  IsRefuted base question = AccountForClauses graph base question []

  -- The last frame rests on what is settled and on the whole list; the one below it on the list up
  -- to the place of the last one, and so on. A question between two frames, for which all is done,
  -- rests on the list up to the second
  abbrev pub AreFrames : (settled list : List Question) → List Frame → Type 0
  AreFrames settled list [] = AllOf (IsRefuted (settled ++ list)) list
  AreFrames settled list (last ∷ frames) = (before : List Question) × (done : List Question)
      × (list ≡ before ++ last.question ∷ done) × (last.place ≡ length before)
      × IsWorkOf (settled ++ list) last.question last.work
      × AllOf (IsRefuted (settled ++ list)) done × AreFrames settled before frames

-- no two of a list are the same
abbrev pub Differ : {X : Type 0} → List X → Type 0
Differ [] = Unit {0}
Differ (x ∷ all) = NotIn all x × Differ all

-- what is so of a state; each question is there once: settled, in the list, or with a witness
pub record IsRight (graph : Graph) (settled : List Question) (now : State) : Type 0 where
  pub frames : AreFrames graph settled now.list now.frames
  pub witnesses : AllOf (IsWitness graph) now.witnesses
  pub asks : AllOf (AsksNodes (length graph)) now.list
  pub once : Differ (all_questions settled now)

-- the question has a witness, or it is the first of the list
abbrev pub HasFirst : Question → State → Type 0
HasFirst question now = AnyOf (λ witness. witness.0 ≡ question) now.witnesses
    ⊎ ((rest : List Question) × (now.list ≡ question ∷ rest))
