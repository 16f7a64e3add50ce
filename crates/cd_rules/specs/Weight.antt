-- How much is left to do.
use Rattle.std.specs.Prelude.{◌≡◌, ◌+◌, ◌*◌, ◌<◌, ◌⊎◌, ◌++◌, ℕ, zero, suc, Bool, true, false}
use Rattle.std.specs.Prelude.{not, List, [], ◌∷◌, length}
use Rattle.cd_sets.specs.declared.question.Question.{Question}
use Rattle.cd_model.specs.Formula.{Formula, Formulas, NoFormula, AFormula, And, Or, Not, Graph}
use Rattle.cd_model.specs.Kinds.{Kind}
use Rattle.cd_rules.specs.Clauses.{Clause}
use Rattle.cd_rules.specs.Family.{AreAmong}
use Rattle.cd_rules.specs.KindDnf.{kind_dnf}
use Rattle.cd_rules.specs.PartialConjuncts.{Partial, Signed, clause_by, completions}
use Rattle.cd_rules.specs.Rows.{labels_of}
use Rattle.cd_rules.specs.Tasks.{Task, PairTask, XmlTask, ArrowTask, RecordTask, tasks_of}
use Rattle.cd_rules.specs.Machine.{Work, Frame, State, all_questions, Step}

-- one for a task with no member left, and for one more member so much for each side
abbrev pub weight : (sides members : ℕ) → ℕ
weight sides zero = 1
weight sides (suc members) = suc (sides * weight sides members)

abbrev pub task_weight : Task → ℕ
task_weight (PairTask wanted refused given left) = weight 2 (length left)
task_weight (XmlTask wanted refused given left) = weight 3 (length left)
task_weight (ArrowTask refused wanted given left) = weight 2 (length left)
task_weight (RecordTask wanted refused given left) =
    weight (suc (length (labels_of (wanted ++ refused)))) (length left)

abbrev pub sum_of : {X : Type 0} → (X → ℕ) → List X → ℕ
sum_of weight_of [] = 0
sum_of weight_of (x ∷ xs) = weight_of x + sum_of weight_of xs

abbrev pub clause_weight : Clause → ℕ
clause_weight clause = sum_of task_weight (tasks_of clause)

-- to join the conjuncts of a formula takes a step, to unfold a conjunction one more than to join
-- those of its members, one after the other, and to divide a disjunction one more than to join
-- those of each member
abbrev mutual
  pub formula_weight : Kind → Formula → (wanted : Bool) → ℕ
  formula_weight kind (And formulas) true = suc (weight_of_each kind formulas true)
  formula_weight kind (And formulas) false = suc (weight_of_one kind formulas false)
  formula_weight kind (Or formulas) true = suc (weight_of_one kind formulas true)
  formula_weight kind (Or formulas) false = suc (weight_of_each kind formulas false)
  formula_weight kind (Not is) wanted = suc (formula_weight kind is (not wanted))
  formula_weight kind is wanted = 1

  pub weight_of_each : Kind → Formulas → Bool → ℕ
  weight_of_each kind NoFormula wanted = 0
  weight_of_each kind (AFormula is rest) wanted = formula_weight kind is wanted
      + length (kind_dnf kind is wanted) * weight_of_each kind rest wanted

  pub weight_of_one : Kind → Formulas → Bool → ℕ
  weight_of_one kind NoFormula wanted = 0
  weight_of_one kind (AFormula is rest) wanted =
      formula_weight kind is wanted + weight_of_one kind rest wanted

abbrev pub joining_weight : Kind → List Signed → ℕ
joining_weight kind [] = 1
joining_weight kind (one ∷ left) = formula_weight kind one.0 one.1
    + length (kind_dnf kind one.0 one.1) * joining_weight kind left

-- a conjunct has this for the formulas that are left, and what each clause has that it may become
abbrev pub partial_weight : Partial → ℕ
partial_weight is = joining_weight is.kind is.left
    + sum_of (λ rest. clause_weight (clause_by is.kind (is.conjunct ++ rest)))
    (completions is.kind is.left)

abbrev pub work_weight : Work → ℕ
work_weight left = suc (sum_of partial_weight left.conjuncts + sum_of task_weight left.later
    + sum_of task_weight left.branches)

abbrev pub frames_weight : List Frame → ℕ
frames_weight = sum_of (λ frame. work_weight frame.work)

-- one witness more; or as many and a longer list; or both alike and less that is left to do
abbrev pub IsFurther : (before after : State) → Type 0
IsFurther before after = (length after.witnesses ≡ suc (length before.witnesses))
    ⊎ ((after.witnesses ≡ before.witnesses) × (length after.list ≡ suc (length before.list)))
    ⊎ ((after.witnesses ≡ before.witnesses) × (after.list ≡ before.list)
    × (frames_weight after.frames < frames_weight before.frames))

-- each run from a state comes to an end, as long as the questions of its states are among these
pub data Ends (graph : Graph) (settled all : List Question) : State → Type 0 where
  ends : (now : State)
      → ((next : State) → Step graph settled now next
      → AreAmong (all_questions settled next) all → Ends graph settled all next)
      → Ends graph settled all now
