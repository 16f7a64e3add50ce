-- The machine that decides questions, over plain data: a list of questions that are assumed or
-- found to have no element, in the order in which they were assumed, and a frame for each of them
-- that is still worked at.
use Rattle.std.specs.Prelude.{◌≡◌, ◌++◌, ℕ, true, List, [], ◌∷◌, Option, Some, None, length, map}
use Rattle.std.specs.Prelude.{take}
use Rattle.cd_sets.specs.declared.question.Question.{Question}
use Rattle.cd_model.specs.AllOf.{AllOf, AnyOf}
use Rattle.cd_model.specs.Formula.{Graph}
use Rattle.cd_model.specs.Kinds.{Kind}
use Rattle.cd_model.specs.Membership.{asked, answers}
use Rattle.cd_model.specs.Thing.{Thing, IsElement}
use Rattle.cd_rules.specs.Dnf.{Conjunct}
use Rattle.cd_rules.specs.Clauses.{Clause}
use Rattle.cd_rules.specs.Family.{AreAmong, IsSubsumed, AsksNodes}
use Rattle.cd_rules.specs.PartialConjuncts.{Partial, GoesOn, partial, clause_by, PartialFails}
use Rattle.cd_rules.specs.PartialConjuncts.{IsPartialOf, AccountForClauses}
use Rattle.cd_rules.specs.Tasks.{Task, tasks_of, questions_of, AreCases}

-- What is left to do for a question: the conjuncts whose clauses are not begun, the clause that is
-- begun, its tasks that are not begun, and the branches of the one that is
pub record Work : Type 0 where
  pub conjuncts : List Partial
  pub clause : Option Clause
  pub later : List Task
  pub branches : List Task

abbrev pub work : List Partial → Option Clause → (later branches : List Task) → Work
work conjuncts clause later branches =
    record { conjuncts = conjuncts; clause = clause; later = later; branches = branches }

-- a question of the list that is worked at, and its place in the list
pub record Frame : Type 0 where
  pub place : ℕ
  pub question : Question
  pub work : Work

abbrev pub frame : ℕ → Question → Work → Frame
frame place question left = record { place = place; question = question; work = left }

-- a question, and an element of it
abbrev pub Witness : Type 0
Witness = Question × Thing

abbrev pub IsWitness : Graph → Witness → Type 0
IsWitness graph witness =
    IsElement witness.1 × asked (answers graph witness.1) witness.0 true

-- The witnesses that were found; the list; and the frames, of which that of the question that was
-- assumed last comes first
pub record State : Type 0 where
  pub witnesses : List Witness
  pub list : List Question
  pub frames : List Frame

abbrev pub state : List Witness → List Question → List Frame → State
state witnesses list frames = record { witnesses = witnesses; list = list; frames = frames }

-- one thing is done for a question, where these questions are settled or listed
pub data Works (known : List Question) : (before after : Work) → Type 0 where
  -- a conjunct goes on by its next formula
  goes_further : (first : Partial) (more conjuncts : List Partial) (clause : Option Clause)
      (later branches : List Task) → GoesOn first more
      → Works known (work (first ∷ conjuncts) clause later branches)
      (work (more ++ conjuncts) clause later branches)
  -- a conjunct goes that fails by what is known
  cuts : (conjunct : Partial) (conjuncts : List Partial) (clause : Option Clause)
      (later branches : List Task)
      → ((family : List Question) → AreAmong known family → PartialFails family conjunct)
      → Works known (work (conjunct ∷ conjuncts) clause later branches)
      (work conjuncts clause later branches)
  -- the clause of a complete conjunct is begun, where no branch is left of the one before
  begins : (kind : Kind) (conjunct : Conjunct) (conjuncts : List Partial) (before : Option Clause)
      (late : List Task) (task : Task) (later : List Task)
      → tasks_of (clause_by kind conjunct) ≡ task ∷ later
      → Works known (work (partial kind conjunct [] ∷ conjuncts) before late [])
      (work conjuncts (Some (clause_by kind conjunct)) later (task ∷ []))
  -- a branch ends by a question that is subsumed
  drops : (conjuncts : List Partial) (clause : Option Clause) (later : List Task) (task : Task)
      (branches : List Task)
      → AnyOf (λ question. IsSubsumed question known) (questions_of task)
      → Works known (work conjuncts clause later (task ∷ branches))
      (work conjuncts clause later branches)
  -- a branch becomes its cases
  splits : (conjuncts : List Partial) (clause : Option Clause) (later : List Task) (task : Task)
      (branches cases : List Task) → AreCases task cases
      → Works known (work conjuncts clause later (task ∷ branches))
      (work conjuncts clause later (cases ++ branches))
  -- a task is done by its first branch, and the next one is begun
  goes_on : (conjuncts : List Partial) (clause : Option Clause) (next : Task) (later : List Task)
      (task : Task) (branches : List Task)
      → Works known (work conjuncts clause (next ∷ later) (task ∷ branches))
      (work conjuncts clause later (next ∷ []))

-- nothing is left to do
abbrev pub IsDone : Work → Type 0
IsDone left = (left.conjuncts ≡ []) × (left.branches ≡ [])

-- the questions of which something is known or assumed
abbrev pub all_questions : (settled : List Question) → State → List Question
all_questions settled now = settled ++ now.list ++ map (λ witness. witness.0) now.witnesses

abbrev pub NotIn : {X : Type 0} → List X → X → Type 0
NotIn all x = AnyOf (λ other. other ≡ x) all → ⊥

module _ (graph : Graph) (settled : List Question) where
  -- one step, where these questions are settled: they have no element
  pub data Step : (before after : State) → Type 0 where
    -- a new question is assumed to have no element, and gets a frame
    opens : (before : State) (question : Question) (conjuncts : List Partial)
        → NotIn (all_questions settled before) question → AsksNodes (length graph) question
        → AllOf (IsPartialOf graph question) conjuncts
        → AccountForClauses graph (settled ++ (before.list ++ question ∷ [])) question conjuncts
        → Step before (state before.witnesses (before.list ++ question ∷ [])
        (frame (length before.list) question (work conjuncts None [] []) ∷ before.frames))
    -- an element of a new question is at hand
    knows : (before : State) (witness : Witness)
        → NotIn (all_questions settled before) witness.0 → IsWitness graph witness
        → Step before (state (before.witnesses ++ witness ∷ []) before.list before.frames)
    -- something is done for the question of the last frame
    works : (witnesses : List Witness) (list : List Question) (place : ℕ) (question : Question)
        (before after : Work) (frames : List Frame)
        → Works (settled ++ list) before after
        → Step (state witnesses list (frame place question before ∷ frames))
        (state witnesses list (frame place question after ∷ frames))
    -- it has an element: what was assumed since its frame was opened goes
    finds : (witnesses : List Witness) (list : List Question) (last : Frame)
        (frames : List Frame) (e : Thing) → IsWitness graph (last.question, e)
        → Step (state witnesses list (last ∷ frames))
        (state (witnesses ++ (last.question, e) ∷ []) (take last.place list) frames)
    -- nothing is left to do for it: it stays in the list
    leaves : (witnesses : List Witness) (list : List Question) (last : Frame)
        (frames : List Frame) → IsDone last.work
        → Step (state witnesses list (last ∷ frames)) (state witnesses list frames)

  -- steps one after the other
  pub data Steps : (before after : State) → Type 0 where
    no_step : (now : State) → Steps now now
    one_more : (before now next : State) → Steps before now → Step now next → Steps before next
