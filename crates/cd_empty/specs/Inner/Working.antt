-- The parts of what is done for the question of a frame.
use Rattle.std.specs.Prelude.{◌≡◌, List, [], ◌∷◌, Option, Some, None, length}
use Rattle.cd_model.specs.Formula.{Graph}
use Rattle.cd_model.specs.Kinds.{kind_of}
use Rattle.cd_model.specs.Membership.{reader}
use Rattle.cd_model.specs.Thing.{Thing, Function, IsElement}
use Rattle.cd_elements.specs.declared.shape.ElementId.{ElementId}
use Rattle.cd_elements.specs.Table.{Names, element_at, pairs_of}
use Rattle.cd_rules.specs.Machine.{work}
use Rattle.cd_rules.specs.Right.{IsWorkOf}
use Rattle.cd_normal.specs.Partials.{partials}
use Rattle.cd_rules.specs.Clauses.{Clause, IsInClause}
use Rattle.cd_rules.specs.Family.{AreAmong, AsksNodes}
use Rattle.cd_rules.specs.PartialConjuncts.{Partial, PartialFails}
use Rattle.cd_rules.specs.Tasks as rules
use Rattle.cd_rules.specs.Tasks.{tasks_of}
use Rattle.cd_sets.specs.declared.question.Question.{Question}
use Rattle.cd_tasks.specs.declared.task.Task.{Task}
use Rattle.cd_empty.specs.declared.decider.Decider.{Decider}
use Rattle.cd_empty.specs.declared.doing.Doing.{Doing}
use Rattle.cd_empty.specs.declared.doing.Doing.TheVariants.{Worked, Wants, Found}
use Rattle.cd_empty.specs.declared.frame.Frame.{Frame}
use Rattle.cd_empty.specs.Inner.Doing.{IsUnknown}
use Rattle.cd_empty.specs.Inner.Fit.{IsFit}
use Rattle.cd_empty.specs.Inner.PlainFrame.{plain_work, known}
use Rattle.cd_empty.specs.Inner.Running.{KeepsKnown}
use Rattle.cd_empty.specs.Kept.{IsSound, table}

-- what is so of a decider and a frame before something is done for its question
pub record IsReady (graph : Graph) (decider : Decider) (frame : Frame) : Type 0 where
  pub sound : IsSound graph decider
  pub work : IsWorkOf graph (known decider) frame.question (plain_work frame)
  pub fit : IsFit graph (table decider) frame

-- a frame with one more branch, which is worked at next
abbrev pub with_branch : Task → Frame → Frame
with_branch branch frame = record frame { branches = branch ∷ frame.branches }

-- elements are added to the table, and all else stays the same
pub record AddsElements (before after : Decider) : Type 0 where
  pub known : KeepsKnown before after
  pub facts : after.facts ≡ before.facts

-- a function has one more pair, and the next task is begun; or, where none is left, it is found
abbrev pub AddsPair : Decider → ElementId × Option ElementId → (before after : Frame) → Doing
    → Type 0
AddsPair decider pair before after Worked = (next : Task) × (before.later ≡ next ∷ after.later)
    × (after.branches ≡ next ∷ []) × (partials after.conjuncts ≡ partials before.conjuncts)
    × (after.clause ≡ before.clause) × (after.pairs.items ≡ pair ∷ before.pairs.items)
AddsPair decider pair before after (Found id) = (before.later ≡ [])
    × Names (table decider) id
    × (element_at (table decider) id
    ≡ Function (pairs_of (table decider) (pair ∷ before.pairs.items)))
AddsPair decider pair before after _ = ⊥

-- what is answered by a look at the needs of the first conjunct: it fails, and is taken away; or a
-- question is wanted; or nothing
abbrev pub IsLook : Graph → Decider → (before after : List Partial) → Option Doing → Type 0
IsLook graph decider before after None = (after ≡ before)
IsLook graph decider before after (Some Worked) = (first : Partial) × (before ≡ first ∷ after)
    × ((family : List Question) → AreAmong (known decider) family → PartialFails family first)
IsLook graph decider before after (Some (Wants question)) = (after ≡ before)
    × IsUnknown decider question × AsksNodes (length graph) question
IsLook graph decider before after _ = ⊥

-- an element of the table is in a clause
abbrev pub IsMember : Graph → List Thing → Clause → ElementId → Type 0
IsMember graph table clause id = Names table id × IsElement (element_at table id)
    × IsInClause (kind_of (element_at table id)) (reader graph (element_at table id)) clause

-- a clause is begun, with all its tasks; or it has none, and an element of it is found
abbrev pub Begins : Decider → Clause → (before after : Frame) → Doing → Type 0
Begins decider clause before after Worked = (task : rules.Task) × (later : List rules.Task)
    × (tasks_of clause ≡ task ∷ later)
    × (plain_work after ≡ work (partials before.conjuncts) (Some clause) later (task ∷ []))
    × (after.pairs.items ≡ [])
Begins decider clause before after (Found id) =
    (graph : Graph) → IsMember graph (table decider) clause id
Begins decider clause before after _ = ⊥
