-- The least that the steps of a table give.
use Rattle.std.specs.Prelude.{◌≡◌, ℕ, Bool, true, false, Option, Some, List}
use Rattle.cd_sets.specs.declared.node_id.NodeId.{NodeId}
use Rattle.cd_sets.specs.declared.question.Question.{Question}
use Rattle.cd_syntax.specs.declared.constant.Constant.{Constant}
use Rattle.cd_model.specs.AllOf.{AllOf}
use Rattle.cd_model.specs.Formula.{asked}
use Rattle.cd_model.specs.Thing.{Thing, Pair}
use Rattle.cd_model.specs.Types.{Answers}
use Rattle.cd_matching.specs.Kernel.{KernelNode}
use Rattle.cd_matching.specs.Sequences.{thing_of}
use Rattle.cd_filter.specs.Capturing.{Captured, IsWhole, AreAccepted, IsInhabitedPlace}
use Rattle.cd_filter.specs.Table.{Place, Table, Takes, Puts, Leads, Gathers, HasPlace, HasStep}

module _ (answers : Thing → Answers NodeId) (Sort : Thing → Type 0) where
  pub data Caught (table : Table) (variable : ℕ) : Place → Thing → Type 0 where
    takes_it : (place : Place) (what : Thing) → HasStep table place (Takes variable) → Sort what
        → asked (answers what) place.question true → Caught table variable place what
    puts_it : (place : Place) (constant : Constant)
        → HasStep table place (Puts variable constant)
        → Caught table variable place (thing_of constant)
    leads_on : (place next : Place) (but : Option ℕ) (what : Thing)
        → HasStep table place (Leads but next) → (but ≡ Some variable → ⊥)
        → Caught table variable next what → Caught table variable place what
    gathers_it : (place next : Place) (item : Question) (first rest : Thing)
        → HasStep table place (Gathers variable item next) → Sort first
        → asked (answers first) item true → Caught table variable next rest
        → Caught table variable place (Pair first rest)

  module _ (test : NodeId → Thing → Bool) (nodes : List (KernelNode NodeId)) where
    abbrev pub CapturedIsCaught : (accepts : ℕ → NodeId) → Type 0
    CapturedIsCaught accepts = (table : Table) (variable : ℕ) (place : Place) (what : Thing)
        → IsWhole answers Sort nodes false accepts table → HasPlace table place
        → Captured answers Sort test nodes variable place what
        → Caught table variable place what

    abbrev pub CaughtIsCaptured : (accepts : ℕ → NodeId) → Type 0
    CaughtIsCaptured accepts = (table : Table) (variable : ℕ) (place : Place) (what : Thing)
        → IsWhole answers Sort nodes true accepts table → AreAccepted answers Sort test nodes table
        → AllOf (IsInhabitedPlace answers Sort) table → Caught table variable place what
        → Captured answers Sort test nodes variable place what
