-- What is said of a program that a text reads as.
use Rattle.std.proofs.Common.{◌<◌, ℕ, subst, sym, zero, suc, List, [], ◌∷◌, length, get_or, Result, Ok, Err, arith}
use Rattle.std.specs.Prelude.{IfOk}
use Rattle.std.specs.declared.alloc.AllocError.{AllocError}
use Rattle.cd_model.specs.AllOf.{AllOf}
use Rattle.cd_model.specs.Thing.{Thing, Atom, IsElement}
use Rattle.cd_elements.specs.Table.{Names, element_at}
use Rattle.cd_elements.specs.declared.shape.ElementId.{ElementId}
use Rattle.cd_program.specs.Expr.{Program}
use Rattle.cd_replies.specs.Bytes.{Bytes}
use Rattle.cd_replies.specs.Disk.{Disk, HasText}
use Rattle.cd_replies.specs.Message.{reply_of}
use Rattle.cd_replies.specs.Reply.{Reply}
use Rattle.cd_replies.specs.Texts.{ReadsAsProgram}
use Rattle.cd_replies.specs.declared.message.Message.{Message}
use Rattle.cd_least.specs.ProgramFaults.{ProgramFault}
use Rattle.cd_check.specs.Faults.{Reports}
use Rattle.cd_check.specs.declared.fault.CheckError.{CheckError}
use Rattle.cd_check.specs.declared.fault.CheckError.TheVariants.{IllTyped, Memory}
use Rattle.cd_checking.specs.CheckAnswer.{ProgramAnswer, CheckAnswer, ReportsFault, on_program, unmet}
use Rattle.cd_checking.specs.Inner.FaultSaid.{IsSaid}

-- it is an answer on a file of that text
pub answers_program : (file text : Bytes) (program : Program) → ReadsAsProgram text program → (r : Result Message AllocError)
    → IfOk r (λ message. ProgramAnswer file text program (reply_of message))
    → IfOk r (λ message. (disk : Disk) → HasText disk file text → CheckAnswer disk file (reply_of message))
answers_program file text program reads (Ok message) answers =
    λ disk has. on_program text program (record { has = has; reads = reads }) (reply_of message) answers
answers_program file text program reads (Err error) answers = tt

-- what a number of the table names is an element
pub element_is : (table : List Thing) (id : ElementId) → AllOf IsElement table → Names table id → IsElement (element_at table id)
element_is table id are names = at table id.0 are names
  where
    at : (all : List Thing) (index : ℕ) → AllOf IsElement all → index < length all → IsElement (get_or all index (Atom []))
    at [] index are below = absurd (omega arith)
    at (first ∷ rest) zero are below = are.0
    at (first ∷ rest) (suc index) are below = at rest index are.1 (omega arith)

-- what is said of an error of the checker is a fault of the program
pub fault_reported : (file text : Bytes) (program : Program) (table : List Thing) (error : CheckError)
    → Reports table (ProgramFault program) error → (reply : Reply) → IsSaid file text table error reply → ReportsFault file text program reply
fault_reported file text program table (IllTyped fault) reports reply said = subst (ReportsFault file text program) (sym said.1)
    (unmet fault.at fault.rule (element_at table fault.element) reports.1 said.0)
fault_reported file text program table Memory reports reply said = absurd said
