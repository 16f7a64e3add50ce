-- The answers of `run`.
use Rattle.std.specs.Prelude.{ℕ}
use Rattle.cd_model.specs.Thing.{Thing}
use Rattle.cd_program.specs.Expr.{FunctionTree, Program}
use Rattle.cd_typing.specs.Typed.{IsTyped}
use Rattle.cd_evaluation.specs.Runs.{Result}
use Rattle.cd_safety.specs.SafeProgram.{IsMain}
use Rattle.cd_replies.specs.Bytes.{Bytes}
use Rattle.cd_replies.specs.Disk.{Disk, FileRefusal}
use Rattle.cd_replies.specs.Documents.{RefusesDocument, FileWrites}
use Rattle.cd_replies.specs.Reply.{Reply, not_input as no_input}
use Rattle.cd_replies.specs.Texts.{RefusesProgram}
use Rattle.cd_checking.specs.CheckAnswer.{FileHasProgram, ReportsFault}
use Rattle.cd_running.specs.Ending.{Reports}
use Rattle.cd_running.specs.Input.{IsNoInput}
use Rattle.cd_running.specs.RunsOn.{IsRun}

-- the units of a run whose words say nothing of them
abbrev pub UNITS : ℕ
UNITS = 1000000000

-- the file of this name has a text that reads as this program, and the typing rules type it
pub record FileHasTyped (disk : Disk) (file : Bytes) (program : Program) : Type 0 where
  pub text : Bytes
  pub has : FileHasProgram disk file text program
  pub typed : IsTyped program

-- the program of a file, its function `main`, and the value of a document
pub record Given (disk : Disk) (file document : Bytes) : Type 0 where
  pub program : Program
  pub has : FileHasTyped disk file program
  pub main : FunctionTree
  pub is_main : IsMain program main
  pub value : Thing
  pub writes : FileWrites disk document value

-- a run of the program on the document, with so many units, comes to the result
pub record HasRun (disk : Disk) (units : ℕ) (file document : Bytes) (result : Result) : Type 0 where
  pub given : Given disk file document
  pub run : IsRun given.program given.main given.value units result

-- the file of the program is taken first, then its types, then the document, and then the run
pub data RunAnswer (disk : Disk) (units : ℕ) (file document : Bytes) : Reply → Type 0 where
  file_refused : (reply : Reply) → FileRefusal RefusesProgram disk file reply
      → RunAnswer disk units file document reply
  -- a fault of typing, as `check` says it
  program_refused : (text : Bytes) (program : Program) → FileHasProgram disk file text program
      → (reply : Reply) → ReportsFault file text program reply
      → RunAnswer disk units file document reply
  document_refused : (program : Program) → FileHasTyped disk file program → (reply : Reply)
      → FileRefusal RefusesDocument disk document reply
      → RunAnswer disk units file document reply
  not_input : (given : Given disk file document)
      → IsNoInput given.program given.main given.value
      → RunAnswer disk units file document (no_input document)
  ran : (result : Result) → HasRun disk units file document result → (reply : Reply)
      → Reports result.outcome reply → RunAnswer disk units file document reply
