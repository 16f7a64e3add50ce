-- The answers of `work`.
use Rattle.std.specs.Prelude.{◌≡◌, ℕ, ◌+◌, ◌++◌, length, codes}
use Rattle.std.specs.Fmt.{decimal}
use Rattle.std.specs.Str.{chars}
use Rattle.cd_base.specs.declared.status.Status.TheVariants.{Done as IsDone}
use Rattle.cd_model.specs.Thing.{Thing}
use Rattle.cd_documents.specs.Reading.{WritesValue}
use Rattle.cd_program.specs.Expr.{FunctionTree, Program}
use Rattle.cd_typing.specs.Typed.{IsTyped}
use Rattle.cd_evaluation.specs.Runs.{Done}
use Rattle.cd_safety.specs.SafeProgram.{IsMain, ComesTo}
use Rattle.cd_replies.specs.Bytes.{Bytes}
use Rattle.cd_replies.specs.Reply.{Reply, says}
use Rattle.cd_replies.specs.Texts.{ReadsAsProgram}
use Rattle.cd_running.specs.Ending.{text_of}
use Rattle.cd_running.specs.Input.{IsInput}
use Rattle.cd_running.specs.RunAnswer.{UNITS}
use Rattle.cd_running.specs.Queries.{Answered}
use Rattle.cd_running.specs.Workload.{program_text, document_text}

-- The program's text reads as a program that has types, which takes the document of so many
-- entries. A run on it gives this value and uses so many units
pub record Runs (size used : ℕ) (value : Thing) : Type 0 where
  pub program : Program
  pub reads : ReadsAsProgram program_text program
  pub typed : IsTyped program
  pub main : FunctionTree
  pub is_main : IsMain program main
  pub document : Thing
  pub writes : WritesValue (chars (document_text size)) document
  pub input : IsInput program main document
  pub left : ℕ
  pub comes : ComesTo program main document UNITS (record { outcome = Done value; left = left })
  pub units : used + left ≡ UNITS

abbrev pub summary : (entries used bytes affirmed : ℕ) → Bytes
summary entries used bytes affirmed =
    codes "entries " ++ (decimal entries ++ (codes " units " ++ (decimal used
    ++ (codes " bytes " ++ (decimal bytes ++ (codes " yes " ++ decimal affirmed))))))

-- the summary of a run on so many entries, and of as many queries
pub data WorkAnswer (size : ℕ) : Reply → Type 0 where
  worked : (used : ℕ) (value : Thing) (affirmed : ℕ) → Runs size used value
      → Answered size affirmed
      → WorkAnswer size (says IsDone (summary size used (length (text_of value)) affirmed))
