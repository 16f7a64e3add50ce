-- The answers of `check`.
use Rattle.std.specs.Prelude.{ℕ, codes, encode_utf8_all}
use Rattle.cd_base.specs.declared.status.Status.TheVariants.{Done}
use Rattle.cd_model.specs.Thing.{Thing, IsElement}
use Rattle.cd_model.specs.Canonical.{canonical}
use Rattle.cd_program.specs.Expr.{Program}
use Rattle.cd_typing.specs.Typed.{IsTyped}
use Rattle.cd_typing.specs.declared.rule.Rule.{Rule}
use Rattle.cd_typing.specs.RuleTexts.{text_of}
use Rattle.cd_least.specs.ProgramFaults.{ProgramFault}
use Rattle.cd_replies.specs.Bytes.{Bytes}
use Rattle.cd_replies.specs.Reply as reply
use Rattle.cd_replies.specs.Reply.{Reply, says}
use Rattle.cd_replies.specs.Texts.{ReadsAsProgram, RefusesProgram}
use Rattle.cd_replies.specs.Disk.{Disk, HasText, FileRefusal}

-- the file of this name has this text, which reads as this program
pub record FileHasProgram (disk : Disk) (file text : Bytes) (program : Program) : Type 0 where
  pub has : HasText disk file text
  pub reads : ReadsAsProgram text program

-- a fault of typing is said: its place, the text of its rule, and the canonical text of its element
pub data ReportsFault (file text : Bytes) (program : Program) : Reply → Type 0 where
  unmet : (place : ℕ) (rule : Rule) (element : Thing) → ProgramFault program place rule element
      → IsElement element → ReportsFault file text program
      (reply.ill_typed file text place (text_of rule) (encode_utf8_all (canonical element)))

-- the answers on a program that a file's text reads as
pub data ProgramAnswer (file text : Bytes) (program : Program) : Reply → Type 0 where
  -- the typing rules type it
  accepted : IsTyped program → ProgramAnswer file text program (says Done (codes "accepted"))
  -- they do not, by a fault that is said
  ill_typed : (reply : Reply) → ReportsFault file text program reply
      → ProgramAnswer file text program reply

pub data CheckAnswer (disk : Disk) (file : Bytes) : Reply → Type 0 where
  file_refused : (reply : Reply) → FileRefusal RefusesProgram disk file reply
      → CheckAnswer disk file reply
  on_program : (text : Bytes) (program : Program) → FileHasProgram disk file text program
      → (reply : Reply) → ProgramAnswer file text program reply → CheckAnswer disk file reply
