-- A program that a text reads as, and that has types.
use Rattle.std.specs.Str.{IsUtf8}
use Rattle.cd_program.specs.Expr.{Program}
use Rattle.cd_typing.specs.Typed.{IsTyped}
use Rattle.cd_replies.specs.Bytes.{Bytes}
use Rattle.cd_replies.specs.Texts.{ReadsAsProgram}

pub record IsTypedProgram (program : Program) : Type 0 where
  pub text : Bytes
  pub utf8 : IsUtf8 text
  pub reads : ReadsAsProgram text program
  pub typed : IsTyped program
