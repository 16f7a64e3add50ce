-- Two ways to run code: freely, and with patterns that answer only for values that are expected.
use Rattle.std.specs.Prelude.{Option}
use Rattle.cd_syntax.specs.TypeTree.{Tree}
use Rattle.cd_model.specs.Interfaces.{Interfaces}
use Rattle.cd_model.specs.Thing.{Thing}
use Rattle.cd_typing.specs.Kept.{Kept}
use Rattle.cd_evaluation.specs.Code.{Code}
use Rattle.cd_evaluation.specs.Environment.{Env}
use Rattle.cd_safety.specs.ComesWithin.{IsExpected}

pub data Way : Type 0 where
  Freely : Way
  Within : Way

module _ (interfaces : Interfaces) (kept : Kept) (code : Code) where
  abbrev pub take_by : Way → (pattern : Tree) → Thing → Option Env → Type 0
  take_by Freely pattern v answer = code.take pattern v answer
  take_by Within pattern v answer =
      IsExpected interfaces kept pattern v × code.take pattern v answer

  abbrev pub code_by : Way → Code
  code_by way =
      record { function = code.function; declared = code.declared; take = take_by way }
