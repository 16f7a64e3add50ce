-- Programs that are accepted: what safety asks of a program.
use Rattle.cd_model.specs.AllOf.{AllOf}
use Rattle.cd_program.specs.Expr.{Program}
use Rattle.cd_program.specs.WellMade.{IsWellMadeProgram}
use Rattle.cd_typing.specs.Typed.{IsTyped, scope_of}
use Rattle.cd_evaluation.specs.ProgramFunctions.{all_functions, PlacesDiffer}
use Rattle.cd_safety.specs.GoodInterface.{HasGuardedInterface}
use Rattle.cd_safety.specs.KindsIn.{KindsOfFunction}
use Rattle.cd_safety.specs.PatternsIn.{EachOfFunction}
use Rattle.cd_safety.specs.PatternTypes.{IsTypedPattern}
use Rattle.cd_safety.specs.TypedClosure.{CapturesItsNames}
use Rattle.cd_safety.specs.WellWritten.{IsSoundKind}

pub record IsAccepted (program : Program) : Type 0 where
  -- the typing rules type it
  pub typed : IsTyped program
  -- it is well made, as each program is that is read from a text
  pub well_made : IsWellMadeProgram program
  -- its constants are elements, the characters in its sequences are of Unicode, and no record has
  -- a label twice
  pub kinds : AllOf (KindsOfFunction IsSoundKind) program.functions
  -- the types in each of its patterns are nodes of a graph
  pub patterns : AllOf (EachOfFunction (IsTypedPattern (scope_of program))) program.functions
  -- each of its patterns captures the names that it binds
  pub names : AllOf (EachOfFunction (CapturesItsNames (scope_of program))) program.functions
  -- no name in an interface leads to itself
  pub guarded : AllOf (HasGuardedInterface (scope_of program)) (all_functions program)
  -- no two of its functions stand at one place
  pub places : PlacesDiffer (all_functions program)
