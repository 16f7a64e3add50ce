-- The types of each pattern of a program whose names are sound are nodes of a graph.
use Rattle.std.proofs.Common.{inl}
use Rattle.cd_syntax.specs.TypeTree.{Tree}
use Rattle.cd_syntax.specs.WellMadePattern.{AreWellMadePatternDeclarations}
use Rattle.cd_model.specs.AllOf.{AllOf}
use Rattle.cd_program.specs.Expr.{Program}
use Rattle.cd_program.specs.WellMade.{IsWellMadeProgram}
use Rattle.cd_resolve.specs.Faults.{Fault, IsFaultOfDeclarations}
use Rattle.cd_resolve.proofs.TypesArePatterns.{declarations_are_patterns}
use Rattle.cd_names.specs.ProgramFaults as faults
use Rattle.cd_names.specs.ProgramFaults.{IsFaultOfPattern, IsFaultOfProgram}
use Rattle.cd_typing.specs.Typed.{scope_of}
use Rattle.cd_safety.specs.PatternsIn.{EachOfFunction}
use Rattle.cd_safety.specs.PatternTypes.{IsTypedPattern}
use Rattle.cd_safety.proofs.PartsShown as shown
use Rattle.cd_nodes.specs.ConstantsInRange.{ConstantsInRange}
use Rattle.cd_nodes.proofs.PatternFacts.{of_functions}
use Rattle.cd_nodes.proofs.PatternsTyped.{pattern_typed}

module _ (program : Program) (made : IsWellMadeProgram program)
    (none : (fault : Fault) → IsFaultOfProgram program fault → ⊥) where
  -- no fault stands in a pattern
  abbrev IsFree : Tree → Type 0
  IsFree pattern = (fault : Fault) → IsFaultOfPattern program.types pattern fault → ⊥

  patterns_free : AllOf (EachOfFunction IsFree) program.functions
  patterns_free = (shown.of_functions program.types (λ kind. Unit {0}) IsFree (λ f. Unit {0})
      (record {
        of_kind = λ seen span kind well_made free. tt;
        of_pattern = λ pattern free. free;
        of_function = λ f free. tt;
      })
      (faults.all_functions program) program.functions made.1
      (λ f is fault has. none fault (faults.IsFaultOfProgram.in_function f fault is has))).patterns_are

  declarations_made : AreWellMadePatternDeclarations program.types
  declarations_made = declarations_are_patterns program.types made.0

  declarations_free : (fault : Fault) → IsFaultOfDeclarations program.types fault → ⊥
  declarations_free fault has = none fault (faults.IsFaultOfProgram.in_types fault has)

  pub program_typed : AllOf (EachOfFunction ConstantsInRange) program.functions
      → AllOf (EachOfFunction (IsTypedPattern (scope_of program))) program.functions
  program_typed within = of_functions IsFree ConstantsInRange (IsTypedPattern (scope_of program))
      (λ pattern well_made free in_range. pattern_typed program.types pattern declarations_made well_made in_range
      declarations_free (λ fault has. free fault (inl has)))
      program.functions made.1 patterns_free within
