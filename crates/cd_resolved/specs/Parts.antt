-- The patterns and the functions of a program.
use Rattle.std.specs.Prelude.{◌≡◌}
use Rattle.cd_syntax.specs.TypeTree.{Tree}
use Rattle.cd_model.specs.AllOf.{AnyOf}
use Rattle.cd_program.specs.Expr.{FunctionTree, Program}
use Rattle.cd_evaluation.specs.ProgramFunctions.{all_functions}
use Rattle.cd_placed.specs.Patterns.{all_patterns}

abbrev pub IsPatternOf : Program → Tree → Type 0
IsPatternOf program pattern = AnyOf (λ one. one ≡ pattern) (all_patterns program)

abbrev pub IsFunctionOf : Program → FunctionTree → Type 0
IsFunctionOf program f = AnyOf (λ one. one ≡ f) (all_functions program)
