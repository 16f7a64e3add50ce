-- What is asked of the code of a table.
use Rattle.cd_syntax.specs.TypeTree.{Tree}
use Rattle.cd_evaluation.specs.Code as evaluation
use Rattle.cd_evaluation.specs.ProgramCode.{code_of}
use Rattle.cd_resolved.specs.Parts.{IsPatternOf}
use Rattle.cd_code.specs.Compiled.{program_of}
use Rattle.cd_code.specs.declared.code.Code.{Code}

-- the code of its program
unfoldable pub code_in : Code → evaluation.Code
code_in code = code_of (program_of code)

-- the pattern is one of its program
unfoldable pub IsPatternIn : Code → Tree → Type 0
IsPatternIn code pattern = IsPatternOf (program_of code) pattern
