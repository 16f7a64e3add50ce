-- The runs of expressions with branches or functions, and of programs, are computed.
use Rattle.std.proofs.Common.{refl}
use Rattle.cd_tables.specs.Rows.{row_of}
use Rattle.cd_grammar.specs.ProgramExamples.{AreProgramExamples}
use Rattle.cd_grammar.specs.ProgramTexts.{branch_exprs, nested_exprs, let_exprs, function_exprs, programs}
use Rattle.cd_grammar.proofs.ProgramRuns.{are_examples}

pub branch_exprs_are : AreProgramExamples branch_exprs
unfolding row_of
branch_exprs_are = are_examples branch_exprs refl

pub nested_exprs_are : AreProgramExamples nested_exprs
unfolding row_of
nested_exprs_are = are_examples nested_exprs refl

pub let_exprs_are : AreProgramExamples let_exprs
unfolding row_of
let_exprs_are = are_examples let_exprs refl

pub function_exprs_are : AreProgramExamples function_exprs
unfolding row_of
function_exprs_are = are_examples function_exprs refl

pub programs_are : AreProgramExamples programs
unfolding row_of
programs_are = are_examples programs refl
