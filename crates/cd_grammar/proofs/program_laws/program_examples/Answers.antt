use Rattle.cd_grammar.proofs.ProgramTexts.{branch_exprs_are, nested_exprs_are, let_exprs_are, function_exprs_are, programs_are}
use Rattle.cd_grammar.proofs.program_laws.program_examples.Goals as goal

pub returns-clause-branches : goal.returns-clause-branches
returns-clause-branches c = branch_exprs_are

pub returns-clause-nested : goal.returns-clause-nested
returns-clause-nested c = nested_exprs_are

pub returns-clause-values : goal.returns-clause-values
returns-clause-values c = let_exprs_are

pub returns-clause-functions : goal.returns-clause-functions
returns-clause-functions c = function_exprs_are

pub returns-clause-programs : goal.returns-clause-programs
returns-clause-programs c = programs_are
