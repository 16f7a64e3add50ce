use Rattle.cd_grammar.proofs.ProgramFaults.{wrong_programs_are, wrong_patterns_are, wrong_exprs_are, begun_programs_are, begun_exprs_are}
use Rattle.cd_grammar.proofs.program_laws.program_fault_examples.Goals as goal

pub returns-clause-programs : goal.returns-clause-programs
returns-clause-programs c = wrong_programs_are

pub returns-clause-patterns : goal.returns-clause-patterns
returns-clause-patterns c = wrong_patterns_are

pub returns-clause-expressions : goal.returns-clause-expressions
returns-clause-expressions c = wrong_exprs_are

pub returns-clause-begun : goal.returns-clause-begun
returns-clause-begun c = begun_programs_are

pub returns-clause-begun_expressions : goal.returns-clause-begun_expressions
returns-clause-begun_expressions c = begun_exprs_are
