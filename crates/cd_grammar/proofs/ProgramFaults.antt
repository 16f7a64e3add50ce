-- The runs of texts that are no programs are computed.
use Rattle.std.proofs.Common.{refl}
use Rattle.cd_tables.specs.Rows.{row_of}
use Rattle.cd_grammar.specs.ProgramExamples.{AreUnfinished, AreWrong}
use Rattle.cd_grammar.specs.ProgramFaults.{wrong_programs, wrong_patterns, wrong_exprs, begun_programs, begun_exprs}
use Rattle.cd_grammar.proofs.ProgramRuns.{are_unfinished, are_wrong}

pub wrong_programs_are : AreWrong wrong_programs
unfolding row_of
wrong_programs_are = are_wrong wrong_programs refl

pub wrong_patterns_are : AreWrong wrong_patterns
unfolding row_of
wrong_patterns_are = are_wrong wrong_patterns refl

pub wrong_exprs_are : AreWrong wrong_exprs
unfolding row_of
wrong_exprs_are = are_wrong wrong_exprs refl

pub begun_programs_are : AreUnfinished begun_programs
unfolding row_of
begun_programs_are = are_unfinished begun_programs refl

pub begun_exprs_are : AreUnfinished begun_exprs
unfolding row_of
begun_exprs_are = are_unfinished begun_exprs refl
