-- The runs of paths and selects are computed.
use Rattle.std.proofs.Common.{refl}
use Rattle.cd_tables.specs.Rows.{row_of}
use Rattle.cd_grammar.specs.ProgramExamples.{AreProgramExamples}
use Rattle.cd_grammar.specs.QueryTexts.{path_exprs, select_exprs}
use Rattle.cd_grammar.proofs.ProgramRuns.{are_examples}

pub path_exprs_are : AreProgramExamples path_exprs
unfolding row_of
path_exprs_are = are_examples path_exprs refl

pub select_exprs_are : AreProgramExamples select_exprs
unfolding row_of
select_exprs_are = are_examples select_exprs refl
