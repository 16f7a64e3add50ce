-- The runs of expressions are computed.
use Rattle.std.proofs.Common.{refl}
use Rattle.cd_tables.specs.Rows.{row_of}
use Rattle.cd_grammar.specs.ProgramExamples.{AreProgramExamples}
use Rattle.cd_grammar.specs.ExprTexts.{constant_exprs, group_exprs, operator_exprs, comparing_exprs, level_exprs, record_operators, applied_exprs, sequence_exprs, record_exprs, xml_exprs}
use Rattle.cd_grammar.proofs.ProgramRuns.{are_examples}

pub constant_exprs_are : AreProgramExamples constant_exprs
unfolding row_of
constant_exprs_are = are_examples constant_exprs refl

pub group_exprs_are : AreProgramExamples group_exprs
unfolding row_of
group_exprs_are = are_examples group_exprs refl

pub operator_exprs_are : AreProgramExamples operator_exprs
unfolding row_of
operator_exprs_are = are_examples operator_exprs refl

pub comparing_exprs_are : AreProgramExamples comparing_exprs
unfolding row_of
comparing_exprs_are = are_examples comparing_exprs refl

pub level_exprs_are : AreProgramExamples level_exprs
unfolding row_of
level_exprs_are = are_examples level_exprs refl

pub record_operators_are : AreProgramExamples record_operators
unfolding row_of
record_operators_are = are_examples record_operators refl

pub applied_exprs_are : AreProgramExamples applied_exprs
unfolding row_of
applied_exprs_are = are_examples applied_exprs refl

pub sequence_exprs_are : AreProgramExamples sequence_exprs
unfolding row_of
sequence_exprs_are = are_examples sequence_exprs refl

pub record_exprs_are : AreProgramExamples record_exprs
unfolding row_of
record_exprs_are = are_examples record_exprs refl

pub xml_exprs_are : AreProgramExamples xml_exprs
unfolding row_of
xml_exprs_are = are_examples xml_exprs refl
