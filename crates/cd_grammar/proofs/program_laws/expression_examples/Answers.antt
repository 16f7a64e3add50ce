use Rattle.cd_grammar.proofs.QueryTexts.{path_exprs_are, select_exprs_are}
use Rattle.cd_grammar.proofs.ExprTexts.{constant_exprs_are, group_exprs_are, operator_exprs_are, comparing_exprs_are, level_exprs_are, record_operators_are, applied_exprs_are, sequence_exprs_are, record_exprs_are, xml_exprs_are}
use Rattle.cd_grammar.proofs.program_laws.expression_examples.Goals as goal

pub returns-clause-constants : goal.returns-clause-constants
returns-clause-constants c = constant_exprs_are

pub returns-clause-groups : goal.returns-clause-groups
returns-clause-groups c = group_exprs_are

pub returns-clause-operators : goal.returns-clause-operators
returns-clause-operators c = operator_exprs_are

pub returns-clause-comparisons : goal.returns-clause-comparisons
returns-clause-comparisons c = comparing_exprs_are

pub returns-clause-levels : goal.returns-clause-levels
returns-clause-levels c = level_exprs_are

pub returns-clause-record_operators : goal.returns-clause-record_operators
returns-clause-record_operators c = record_operators_are

pub returns-clause-applied : goal.returns-clause-applied
returns-clause-applied c = applied_exprs_are

pub returns-clause-sequences : goal.returns-clause-sequences
returns-clause-sequences c = sequence_exprs_are

pub returns-clause-records : goal.returns-clause-records
returns-clause-records c = record_exprs_are

pub returns-clause-xml : goal.returns-clause-xml
returns-clause-xml c = xml_exprs_are

pub returns-clause-paths : goal.returns-clause-paths
returns-clause-paths c = path_exprs_are

pub returns-clause-selects : goal.returns-clause-selects
returns-clause-selects c = select_exprs_are
