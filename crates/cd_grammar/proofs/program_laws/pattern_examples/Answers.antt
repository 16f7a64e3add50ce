use Rattle.cd_grammar.proofs.PatternTexts.{constant_patterns_are, default_patterns_are, chain_patterns_are, record_patterns_are, xml_patterns_are, sequence_patterns_are, group_patterns_are, item_patterns_are}
use Rattle.cd_grammar.proofs.program_laws.pattern_examples.Goals as goal

pub returns-clause-constants : goal.returns-clause-constants
returns-clause-constants c = constant_patterns_are

pub returns-clause-defaults : goal.returns-clause-defaults
returns-clause-defaults c = default_patterns_are

pub returns-clause-chains : goal.returns-clause-chains
returns-clause-chains c = chain_patterns_are

pub returns-clause-records : goal.returns-clause-records
returns-clause-records c = record_patterns_are

pub returns-clause-xml : goal.returns-clause-xml
returns-clause-xml c = xml_patterns_are

pub returns-clause-sequences : goal.returns-clause-sequences
returns-clause-sequences c = sequence_patterns_are

pub returns-clause-groups : goal.returns-clause-groups
returns-clause-groups c = group_patterns_are

pub returns-clause-items : goal.returns-clause-items
returns-clause-items c = item_patterns_are
