-- The runs of patterns are computed.
use Rattle.std.proofs.Common.{refl}
use Rattle.cd_tables.specs.Rows.{row_of}
use Rattle.cd_grammar.specs.ProgramExamples.{AreProgramExamples}
use Rattle.cd_grammar.specs.PatternTexts.{constant_patterns, default_patterns, chain_patterns, record_patterns, xml_patterns, sequence_patterns, group_patterns, item_patterns}
use Rattle.cd_grammar.proofs.ProgramRuns.{are_examples}

pub constant_patterns_are : AreProgramExamples constant_patterns
unfolding row_of
constant_patterns_are = are_examples constant_patterns refl

pub default_patterns_are : AreProgramExamples default_patterns
unfolding row_of
default_patterns_are = are_examples default_patterns refl

pub chain_patterns_are : AreProgramExamples chain_patterns
unfolding row_of
chain_patterns_are = are_examples chain_patterns refl

pub record_patterns_are : AreProgramExamples record_patterns
unfolding row_of
record_patterns_are = are_examples record_patterns refl

pub xml_patterns_are : AreProgramExamples xml_patterns
unfolding row_of
xml_patterns_are = are_examples xml_patterns refl

pub sequence_patterns_are : AreProgramExamples sequence_patterns
unfolding row_of
sequence_patterns_are = are_examples sequence_patterns refl

pub group_patterns_are : AreProgramExamples group_patterns
unfolding row_of
group_patterns_are = are_examples group_patterns refl

pub item_patterns_are : AreProgramExamples item_patterns
unfolding row_of
item_patterns_are = are_examples item_patterns refl
