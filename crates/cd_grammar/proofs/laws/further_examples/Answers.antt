use Rattle.cd_grammar.proofs.Examples.{constants_are, chains_are, records_are, xml_types_are, keywords_are, sequences_are, items_are, groups_are, longer_are, declared_alone_are, none_are}
use Rattle.cd_grammar.proofs.laws.further_examples.Goals as goal

pub returns-clause-constants : goal.returns-clause-constants
returns-clause-constants c = constants_are

pub returns-clause-chains : goal.returns-clause-chains
returns-clause-chains c = chains_are

pub returns-clause-records : goal.returns-clause-records
returns-clause-records c = records_are

pub returns-clause-xml : goal.returns-clause-xml
returns-clause-xml c = xml_types_are

pub returns-clause-keywords : goal.returns-clause-keywords
returns-clause-keywords c = keywords_are

pub returns-clause-sequences : goal.returns-clause-sequences
returns-clause-sequences c = sequences_are

pub returns-clause-items : goal.returns-clause-items
returns-clause-items c = items_are

pub returns-clause-groups : goal.returns-clause-groups
returns-clause-groups c = groups_are

pub returns-clause-longer : goal.returns-clause-longer
returns-clause-longer c = longer_are

pub returns-clause-declared : goal.returns-clause-declared
returns-clause-declared c = declared_alone_are

pub returns-clause-no_declaration : goal.returns-clause-no_declaration
returns-clause-no_declaration c = none_are
