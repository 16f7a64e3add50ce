use Rattle.cd_grammar.proofs.Examples.{sequence_is, union_is, group_sequence_is, no_type_after_group, arrow_item_is, xml_is, any_xml_is, alternative_is, mixed_is, nested_is, typed_xml_is}
use Rattle.cd_grammar.proofs.laws.sequence_examples.Goals as goal

pub returns-clause-sequence : goal.returns-clause-sequence
returns-clause-sequence c = sequence_is

pub returns-clause-union_of_types : goal.returns-clause-union_of_types
returns-clause-union_of_types c = union_is

pub returns-clause-group : goal.returns-clause-group
returns-clause-group c = group_sequence_is

pub returns-clause-group_is_no_type : goal.returns-clause-group_is_no_type
returns-clause-group_is_no_type c = no_type_after_group

pub returns-clause-arrow_item : goal.returns-clause-arrow_item
returns-clause-arrow_item c = arrow_item_is

pub returns-clause-xml : goal.returns-clause-xml
returns-clause-xml c = xml_is

pub returns-clause-any_xml : goal.returns-clause-any_xml
returns-clause-any_xml c = any_xml_is

pub returns-clause-alternative : goal.returns-clause-alternative
returns-clause-alternative c = alternative_is

pub returns-clause-mixed : goal.returns-clause-mixed
returns-clause-mixed c = mixed_is

pub returns-clause-nested : goal.returns-clause-nested
returns-clause-nested c = nested_is

pub returns-clause-typed_xml : goal.returns-clause-typed_xml
returns-clause-typed_xml c = typed_xml_is
