use Rattle.cd_grammar.proofs.Examples.{sequence_is_deep, group_sequence_is_deep, nested_is_deep, arrow_item_is_deep, any_xml_is_deep, typed_xml_is_deep, attributes_is_deep, content_is_deep}
use Rattle.cd_grammar.proofs.laws.sequence_depth_examples.Goals as goal

pub returns-clause-sequence : goal.returns-clause-sequence
returns-clause-sequence c = sequence_is_deep

pub returns-clause-group : goal.returns-clause-group
returns-clause-group c = group_sequence_is_deep

pub returns-clause-union_in_group : goal.returns-clause-union_in_group
returns-clause-union_in_group c = nested_is_deep

pub returns-clause-arrow_item : goal.returns-clause-arrow_item
returns-clause-arrow_item c = arrow_item_is_deep

pub returns-clause-xml : goal.returns-clause-xml
returns-clause-xml c = any_xml_is_deep

pub returns-clause-tag : goal.returns-clause-tag
returns-clause-tag c = typed_xml_is_deep

pub returns-clause-attributes : goal.returns-clause-attributes
returns-clause-attributes c = attributes_is_deep

pub returns-clause-content : goal.returns-clause-content
returns-clause-content c = content_is_deep
