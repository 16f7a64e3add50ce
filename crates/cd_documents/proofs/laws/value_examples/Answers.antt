use Rattle.std.proofs.Common.{refl}
use Rattle.cd_documents.specs.Examples.{number_tokens, number_value, character_tokens, character_value, atom_tokens, empty_tokens, text_tokens, text_value, tuple_tokens, tuple_value, group_tokens, group_value, sequence_tokens, sequence_value, record_tokens, record_value, xml_tokens, xml_value}
use Rattle.cd_documents.specs.Document.{the_nil}
use Rattle.cd_documents.proofs.Sounding.{derived}
use Rattle.cd_documents.proofs.laws.value_examples.Goals as goal

pub returns-clause-text : goal.returns-clause-text
returns-clause-text c = derived 0 text_tokens text_value refl

pub returns-clause-tuple : goal.returns-clause-tuple
returns-clause-tuple c = derived 1 tuple_tokens tuple_value refl

pub returns-clause-group : goal.returns-clause-group
returns-clause-group c = derived 1 group_tokens group_value refl

pub returns-clause-sequence : goal.returns-clause-sequence
returns-clause-sequence c = derived 1 sequence_tokens sequence_value refl

pub returns-clause-fields : goal.returns-clause-fields
returns-clause-fields c = derived 1 record_tokens record_value refl

pub returns-clause-xml : goal.returns-clause-xml
returns-clause-xml c = derived 2 xml_tokens xml_value refl

pub returns-clause-number : goal.returns-clause-number
returns-clause-number c = derived 0 number_tokens number_value refl

pub returns-clause-character : goal.returns-clause-character
returns-clause-character c = derived 0 character_tokens character_value refl

pub returns-clause-atom : goal.returns-clause-atom
returns-clause-atom c = derived 0 atom_tokens the_nil refl

pub returns-clause-empty : goal.returns-clause-empty
returns-clause-empty c = derived 1 empty_tokens the_nil refl
