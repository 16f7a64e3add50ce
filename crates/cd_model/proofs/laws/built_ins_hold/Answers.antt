use Rattle.cd_model.specs.Types.{no_closure}
use Rattle.cd_model.proofs.BuiltIns.{elements_are_sound, functions_are, nothing_is_empty, all_are_any, integers_are, characters_are, bytes_are, atoms_are, bools_are, strings_are, pairs_are, records_are, xmls_are, data_are, nils_are}
use Rattle.cd_model.proofs.laws.built_ins_hold.Goals as goal

pub returns-clause-empty : goal.returns-clause-empty
returns-clause-empty c more = nothing_is_empty more no_closure

pub returns-clause-any : goal.returns-clause-any
returns-clause-any c more = all_are_any more no_closure

pub returns-clause-int : goal.returns-clause-int
returns-clause-int c more is sound = integers_are more no_closure is (elements_are_sound is sound)

pub returns-clause-char : goal.returns-clause-char
returns-clause-char c more is sound = characters_are more no_closure is (elements_are_sound is sound)

pub returns-clause-byte : goal.returns-clause-byte
returns-clause-byte c more = bytes_are more no_closure

pub returns-clause-atom : goal.returns-clause-atom
returns-clause-atom c more = atoms_are more no_closure

pub returns-clause-bool : goal.returns-clause-bool
returns-clause-bool c more = bools_are more no_closure

pub returns-clause-string : goal.returns-clause-string
returns-clause-string c more is sound = strings_are more no_closure is (elements_are_sound is sound)

pub returns-clause-pair : goal.returns-clause-pair
returns-clause-pair c more = pairs_are more no_closure

pub returns-clause-record_type : goal.returns-clause-record_type
returns-clause-record_type c more = records_are more no_closure

pub returns-clause-any_xml : goal.returns-clause-any_xml
returns-clause-any_xml c more = xmls_are more no_closure

pub returns-clause-data_type : goal.returns-clause-data_type
returns-clause-data_type c more is sound = data_are more no_closure is (elements_are_sound is sound)

pub returns-clause-nil : goal.returns-clause-nil
returns-clause-nil c more = nils_are more no_closure

pub returns-clause-arrow : goal.returns-clause-arrow
returns-clause-arrow c = functions_are
