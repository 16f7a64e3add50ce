use Rattle.std.proofs.Common.{◌++◌}
use Rattle.cd_sets.specs.declared.node_id.NodeId.{NodeId}
use Rattle.std.proofs.Common.{ℕ}
use Rattle.cd_model.specs.BuiltIns.{built_ins}
use Rattle.cd_model.specs.Formula.{Graph, nodes}
use Rattle.cd_model.specs.Interfaces.{Interfaces, admits}
use Rattle.cd_model.specs.Types.{Mapping, closure_maps, no_closure}
use Rattle.cd_model.proofs.DecidedValues.{value_decided}
use Rattle.cd_model.proofs.BuiltIns.{all_map, values_are_sound, function_values_are, nothing_is_empty, all_are_any, integers_are, characters_are, bytes_are, atoms_are, bools_are, strings_are, pairs_are, records_are, xmls_are, data_are, nils_are}
use Rattle.cd_model.proofs.laws.built_ins_hold_values.Goals as goal

abbrev closed : Graph → Interfaces → ℕ → Mapping NodeId
closed more interfaces = closure_maps (nodes (built_ins ++ more)) (admits interfaces)

pub returns-clause-decided : goal.returns-clause-decided
returns-clause-decided c more interfaces v id sound =
    value_decided more (closed more interfaces) (λ function pairs element admitted. all_map more no_closure pairs) v sound id

pub returns-clause-empty : goal.returns-clause-empty
returns-clause-empty c more interfaces = nothing_is_empty more (closed more interfaces)

pub returns-clause-any : goal.returns-clause-any
returns-clause-any c more interfaces = all_are_any more (closed more interfaces)

pub returns-clause-int : goal.returns-clause-int
returns-clause-int c more interfaces is sound = integers_are more (closed more interfaces) is (values_are_sound is sound)

pub returns-clause-char : goal.returns-clause-char
returns-clause-char c more interfaces is sound = characters_are more (closed more interfaces) is (values_are_sound is sound)

pub returns-clause-byte : goal.returns-clause-byte
returns-clause-byte c more interfaces = bytes_are more (closed more interfaces)

pub returns-clause-atom : goal.returns-clause-atom
returns-clause-atom c more interfaces = atoms_are more (closed more interfaces)

pub returns-clause-bool : goal.returns-clause-bool
returns-clause-bool c more interfaces = bools_are more (closed more interfaces)

pub returns-clause-string : goal.returns-clause-string
returns-clause-string c more interfaces is sound = strings_are more (closed more interfaces) is (values_are_sound is sound)

pub returns-clause-pair : goal.returns-clause-pair
returns-clause-pair c more interfaces = pairs_are more (closed more interfaces)

pub returns-clause-record_type : goal.returns-clause-record_type
returns-clause-record_type c more interfaces = records_are more (closed more interfaces)

pub returns-clause-any_xml : goal.returns-clause-any_xml
returns-clause-any_xml c more interfaces = xmls_are more (closed more interfaces)

pub returns-clause-data_type : goal.returns-clause-data_type
returns-clause-data_type c more interfaces is sound = data_are more (closed more interfaces) is (values_are_sound is sound)

pub returns-clause-nil : goal.returns-clause-nil
returns-clause-nil c more interfaces = nils_are more (closed more interfaces)

pub returns-clause-arrow : goal.returns-clause-arrow
returns-clause-arrow c more interfaces = function_values_are more (admits interfaces)
