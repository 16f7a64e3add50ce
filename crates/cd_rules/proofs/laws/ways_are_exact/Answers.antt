use Rattle.cd_model.specs.Membership.{answers, value_answers, closure_mapping}
use Rattle.cd_model.specs.Types.{no_closure}
use Rattle.cd_rules.proofs.NoMember.{tag_in, attributes_in}
use Rattle.cd_rules.proofs.WaysExact.{pair_exact, xml_exact}
use Rattle.cd_rules.proofs.laws.ways_are_exact.Goals as goal

pub returns-clause-pairs : goal.returns-clause-pairs
returns-clause-pairs c = λ graph wanted refused first second.
    pair_exact wanted refused (answers graph first) (answers graph second)

pub returns-clause-pair_values : goal.returns-clause-pair_values
returns-clause-pair_values c = λ graph interfaces wanted refused first second.
    pair_exact wanted refused (value_answers graph interfaces first) (value_answers graph interfaces second)

pub returns-clause-xmls : goal.returns-clause-xmls
returns-clause-xmls c = λ graph more wanted refused tag attributes content begins is_atom is_record.
    xml_exact wanted refused (answers graph tag) (answers graph attributes) (answers graph content)
    (tag_in graph (more, begins) no_closure tag is_atom) (attributes_in graph (more, begins) no_closure attributes is_record)

pub returns-clause-xml_values : goal.returns-clause-xml_values
returns-clause-xml_values c = λ graph more interfaces wanted refused tag attributes content begins is_atom is_record.
    xml_exact wanted refused
    (value_answers graph interfaces tag) (value_answers graph interfaces attributes) (value_answers graph interfaces content)
    (tag_in graph (more, begins) (closure_mapping graph interfaces) tag is_atom)
    (attributes_in graph (more, begins) (closure_mapping graph interfaces) attributes is_record)
