use Rattle.cd_rules.proofs.WantedAndRefused.{pair_twice, xml_twice, arrow_twice}
use Rattle.cd_rules.proofs.task_laws.wanted_and_refused_is_refuted.Goals as goal

pub returns-clause-pairs : goal.returns-clause-pairs
returns-clause-pairs c = pair_twice

pub returns-clause-xmls : goal.returns-clause-xmls
returns-clause-xmls c = xml_twice

pub returns-clause-arrows : goal.returns-clause-arrows
returns-clause-arrows c = arrow_twice
