use Rattle.cd_rules.proofs.SubsumedConjuncts.{pair_cut, xml_cut, record_cut, arrow_cut}
use Rattle.cd_rules.proofs.task_laws.partial_conjuncts_are_cut.Goals as goal

pub returns-clause-pairs : goal.returns-clause-pairs
returns-clause-pairs c = pair_cut

pub returns-clause-xmls : goal.returns-clause-xmls
returns-clause-xmls c = xml_cut

pub returns-clause-records : goal.returns-clause-records
returns-clause-records c = record_cut

pub returns-clause-functions : goal.returns-clause-functions
returns-clause-functions c = arrow_cut
