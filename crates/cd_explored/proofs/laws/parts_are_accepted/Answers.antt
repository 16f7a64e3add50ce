use Rattle.cd_explored.proofs.AcceptedNext.{both_accepted, first_accepted, pair_accepted}
use Rattle.cd_explored.proofs.AcceptedNext.{gather_accepted, xml_accepted, record_accepted}
use Rattle.cd_explored.proofs.laws.parts_are_accepted.Goals as goal

pub returns-clause-both : goal.returns-clause-both
returns-clause-both c graph kernel first place p q is accepted there =
    both_accepted graph kernel first is place accepted p q there

pub returns-clause-in_turn : goal.returns-clause-in_turn
returns-clause-in_turn c graph kernel first place p q taken_first others is accepted there within
    without =
    first_accepted graph kernel first is place accepted p q there taken_first others within without

pub returns-clause-pairs : goal.returns-clause-pairs
returns-clause-pairs c graph kernel first place p q products is accepted there are =
    pair_accepted graph kernel first is place accepted p q there products are

pub returns-clause-gathered : goal.returns-clause-gathered
returns-clause-gathered c graph kernel first place variable p q products is accepted there are =
    gather_accepted graph kernel first is place accepted variable p q there products are

pub returns-clause-xmls : goal.returns-clause-xmls
returns-clause-xmls c graph kernel first place p q r triples is accepted there are =
    xml_accepted graph kernel first is place accepted p q r there triples are

pub returns-clause-records : goal.returns-clause-records
returns-clause-records c graph kernel first place named more rows is accepted there picks =
    record_accepted graph kernel first is place accepted named more there rows picks
