use Rattle.cd_rules.proofs.BasicSetsExact.{integers_exact, characters_exact, atoms_exact}
use Rattle.cd_rules.proofs.laws.basic_sets_are_exact.Goals as goal

pub returns-clause-integers : goal.returns-clause-integers
returns-clause-integers c = integers_exact

pub returns-clause-characters : goal.returns-clause-characters
returns-clause-characters c = characters_exact

pub returns-clause-atoms : goal.returns-clause-atoms
returns-clause-atoms c = atoms_exact
