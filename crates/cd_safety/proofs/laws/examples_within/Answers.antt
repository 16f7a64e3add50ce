use Rattle.cd_safety.proofs.ExamplesWithin.{integers_come, atom_is_unexpected, truths_are_too_few, leaves_truths}
use Rattle.cd_safety.proofs.laws.examples_within.Goals as goal

pub returns-clause-typed : goal.returns-clause-typed
returns-clause-typed c = integers_come

pub returns-clause-unexpected : goal.returns-clause-unexpected
returns-clause-unexpected c = atom_is_unexpected

pub returns-clause-too_few : goal.returns-clause-too_few
returns-clause-too_few c = truths_are_too_few

pub returns-clause-leaves : goal.returns-clause-leaves
returns-clause-leaves c = leaves_truths
