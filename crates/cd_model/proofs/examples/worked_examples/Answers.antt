use Rattle.std.proofs.Common.{refl, pos, rules}
use Rattle.std.specs.Prelude.{codes}
use Rattle.cd_model.specs.Thing.{Integer, Fails, NoPair}
use Rattle.cd_model.proofs.Nowhere.{both_are_nowhere, fails_outside}
use Rattle.cd_model.proofs.examples.worked_examples.Goals as goal

-- the label at which the record is outside
pub returns-clause-not_closed : goal.returns-clause-not_closed
returns-clause-not_closed c = (codes "b", refl)

pub returns-clause-no_field : goal.returns-clause-no_field
returns-clause-no_field c = (codes "a", refl)

pub returns-clause-wrong_field : goal.returns-clause-wrong_field
returns-clause-wrong_field c = (codes "a", refl)

-- no result is an integer and a character
pub returns-clause-all_arrows_at_once : goal.returns-clause-all_arrows_at_once
returns-clause-all_arrows_at_once c = λ pairs are each. both_are_nowhere pairs each.0 each.1.0

-- the function that fails at `0` is in all arrows of no interface
pub returns-clause-no_arrow : goal.returns-clause-no_arrow
returns-clause-no_arrow c = λ all. fails_outside (all (Fails (Integer (pos 0)) NoPair) (search rules) tt)
