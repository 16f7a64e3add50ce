use Rattle.std.proofs.Common.{refl}
use Rattle.std.specs.Prelude.{codes}
use Rattle.cd_model.proofs.examples.written_examples.Goals as goal

-- the label at which the record is outside
pub returns-clause-not_closed : goal.returns-clause-not_closed
returns-clause-not_closed c = (codes "b", refl)

pub returns-clause-no_field : goal.returns-clause-no_field
returns-clause-no_field c = (codes "a", refl)
