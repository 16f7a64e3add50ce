use Rattle.cd_model.proofs.SoundOrNot.{element_or_not, value_or_not}
use Rattle.cd_model.proofs.laws.soundness_is_decided.Goals as goal

pub returns-clause-elements : goal.returns-clause-elements
returns-clause-elements c = element_or_not

pub returns-clause-values : goal.returns-clause-values
returns-clause-values c = value_or_not
