use Rattle.cd_filter.proofs.ExactCapture.{exactly, widely}
use Rattle.cd_filter.proofs.laws.captured_types_are_exact.Goals as goal

pub returns-clause-elements : goal.returns-clause-elements
returns-clause-elements c = exactly

pub returns-clause-values : goal.returns-clause-values
returns-clause-values c = widely
