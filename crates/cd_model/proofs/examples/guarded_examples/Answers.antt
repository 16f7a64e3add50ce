use Rattle.cd_model.proofs.Unguarded.{in_union, in_difference, through_where}
use Rattle.cd_model.proofs.examples.guarded_examples.Goals as goal

pub returns-clause-in_union : goal.returns-clause-in_union
returns-clause-in_union c = in_union

pub returns-clause-in_difference : goal.returns-clause-in_difference
returns-clause-in_difference c = in_difference

pub returns-clause-through_where : goal.returns-clause-through_where
returns-clause-through_where c = through_where
