use Rattle.cd_cells.specs.Table.{table}
use Rattle.cd_operations.proofs.Joining.{both_joined}
use Rattle.cd_operations.proofs.joins.concatenated.Goals as goal

pub returns-in-Some-clause-is : goal.returns-in-Some-clause-is
returns-in-Some-clause-is c =
    both_joined (table c.args.values.now) c.args.first.0 c.args.second.0 (table c.prepended.new.values) _ _ c.in-Some.is c.in_ok-id.ensures.is c.if-not-is_sequence.ensures
