use Rattle.cd_tasks.proofs.RowsWithin.{row_within}
use Rattle.cd_tasks.proofs.laws.partial_row_is_within.Goals as goal

pub returns : goal.returns
returns c = row_within
