use Rattle.cd_model.specs.Formula.{in_node}
use Rattle.cd_rows.proofs.RecordsOfRows.{has_record}
use Rattle.cd_rows.proofs.laws.rows_are_inhabited.Goals as goal

pub returns : goal.returns
returns c graph = has_record (in_node graph)
