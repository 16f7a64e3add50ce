use Rattle.cd_model.specs.Formula.{in_node}
use Rattle.cd_rows.proofs.RecordsOfRows.{has_picked}
use Rattle.cd_rows.proofs.laws.rows_pick.Goals as goal

pub returns : goal.returns
returns c graph row label e witnesses = has_picked (in_node graph) row witnesses label e
