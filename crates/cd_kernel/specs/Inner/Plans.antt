-- The moves of an expression, as the code has them.
use Rattle.std.specs.Prelude.{◌≡◌}
use Rattle.cd_sets.specs.declared.node_id.NodeId.{NodeId}
use Rattle.cd_matching.specs.Pattern.{Regular}
use Rattle.cd_kernel.specs.Inner.Building.{rows_made}
use Rattle.cd_moves.specs.Inner.Rows.{plain_row, plain_rows, first_moves_row}
use Rattle.cd_kernel.specs.declared.copies.Plan.{Plan}

pub record IsPlanOf (r : Regular NodeId) (plan : Plan) : Type 0 where
  pub start : plain_row plan.start ≡ first_moves_row r 0
  pub rows : plain_rows plan.rows.items ≡ rows_made r
