use Rattle.cd_cells.proofs.SharedCells.{no_fields_cell}
use Rattle.cd_cells.proofs.values.Values.new_no_fields.Goals as goal

pub invariant_of-self : goal.invariant_of-self
invariant_of-self c =
    let pushed = c.push.new.self in
    let is = no_fields_cell _ _ c.in_ok-id.ensures.stored in
    record { sound = pushed.sound; known = (pushed.known.0, pushed.known.1, pushed.known.2, is) }
