use Rattle.cd_cells.specs.SharedCells.{is_atom}
use Rattle.cd_cells.proofs.SharedCells.{atom_cell, slot_kept}
use Rattle.cd_cells.proofs.values.Values.new_atom.Goals as goal

pub invariant_of-self : goal.invariant_of-self
invariant_of-self c =
    let pushed = c.push.new.self in
    let is = atom_cell _ _ _ c.in_ok-id.ensures.stored in
    let kept = slot_kept is_atom _ _ _ _ _ c.put-shared.ensures.only pushed.known.1 is in
    record { sound = pushed.sound; known = (pushed.known.0, kept, pushed.known.2, pushed.known.3) }
