use Rattle.cd_cells.specs.SharedCells.{is_letter}
use Rattle.cd_cells.proofs.SharedCells.{letter_cell, slot_kept}
use Rattle.cd_cells.proofs.values.Values.new_char.Goals as goal

pub invariant_of-self : goal.invariant_of-self
invariant_of-self c =
    let pushed = c.push.new.self in
    let is = letter_cell _ _ _ c.in_ok-id.ensures.stored in
    let kept = slot_kept is_letter _ _ _ _ _ c.put-shared.ensures.only pushed.known.0 is in
    record { sound = pushed.sound; known = (kept, pushed.known.1, pushed.known.2, pushed.known.3) }
