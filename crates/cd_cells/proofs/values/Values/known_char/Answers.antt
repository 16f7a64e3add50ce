use Rattle.std.proofs.Common.{subst, sym}
use Rattle.cd_cells.specs.SharedCells.{is_letter, IsNoneOrWith}
use Rattle.cd_cells.proofs.SharedCells.{letter_at}
use Rattle.cd_cells.proofs.values.Values.known_char.Goals as goal

pub returns : goal.returns
returns c =
    let old = c.args.self.now in
    letter_at old.lists old.cells.items old.sound c.args.c c.get.result
    (subst (IsNoneOrWith (is_letter c.args.c) old.cells.items) (sym c.get.ensures)
    (old.known.0 c.args.c))
