use Rattle.std.proofs.Common.{subst, sym}
use Rattle.cd_cells.specs.SharedCells.{is_atom, IsNoneOrWith}
use Rattle.cd_cells.proofs.SharedCells.{atom_at}
use Rattle.cd_cells.proofs.values.Values.known_atom.Goals as goal

pub returns : goal.returns
returns c =
    let old = c.args.self.now in
    atom_at old.lists old.cells.items old.sound c.args.name c.get.result
    (subst (IsNoneOrWith (is_atom c.args.name) old.cells.items) (sym c.get.ensures)
    (old.known.1 c.args.name))
