use Rattle.cd_cells.proofs.SharedCells.{nil_at}
use Rattle.cd_cells.proofs.values.Values.known_nil.Goals as goal

pub returns : goal.returns
returns c =
    let old = c.args.self.now in
    nil_at old.lists old.cells.items old.sound old.shared.nil old.known.2
