use Rattle.cd_cells.proofs.SharedCells.{no_fields_at}
use Rattle.cd_cells.proofs.values.Values.known_no_fields.Goals as goal

pub returns : goal.returns
returns c =
    let old = c.args.self.now in
    no_fields_at old.lists old.cells.items old.sound old.shared.no_fields old.known.3
