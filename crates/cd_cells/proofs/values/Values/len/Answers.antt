use Rattle.std.proofs.Common.{[], arith}
use Rattle.cd_cells.proofs.TableLaws.{length_from, things_are}
use Rattle.cd_cells.proofs.values.Values.len.Goals as goal

pub returns-clause-count : goal.returns-clause-count
returns-clause-count c =
    let old = c.args.self.now in
    omega (arith, length_from old.lists [] old.cells.items, old.cells.ok.0, c.len.ensures)

pub returns-clause-sound : goal.returns-clause-sound
returns-clause-sound c =
    let old = c.args.self.now in
    things_are old.lists [] old.cells.items tt old.sound
