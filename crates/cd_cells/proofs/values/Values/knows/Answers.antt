use Rattle.std.proofs.Common.{[]}
use Rattle.cd_cells.proofs.TableLaws.{things_are}
use Rattle.cd_cells.proofs.values.Values.knows.Goals as goal

pub returns-clause-sound : goal.returns-clause-sound
returns-clause-sound c =
    let old = c.args.self.now in
    things_are old.lists [] old.cells.items tt old.sound
