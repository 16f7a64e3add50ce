use Rattle.std.proofs.Common.{[], ◌∷◌, ◌∙◌, ap, arith}
use Rattle.cd_cells.specs.Cells.{things_from}
use Rattle.cd_cells.proofs.TableLaws.{length_from, from_append, cells_pushed, things_pushed}
use Rattle.cd_cells.proofs.SharedCells.{last_cell, shared_pushed}
use Rattle.cd_cells.proofs.Growing.{grows_not}
use Rattle.cd_cells.proofs.values.Values.push.Goals as goal

pub invariant_of-self : goal.invariant_of-self
invariant_of-self c =
    let old = c.args.self.now in
    record {
      sound = cells_pushed old.lists _ old.cells.items _ c.args.cell old.sound c.requires c.push.ensures.items;
      known = shared_pushed c.push.result old.lists old.cells.items _ c.args.cell old.shared old.known c.push.ensures.items;
    }

pub returns-clause-number : goal.returns-clause-number
returns-clause-number c =
    let old = c.args.self.now in
    omega (arith, length_from old.lists [] old.cells.items, old.cells.ok.0, c.len.ensures)

pub returns-clause-added : goal.returns-clause-added
returns-clause-added c =
    let old = c.args.self.now in
    ap (things_from old.lists []) c.in_ok-push.ensures.items
    ∙ from_append old.lists [] old.cells.items (c.args.cell ∷ [])

pub returns-clause-stored : goal.returns-clause-stored
returns-clause-stored c =
    let old = c.args.self.now in
    last_cell old.cells.items _ _ c.args.cell c.in_ok-push.ensures.items (omega (arith, old.cells.ok.0, c.len.ensures))

pub returns-clause-grows : goal.returns-clause-grows
returns-clause-grows c =
    let old = c.args.self.now in
    record {
      things = things_pushed old.lists c.push.result old.cells.items _ c.args.cell c.push.ensures.items;
      labels = grows_not old.lists.names;
    }
