use Rattle.std.proofs.Common.{[], ◌∙◌, arith, subst}
use Rattle.cd_cells.specs.Looked.{ArePartsBelow}
use Rattle.cd_cells.proofs.TableLaws.{length_from, cell_read}
use Rattle.cd_cells.proofs.values.Values.look.Goals as goal

pub index-requires : goal.index-requires
index-requires c =
    let old = c.args.self.now in
    omega (arith, length_from old.lists [] old.cells.items, old.cells.ok.0, c.requires)

pub shown-requires : goal.shown-requires
shown-requires c =
    let old = c.args.self.now in
    (_, (cell_read old.lists old.cells.items _ _ old.sound c.requires c.index.ensures).sound)

pub returns-clause-thing : goal.returns-clause-thing
returns-clause-thing c =
    let old = c.args.self.now in
    let read = cell_read old.lists old.cells.items _ _ old.sound c.requires c.index.ensures in
    c.shown.ensures.thing _ read.sound ∙ read.value

pub returns-clause-below : goal.returns-clause-below
returns-clause-below c =
    let old = c.args.self.now in
    let before = (cell_read old.lists old.cells.items _ _ old.sound c.requires c.index.ensures).before in
    subst (λ bound. ArePartsBelow old.lists.names bound c.shown.result) before.1 (c.shown.ensures.below before.0 before.2)
