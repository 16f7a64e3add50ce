use Rattle.std.proofs.Common.{[], ◌∙◌, sym, append-nil}
use Rattle.cd_cells.specs.Table.{table}
use Rattle.cd_cells.proofs.TableLaws.{same_things, still_sound}
use Rattle.cd_cells.proofs.SharedCells.{shared_named}
use Rattle.cd_cells.proofs.values.Values.keep_integer.Goals as goal

pub invariant_of-self : goal.invariant_of-self
invariant_of-self c =
    let old = c.args.self.now in
    record {
      sound = still_sound old.lists c.keep_integer.new.self c.keep_integer.ensures.grows [] old.cells.items old.sound;
      known = shared_named old.lists c.keep_integer.new.self c.keep_integer.ensures.grows.names old.cells.items old.shared old.known;
    }

pub returns-clause-kept : goal.returns-clause-kept
returns-clause-kept c =
    let old = c.args.self.now in
    same_things old.lists c.keep_integer.new.self c.keep_integer.ensures.grows [] old.cells.items old.sound

pub returns-clause-grows : goal.returns-clause-grows
returns-clause-grows c =
    let old = c.args.self.now in
    record {
      things = (
        [],
        same_things old.lists c.keep_integer.new.self c.keep_integer.ensures.grows [] old.cells.items old.sound
            ∙ sym (append-nil (table old)),
      );
      labels = c.keep_integer.ensures.grows.names;
    }
