use Rattle.std.proofs.Common.{sym}
use Rattle.cd_sets.proofs.ListedAtoms.{are_pushed}
use Rattle.cd_sets.proofs.atom_set.add.Goals as goal

pub returns-in_ok-push-clause-atoms : goal.returns-in_ok-push-clause-atoms
returns-in_ok-push-clause-atoms c =
    are_pushed c.args.names.now.items c.push.new.self.items _ c.args.name.now c.in_ok-push.ensures.items c.in_ok-name.ensures.ok
    c.requires.atoms c.requires.atom (sym c.if-not-is_among.ensures)
