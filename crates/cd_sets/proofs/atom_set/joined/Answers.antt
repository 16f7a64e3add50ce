use Rattle.cd_sets.proofs.ListedAtoms.{name_is_atom}
use Rattle.cd_sets.proofs.atom_set.joined.Goals as goal

pub add-requires-clause-atom : goal.add-requires-clause-atom
add-requires-clause-atom c =
    name_is_atom _ c.args.second.now.items c.loop-name.name-index c.name-item.result c.as_str.result.now
    c.deref-name-items.ensures.value c.loop-name-test.true c.name-item.is c.as_str.ensures.value c.requires.second
