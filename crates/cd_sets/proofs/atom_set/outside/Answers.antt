use Rattle.cd_sets.proofs.ListedAtoms.{row_is_outside}
use Rattle.cd_sets.proofs.atom_set.outside.Goals as goal

pub returns-clause-atom : goal.returns-clause-atom
returns-clause-atom c =
    (row_is_outside c.longest.result c.args.names.now.items _ _ c.longest.ensures c.in_ok-name.ensures.bytes c.in_ok-push_str.ensures.bytes).0

pub returns-clause-new : goal.returns-clause-new
returns-clause-new c =
    (row_is_outside c.longest.result c.args.names.now.items _ _ c.longest.ensures c.in_ok-name.ensures.bytes c.in_ok-push_str.ensures.bytes).1
