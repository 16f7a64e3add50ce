use Rattle.cd_sets.proofs.ListedAtoms.{are_one}
use Rattle.cd_sets.proofs.atom_set.AtomSet.one.Goals as goal

pub invariant_of-result : goal.invariant_of-result
invariant_of-result c =
    are_one _ c.push.new.self.items _ c.args.name.now c.in_ok-push.ensures.items c.new-names.ensures.items c.in_ok-from_str.ensures.ok c.requires
