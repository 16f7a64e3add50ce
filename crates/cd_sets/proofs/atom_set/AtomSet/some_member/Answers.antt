use Rattle.cd_sets.proofs.ListedAtoms.{first_is_member}
use Rattle.cd_sets.proofs.atom_set.AtomSet.some_member.Goals as goal

pub returns-in_ok-from_str-in-Some : goal.returns-in_ok-from_str-in-Some
returns-in_ok-from_str-in-Some c =
    first_is_member c.self.inside.names.items c.self.inside.all_but c.args.self.now c.in-Some.name.now _ c.if-self.false
    c.self.invariant c.self.view_is c.in-Some.ensures c.in_ok-from_str-in-Some.ensures.ok
