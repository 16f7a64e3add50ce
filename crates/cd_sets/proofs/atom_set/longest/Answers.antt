use Rattle.std.proofs.Common.{subst, ◌≤◌, List, length, String, Global, rules}
use Rattle.std.proofs.lemmas.List.{take_all}
use Rattle.cd_sets.proofs.ListedAtoms.{within_next, AreWithin}
use Rattle.cd_sets.proofs.atom_set.longest.Goals as goal

pub loop-name-preserved : goal.loop-name-preserved
loop-name-preserved c =
    within_next _ c.args.names.now.items c.loop-name.name-index c.loop-name.longest c.max-longest.result c.name-item.result c.as_str.result.now
    c.deref-name-items.ensures.value c.loop-name-test.true c.name-item.is c.as_str.ensures.value c.loop-name.invariant (search rules) (search rules)

pub returns : goal.returns
returns c =
    let h : length c.args.names.now.items ≤ c.loop-name.name-index = search rules in
    let all = take_all c.loop-name.name-index c.args.names.now.items h in
    subst (λ (all : List (String Global)). AreWithin c.loop-name.longest all) all c.loop-name.invariant
