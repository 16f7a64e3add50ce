use Rattle.std.proofs.Common.{rules}
use Rattle.cd_graph.proofs.Sizes.{items_fall}
use Rattle.cd_sites.proofs.members.+add_members.Goals as goal

-- each formula is smaller than the list
pub add_members_of_all-add_members-requires : goal.add_members_of_all-add_members-requires
add_members_of_all-add_members-requires t c =
    let fall = rw c.items-formula-items.ensures at (items_fall c.items-formula-items.result.now
    c.loop-formula.formula-index c.formula-item.result c.formula-item.is c.loop-formula-test.true)
    in
    search (rules, fall, c.decreases)
