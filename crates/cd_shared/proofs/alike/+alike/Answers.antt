use Rattle.std.proofs.Common.{rules}
use Rattle.cd_graph.proofs.Sizes.{items_fall}
use Rattle.cd_shared.proofs.alike.+alike.Goals as goal

-- each item of a list is smaller than the list
pub are_alike_lists-are_alike_formulas-requires : goal.are_alike_lists-are_alike_formulas-requires
are_alike_lists-are_alike_formulas-requires t c =
    let fall = rw c.items-items.ensures at (items_fall c.items-items.result.now c.loop-index.index
    c.index-items-index.result c.index-items-index.is c.loop-index-test.true) in
    (search (rules, fall, c.decreases), tt)
