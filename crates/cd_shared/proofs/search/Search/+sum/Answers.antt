use Rattle.std.proofs.Common.{rules}
use Rattle.cd_graph.proofs.Sizes.{items_fall}
use Rattle.cd_shared.proofs.search.Search.+sum.Goals as goal

-- each item of a list is smaller than the list
pub formulas-formula-total-requires : goal.formulas-formula-total-requires
formulas-formula-total-requires t c =
    let fall = rw c.items-formula-items.ensures at (items_fall c.items-formula-items.result.now
    c.loop-formula.formula-index c.formula-item.result c.formula-item.is c.loop-formula-test.true)
    in
    (search (rules, fall, c.decreases), tt)
