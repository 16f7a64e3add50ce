use Rattle.std.proofs.Common.{rules}
use Rattle.cd_graph.proofs.Sizes.{items_fall}
use Rattle.cd_asking.proofs.shape.+in_formula.Goals as goal

-- each item of a list is smaller than the list
pub in_all-in_formula-requires : goal.in_all-in_formula-requires
in_all-in_formula-requires t c =
    let fall = rw c.items-formula-items.ensures at (items_fall c.items-formula-items.result.now c.loop-formula.formula-index
    c.formula-item.result c.formula-item.is c.loop-formula-test.true) in
    (search (rules, fall, c.decreases), c.requires)

pub in_any-in_formula-requires : goal.in_any-in_formula-requires
in_any-in_formula-requires t c =
    let fall = rw c.items-formula-items.ensures at (items_fall c.items-formula-items.result.now c.loop-formula.formula-index
    c.formula-item.result c.formula-item.is c.loop-formula-test.true) in
    (search (rules, fall, c.decreases), c.requires)
