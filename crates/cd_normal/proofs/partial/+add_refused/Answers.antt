use Rattle.std.proofs.Common.{rules}
use Rattle.cd_graph.proofs.Sizes.{items_fall}
use Rattle.cd_normal.proofs.partial.+add_refused.Goals as goal

-- each item of a list is smaller than the list
pub add_refused-add_refused_in-requires : goal.add_refused-add_refused_in-requires
add_refused-add_refused_in-requires t c =
    let fall = rw c.items-formulas.ensures at (items_fall c.items-formulas.result.now c.loop-formula.formula-index
    c.formula-item.result c.formula-item.is c.loop-formula-test.true) in
    search (rules, fall, c.decreases)
