use Rattle.std.proofs.Common.{sym, ap, ◌∙◌, arith}
use Rattle.cd_syntax.specs.declared.type_tree.RegKind.TheViews.{out-SignedTree}
use Rattle.cd_variables.specs.FindingVariables.{sides_in}
use Rattle.cd_variables.proofs.Sides.{sides_counted, none_counted}
use Rattle.cd_resolve.proofs.Views.{signed_is}
use Rattle.cd_variables.proofs.row.count_sides.Goals as goal

-- the last of those is taken away
pub returns-else-items-sides : goal.returns-else-items-sides
returns-else-items-sides c = sym (sides_counted c.items-items.result.now c.loop-sides.sides c.index-items-sides.result
    (omega arith) c.loop-sides.invariant.0 c.index-items-sides.is
    (ap (λ one. one.kept) (signed_is c.index-items-sides.result)
    ∙ ap (λ one. (out-SignedTree one).kept) c.index-items-sides.is ∙ c.if-items-sides.false)
    c.loop-sides.invariant.1)
    ∙ ap sides_in c.items-items.ensures

-- or there are none
pub returns-after-loop-sides : goal.returns-after-loop-sides
returns-after-loop-sides c = sym (none_counted c.items-items.result.now c.loop-sides.sides (omega arith)
    c.loop-sides.invariant.1) ∙ ap sides_in c.items-items.ensures
