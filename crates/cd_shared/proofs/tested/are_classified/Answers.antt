use Rattle.std.proofs.Common.{refl}
use borrow.Author.Count.{below_more}
use Rattle.cd_shared.specs.Equation.{plain_equations}
use Rattle.cd_shared.specs.Inner.Found.{IsClassified}
use Rattle.cd_shared.proofs.tested.are_classified.Goals as goal

pub loop-number-preserved : goal.loop-number-preserved
loop-number-preserved c = below_more
    (IsClassified c.args.classes.now.first c.args.classes.now.ids.items
    c.args.leaders.now (plain_equations c.args.equations.now))
    c.loop-number.number c.loop-number.invariant (c.if-not-is_classified.ensures refl)
