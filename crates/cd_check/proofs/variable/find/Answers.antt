use Rattle.std.proofs.Common.{◌∙◌}
use Rattle.cd_check.specs.Inner.Environment.{declared}
use Rattle.cd_check.proofs.FoundFirst.{found_first, found_later}
use Rattle.cd_check.proofs.variable.find.Goals as goal

pub returns-in-Some : goal.returns-in-Some
returns-in-Some c = found_first c.args.locals.now (declared c.args.base.now.functions.now c.args.base.now.interfaces.now) c.args.name.now
    c.in-Some.id c.in-Some.ensures

pub returns-in-None : goal.returns-in-None
returns-in-None c = c.function.ensures
    ∙ found_later c.args.locals.now (declared c.args.base.now.functions.now c.args.base.now.interfaces.now) c.args.name.now c.in-None.ensures
