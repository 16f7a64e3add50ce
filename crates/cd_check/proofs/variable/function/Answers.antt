use Rattle.std.proofs.Common.{◌∙◌, ap}
use Rattle.cd_check.proofs.FoundByPlace.{at_place, found_by_place, looked_up}
use Rattle.cd_check.proofs.variable.function.Goals as goal

pub returns-in-Some : goal.returns-in-Some
returns-in-Some c = c.copied.ensures
    ∙ looked_up c.args.base.now.interfaces.now c.in-Some.number c.get.result c.get.ensures.lookup
    ∙ ap (at_place c.args.base.now.interfaces.now) c.in-Some.ensures
    ∙ found_by_place c.args.base.now.functions.now c.args.base.now.interfaces.now c.args.name.now

pub returns-in-None : goal.returns-in-None
returns-in-None c = ap (at_place c.args.base.now.interfaces.now) c.in-None.ensures
    ∙ found_by_place c.args.base.now.functions.now c.args.base.now.interfaces.now c.args.name.now
