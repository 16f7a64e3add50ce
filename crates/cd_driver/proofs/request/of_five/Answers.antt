use Rattle.std.proofs.Common.{◌≡◌, rules}
use Rattle.std.specs.Prelude.{codes}
use Rattle.cd_driver.proofs.Asking.{asks_sub_types, asks_run_steps}
use Rattle.cd_driver.proofs.request.of_five.Goals as goal

pub returns-in-sub : goal.returns-in-sub
returns-in-sub c =
    let option : c.args.option.now ≡ codes "--types" = search rules in
    asks_sub_types c.args.name.now c.args.option.now c.args.first.now c.args.second.now c.args.third.now c.in-sub.is option

pub returns-in-run : goal.returns-in-run
returns-in-run c =
    let option : c.args.option.now ≡ codes "--steps" = search rules in
    let numeral = c.is_numeral.ensures.0 c.if-is_numeral.true in
    asks_run_steps c.args.name.now c.args.option.now c.args.first.now c.args.second.now c.args.third.now c.units.result c.in-run.is option numeral.0 numeral.1
    c.units.ensures
