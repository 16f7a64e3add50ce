use Rattle.cd_driver.proofs.Asking.{asks_check, asks_work}
use Rattle.cd_driver.proofs.request.of_two.Goals as goal

pub returns-in-check : goal.returns-in-check
returns-in-check c = asks_check c.args.name.now c.args.word.now c.in-check.is

pub returns-in-work : goal.returns-in-work
returns-in-work c =
    asks_work c.args.name.now c.args.word.now c.number.result c.in-work.is (c.is_size.ensures.0 c.if-is_size.true) c.number.ensures

pub number-requires-clause-digits : goal.number-requires-clause-digits
number-requires-clause-digits c = (c.is_size.ensures.0 c.if-is_size.true).1.numeral.digits

pub number-requires-clause-short : goal.number-requires-clause-short
number-requires-clause-short c = (c.is_size.ensures.0 c.if-is_size.true).1.numeral.short
