use Rattle.cd_driver.proofs.Asking.{asks_member}
use Rattle.cd_driver.proofs.request.of_four.Goals as goal

pub returns-in-member : goal.returns-in-member
returns-in-member c = asks_member c.args.name.now c.args.first.now c.args.second.now c.args.third.now c.in-member.is
