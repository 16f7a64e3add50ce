use Rattle.cd_parser.proofs.Popping.{cut_off}
use Rattle.cd_parser.proofs.popped.cut.Goals as goal

pub returns-clause-cut : goal.returns-clause-cut
returns-clause-cut g c =
    cut_off c.args.at c.args.stack.now.items c.truncate.new.self.items c.truncate.ensures.items c.requires
