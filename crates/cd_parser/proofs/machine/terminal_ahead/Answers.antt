use Rattle.cd_parser.proofs.Steps.{end_ahead}
use Rattle.cd_parser.proofs.machine.terminal_ahead.Goals as goal

pub returns-in-None : goal.returns-in-None
returns-in-None c = end_ahead c.args.index c.args.tokens.now c.in-None.ensures.lookup.3
