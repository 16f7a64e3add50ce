use Rattle.std.proofs.Common.{refl}
use Rattle.cd_parser.specs.PlainStacks.{plain_stack}
use Rattle.cd_parser.proofs.Beginning.{begun}
use Rattle.cd_parser.proofs.reader.start.Goals as goal

pub returns-clause-comes : goal.returns-clause-comes
returns-clause-comes g c =
    begun c.args.goal c.args.most c.first_state.result c.args.tokens.now (plain_stack g.P.Parts.plain c.push.new.self.items)
    c.first_state.ensures (rw (c.in_ok-push.ensures.items, c.new-stack.ensures.items, c.junk.ensures) refl)
