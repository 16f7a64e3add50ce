use Rattle.cd_parser.proofs.Stacks.{placed}
use Rattle.cd_parser.proofs.stack.place_of.Goals as goal

pub returns-in-len2-up : goal.returns-in-len2-up
returns-in-len2-up g c =
    placed g.P.Parts.plain c.args.cells.now c.first-item.result c.last-item.result c.in-len2-up.len_at_least c.first-item.is
    c.last-item.is
