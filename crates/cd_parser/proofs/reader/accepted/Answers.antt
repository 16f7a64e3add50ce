use Rattle.std.proofs.Common.{◌==◌, ◌∙◌, sym, ap, length}
use Rattle.cd_parser.proofs.Stacks.{one_cell}
use Rattle.cd_parser.proofs.reader.accepted.Goals as goal

pub returns-then-is_empty : goal.returns-then-is_empty
returns-then-is_empty g c =
    let none =
    ap (λ items. length items == 0) (sym c.as_slice.ensures.value) ∙ sym c.is_empty.ensures ∙ c.if-is_empty.true in (
      c.in-Some.cell.span,
      one_cell g.P.Parts.plain c.args.stack.items c.pop.new.self.items c.in-Some.cell c.in-Some.ensures.items none,
    )
