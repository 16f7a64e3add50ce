use Rattle.std.proofs.Common.{◌∙◌, ap, reverse, drop, length, ◌-◌}
use Rattle.cd_notation.proofs.Cutting.{cut_view}
use Rattle.cd_notation.proofs.stack.Stack.cut.Goals as goal

pub returns : goal.returns
returns g c =
    ap reverse c.truncate.ensures.items ∙ cut_view c.args.count c.self.inside.items.items
    ∙ ap (λ all. drop (length all - c.args.count) all) c.self.view_is
