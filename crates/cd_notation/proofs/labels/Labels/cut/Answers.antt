use Rattle.std.proofs.Common.{◌∙◌, ap, reverse, sym}
use Rattle.cd_notation.proofs.Cutting.{cut_both}
use Rattle.cd_notation.proofs.labels.Labels.cut.Goals as goal

pub invariant_of-self : goal.invariant_of-self
invariant_of-self c =
    c.cut-2.ensures ∙ cut_both c.args.count _ _ c.self.invariant ∙ ap reverse (sym c.cut.ensures)
