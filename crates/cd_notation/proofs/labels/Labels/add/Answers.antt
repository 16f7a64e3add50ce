use Rattle.std.proofs.Common.{◌∙◌, ap, sym, ◌∷◌}
use Rattle.cd_notation.proofs.Cutting.{shown_labels}
use Rattle.cd_notation.proofs.labels.Labels.add.Goals as goal

pub returns-in-Ok-true-clause-fresh : goal.returns-in-Ok-true-clause-fresh
returns-in-Ok-true-clause-fresh c = λ is top below parts under.
    let fresh = c.in-Ok-true.ensures.fresh c.in-Ok-true.field-0-test in (
      sym (shown_labels c.args.label c.args.from _ c.self.inside.numbers top below c.self.invariant (c.self.view_is ∙ parts) under) ∙ fresh.0,
      c.in_ok-push.ensures.added ∙ ap (λ rest. c.args.label ∷ rest) c.self.view_is,
    )

pub returns-in-Ok-false-clause-again : goal.returns-in-Ok-false-clause-again
returns-in-Ok-false-clause-again c = λ is top below parts under.
    let again = c.in-Ok-false.ensures.again c.in-Ok-false.field-0-test in
    sym (shown_labels c.args.label c.args.from _ c.self.inside.numbers top below c.self.invariant (c.self.view_is ∙ parts) under) ∙ again.0
