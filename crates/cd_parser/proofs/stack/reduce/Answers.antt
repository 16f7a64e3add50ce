use Rattle.std.proofs.Common.{◌≡◌, ◌-◌, ◌∙◌, ap, refl, length}
use Rattle.std.proofs.lemmas.Result.{IfOk-equal}
use Rattle.cd_parser.proofs.Stacks.{reduced}
use Rattle.cd_parser.proofs.stack.reduce.Goals as goal

pub returns-then-len-at-eq1 : goal.returns-then-len-at-eq1
returns-then-len-at-eq1 g c =
    let items = c.args.stack.now.items in
    let at : c.saturating_sub-at.result ≡ length items - c.from.result =
    c.saturating_sub-at.ensures ∙ ap (λ n. n - c.from.result) (c.len.ensures ∙ c.args.stack.now.ok.0) in
    IfOk-equal c.reduce_top.result _ _ _ c.reduce_top.ensures
    (reduced g.P.Parts.plain c.args.most c.args.rule c.from.result c.saturating_sub-at.result items _ _
    (c.from.ensures ∙ c.length_of.ensures) at refl refl)

pub returns : goal.returns
returns g c =
    let items = c.args.stack.now.items in
    let at : c.saturating_sub-at.result ≡ length items - c.from.result =
    c.saturating_sub-at.ensures ∙ ap (λ n. n - c.from.result) (c.len.ensures ∙ c.args.stack.now.ok.0) in
    IfOk-equal c.reduce_several.result _ _ _ c.reduce_several.ensures
    (reduced g.P.Parts.plain c.args.most c.args.rule c.from.result c.saturating_sub-at.result items _ _
    (c.from.ensures ∙ c.length_of.ensures) at refl refl)
