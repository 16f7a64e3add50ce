use Rattle.std.proofs.Common.{◌≡◌, ◌∙◌, length, ap, sym, rules}
use Rattle.std.specs.List.{slice_get}
use Rattle.cd_forms.proofs.LettersNumbered.{formula_more, formulas_end}
use Rattle.cd_forms.proofs.letters.Letters.formulas.Goals as goal

pub loop-c-preserved : goal.loop-c-preserved
loop-c-preserved c =
    let counted : c.len.result ≡ length c.loop-c.formulas.items = search rules in
    formula_more c.args.self.now c.loop-c.formulas.items c.push.new.self.items
    c.in_ok-character.field-0 c.in-Some.c.now
    (ap (slice_get c.args.self.now) (sym counted) ∙ sym c.in-Some.ensures)
    c.in_ok-push.ensures.items c.in_ok-character.ensures c.loop-c.invariant

pub returns : goal.returns
returns c =
    let counted : c.len.result ≡ length c.loop-c.formulas.items = search rules in
    formulas_end c.args.self.now c.loop-c.formulas.items
    (ap (slice_get c.args.self.now) (sym counted) ∙ sym c.in_default.ensures) c.loop-c.invariant
