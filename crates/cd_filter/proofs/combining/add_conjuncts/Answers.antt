use Rattle.std.proofs.Common.{◌≡◌, ◌++◌, [], ◌∷◌, map, sym, ap, subst, ◌∙◌}
use Rattle.std.specs.Prelude.{OnOk}
use Rattle.std.proofs.lemmas.List.{map-append}
use Rattle.cd_graph.specs.PlainFormula.{plain}
use Rattle.cd_filter.proofs.Conjuncts.{of_meet, of_other}
use Rattle.cd_filter.proofs.combining.add_conjuncts.Goals as goal

pub returns-in-And : goal.returns-in-And
returns-in-And c =
    subst (λ more. OnOk c.add_copies.result (map plain c.add_copies.new.formulas.items
    ≡ map plain c.args.formulas.now.items ++ more))
    (c.items.ensures ∙ sym (of_meet c.args.formula c.in-And.members c.in-And.is))
    c.add_copies.ensures

pub returns-in_ok-push-in_default : goal.returns-in_ok-push-in_default
returns-in_ok-push-in_default c =
    ap (map plain) c.in_ok-push-in_default.ensures.items
    ∙ map-append plain c.args.formulas.now.items (c.args.formula ∷ [])
    ∙ ap (λ more. map plain c.args.formulas.now.items ++ more)
    (sym (of_other c.args.formula c.in_default.not-And))
