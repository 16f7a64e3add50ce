use Rattle.std.proofs.Common.{ℕ, List, Option, inl, refl, subst}
use Rattle.cd_shared.specs.Equation.{plain_equations}
use Rattle.cd_shared.specs.declared.equation.Equation.{Equation as CodeEquation}
use Rattle.cd_shared.specs.Inner.Found.{AreClassified}
use Rattle.cd_shared.proofs.Classified.{classes_rename}
use Rattle.cd_shared.proofs.shared.share.Goals as goal

-- the classes were looked at
pub returns : goal.returns
returns c = inl (classes_rename c.args.first c.in_ok-ids.field-0.ids.items
    c.in_ok-ids.field-0.leaders.items (plain_equations c.args.equations.items)
    (subst (λ (leaders : List ℕ). AreClassified c.args.first c.in_ok-ids.field-0.ids.items leaders
    (plain_equations c.args.equations.items)) c.as_slice-3.ensures.value
    (subst (λ (equations : List (Option CodeEquation)). AreClassified c.args.first
    c.in_ok-ids.field-0.ids.items c.as_slice-3.result.now (plain_equations equations))
    c.as_slice-2.ensures.value (c.if-not-are_classified.ensures refl)))
    (plain_equations c.rename.new.equations.items) c.in_ok-rename.ensures)
