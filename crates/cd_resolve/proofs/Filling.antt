-- One step of the making of formulas, and what is read of a list that was made of another.
use Rattle.std.proofs.Common.{◌≡◌, ℕ, zero, suc, ◌+◌, ◌<◌, List, [], ◌∷◌, map, length, drop, get_or, set, Option, Some}
use Rattle.std.proofs.Common.{sym, ap, subst, ◌∙◌, arith, drop-cons, add-one}
use Rattle.std.specs.List.{slice_get}
use Rattle.std.specs.Option.{option_flatten, option_map}
use Rattle.std.proofs.lemmas.List.{map-set}
use Rattle.cd_model.specs.Formula.{Graph, Formula}
use Rattle.cd_graph.specs.PlainFormula.{plain}
use Rattle.cd_graph.specs.declared.formula.Formula.{Formula as CodeFormula}
use Rattle.cd_shared.specs.declared.equation.Equation.{Equation as CodeEquation}
use Rattle.cd_shared.specs.Equation.{Equation, Equations, plain_equation}
use Rattle.cd_resolve.specs.Inner.Solves.{made}
use Rattle.cd_resolve.specs.Inner.Filling.{so_far, with_made, filled}

-- what is read of a list stands, made plain, in the list made plain
pub made_read : {X Y : Type 0} (make : X → Y) (list : List X) (index : ℕ) (is : X) → index < length list
    → is ≡ get_or list index is → slice_get (map make list) index ≡ Some (make is)
made_read make [] index is below at = absurd (omega arith)
made_read make (one ∷ rest) zero is below at = ap (λ one. Some (make one)) (sym at)
made_read make (one ∷ rest) (suc index) is below at = made_read make rest index is (omega arith) at

-- one step of the filling is that at the next number
pub one_step : (old : Graph) (first : ℕ) (all : Equations) (order : List ℕ) (index number : ℕ)
    (equation : Option Equation) (formulas after : List Formula)
    → index < length order → number ≡ get_or order index 0 → slice_get all number ≡ Some equation
    → after ≡ with_made old first formulas number equation
    → filled old first all (drop (index + 1) order) after ≡ filled old first all (drop index order) formulas
one_step old first all order index number equation formulas after below at there is =
    let split : drop index order ≡ number ∷ drop (index + 1) order =
    rw (add-one, at) (drop-cons order index 0 below) in
    subst (λ (left : List ℕ). filled old first all (drop (index + 1) order) after ≡ filled old first all left formulas)
    (sym split)
    (ap (filled old first all (drop (index + 1) order)) (is
    ∙ ap (with_made old first formulas number) (sym (ap option_flatten there))))

-- where the formula of an equation was put in its place
pub put_is : (old : Graph) (first number : ℕ) (formulas some after : List CodeFormula) (formula : CodeFormula)
    (equation : CodeEquation) (whole : Option CodeEquation)
    → whole ≡ Some equation → some ≡ formulas → after ≡ set formulas number formula
    → plain formula ≡ made (so_far old first (map plain some)) (plain_equation equation)
    → map plain after ≡ with_made old first (map plain formulas) number (option_map plain_equation whole)
put_is old first number formulas some after formula equation whole whole_is some_is after_is made_is =
    ap (map plain) after_is
    ∙ map-set plain formulas number formula
    ∙ ap (set (map plain formulas) number) (made_is
    ∙ ap (λ (some : List CodeFormula). made (so_far old first (map plain some)) (plain_equation equation)) some_is)
    ∙ ap (λ (whole : Option CodeEquation).
    with_made old first (map plain formulas) number (option_map plain_equation whole)) (sym whole_is)
