use Rattle.std.proofs.Common.{◌≡◌, ◌<◌, ℕ, List, Option, map, length, sym, subst, ap, ◌∙◌, Vec, Global, arith}
use Rattle.std.proofs.lemmas.List.{length-map}
use Rattle.std.specs.Option.{option_map}
use Rattle.cd_model.specs.AllOf.{AllOf}
use Rattle.cd_model.proofs.Ones.{each_weaker}
use Rattle.cd_graph.specs.Nodes.{nodes}
use Rattle.cd_graph.specs.PlainFormula.{plain}
use Rattle.cd_shared.specs.declared.equation.Equation.{Equation as CodeEquation}
use Rattle.cd_shared.specs.Equation.{plain_equation, plain_equations}
use Rattle.cd_resolve.specs.Inner.Solves.{AreEquations}
use Rattle.cd_resolve.specs.Inner.Links.{links}
use Rattle.cd_resolve.specs.Inner.Order.{AreRows, Ends, IsOrder}
use Rattle.cd_resolve.specs.Inner.Filling.{at_once, left}
use Rattle.cd_resolve.proofs.LinksRows.{are_rows, links_length}
use Rattle.cd_resolve.proofs.Solved.{left_sound}
use Rattle.cd_resolve.proofs.solve.formulas_of.Goals as goal

abbrev numbers : List (Vec ℕ Global) → List (List ℕ)
numbers rows = map (λ row. row.items) rows

-- rows that are passed on as a slice are the same
same_rows : (first : ℕ) (slice rows : List (Vec ℕ Global)) (some all : List (Option CodeEquation))
    → slice ≡ rows → numbers rows ≡ links first (plain_equations some) → some ≡ all
    → numbers slice ≡ links first (plain_equations all)
same_rows first slice rows some all same are whole =
    ap numbers same ∙ are ∙ ap (λ (all : List (Option CodeEquation)). links first (plain_equations all)) whole

pub order-requires-clause-rows : goal.order-requires-clause-rows
order-requires-clause-rows c =
    subst AreRows (sym (same_rows c.args.first _ _ _ c.args.equations.items c.as_slice-2.ensures.value
    c.in_ok-rows.ensures c.as_slice.ensures.value))
    (are_rows (length (nodes c.args.old.now)) c.args.first (plain_equations c.args.equations.items) c.requires.old
    c.requires.sound)

-- there are as many rows as equations
as_many : (first : ℕ) (slice : List (Vec ℕ Global)) (all : List (Option CodeEquation))
    → numbers slice ≡ links first (plain_equations all) → length slice ≡ length all
as_many first slice all same =
    sym (length-map slice (λ (row : Vec ℕ Global). row.items)) ∙ ap length same
    ∙ links_length first (plain_equations all) ∙ length-map all (option_map plain_equation)

pub order-requires-clause-ends : goal.order-requires-clause-ends
order-requires-clause-ends c =
    let same = same_rows c.args.first _ _ _ c.args.equations.items c.as_slice-2.ensures.value c.in_ok-rows.ensures
    c.as_slice.ensures.value in
    λ number below. subst (λ (rows : List (List ℕ)). Ends rows number) (sym same)
    (c.requires.ends number (omega (arith, as_many c.args.first _ c.args.equations.items same)))

pub fill-requires-clause-sound : goal.fill-requires-clause-sound
fill-requires-clause-sound c =
    subst (AreEquations (length (nodes c.args.old.now)) c.args.first)
    (sym (ap plain_equations c.as_slice-3.ensures.value ∙ c.in_ok-formulas.ensures.left))
    (left_sound (length (nodes c.args.old.now)) c.args.first (plain_equations c.args.equations.items) c.requires.sound)

-- there are as many of each
as_many_left : (some others all : List (Option CodeEquation)) → some ≡ others
    → plain_equations others ≡ map left (plain_equations all) → length some ≡ length all
as_many_left some others all same left_are =
    ap length same ∙ sym (length-map others (option_map plain_equation)) ∙ ap length left_are
    ∙ length-map (plain_equations all) left ∙ length-map all (option_map plain_equation)

pub fill-requires-clause-formulas : goal.fill-requires-clause-formulas
fill-requires-clause-formulas c =
    sym (length-map c.in_ok-formulas.formulas.items plain) ∙ ap length c.in_ok-formulas.ensures.formulas
    ∙ length-map (plain_equations c.args.equations.items) at_once
    ∙ length-map c.args.equations.items (option_map plain_equation)
    ∙ sym (as_many_left _ _ c.args.equations.items c.as_slice-3.ensures.value c.in_ok-formulas.ensures.left)

-- numbers of an order are below the number of all
known : (slice : List (Vec ℕ Global)) (order numbers_left : List ℕ) (size : ℕ)
    → length slice ≡ size → IsOrder (numbers slice) order → numbers_left ≡ order
    → AllOf (λ number. number < size) numbers_left
known slice order numbers_left size long is same =
    subst (AllOf (λ number. number < size)) (sym same)
    (each_weaker (λ number. number < length (numbers slice)) (λ number. number < size)
    (λ number below. omega (arith, long, length-map slice (λ (row : Vec ℕ Global). row.items))) order is.known)

pub fill-requires-clause-known : goal.fill-requires-clause-known
fill-requires-clause-known c =
    let same = same_rows c.args.first _ _ _ c.args.equations.items c.as_slice-2.ensures.value c.in_ok-rows.ensures
    c.as_slice.ensures.value in
    known _ c.in_ok-order.order.items _ _
    (as_many c.args.first _ c.args.equations.items same
    ∙ sym (as_many_left _ _ c.args.equations.items c.as_slice-3.ensures.value c.in_ok-formulas.ensures.left))
    c.in_ok-order.ensures c.as_slice-4.ensures.value
