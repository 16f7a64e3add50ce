-- The arrows that are collected are those that stand in formulas: what holds of each of them holds of each of these.
use Rattle.std.proofs.Common.{◌≡◌, ◌<◌, ◌+◌, ◌∙◌, arith, drop, length, ◌||◌, ℕ, zero, suc, Bool, true, false, List, [], ◌∷◌, ◌++◌, inl, inr, refl, sym, ap, subst, true≢false, if◌then◌else◌}
use Rattle.std.proofs.lemmas.Bool.{eqb-true}
use Rattle.std.specs.Cmp.{first_so, second_so}
use Rattle.std.specs.List.{list_any}
use Rattle.cd_sets.specs.declared.node_id.NodeId.{NodeId}
use Rattle.cd_model.specs.AllOf.{AllOf}
use Rattle.cd_model.specs.BuiltIns.{node}
use Rattle.cd_model.specs.Formula.{Formula, Formulas, NoFormula, AFormula, Arrow, And, Or, Not, IsFormula, AreFormulas, formula_at}
use Rattle.cd_model.proofs.Covered.{each_parts, each_both}
use Rattle.cd_asking.specs.MappedArrows.{HasArrow, OneHasArrow}
use Rattle.cd_closures.specs.Inner.Asked.{IsBelow}
use Rattle.cd_closures.specs.Inner.Collected.{same_arrow, with_arrow, with_arrows, with_all, with_nodes}
use Rattle.cd_closures.specs.declared.arrow.NodeArrow.{NodeArrow}

abbrev arrow : (argument result : NodeId) → NodeArrow
arrow argument result = record { argument = argument; result = result }

pub same_is : (one other : NodeArrow) → same_arrow one other ≡ true → one ≡ other
same_is one other is =
    let argument : one.argument ≡ other.argument = ap node (eqb-true one.argument.0 other.argument.0 (first_so _ _ is)) in
    let result : one.result ≡ other.result = ap node (eqb-true one.result.0 other.result.0 (second_so _ _ is)) in
    λ i. arrow (argument i) (result i)

module _ (P : NodeArrow → Type 0) where
  -- of an arrow that was there
  of_same : (one : NodeArrow) (arrows : List NodeArrow) → list_any (same_arrow one) arrows ≡ true → AllOf P arrows → P one
  of_same one [] none each = absurd (true≢false (sym none))
  of_same one (other ∷ arrows) some each =
      by_test (same_arrow one other) refl some (λ later. of_same one arrows later each.1)
    where
      by_test : (c : Bool) → same_arrow one other ≡ c → (c || list_any (same_arrow one) arrows) ≡ true
          → (list_any (same_arrow one) arrows ≡ true → P one) → P one
      by_test true is some later = subst P (sym (same_is one other is)) each.0
      by_test false is some later = later some

  of_one : (arrows : List NodeArrow) (one : NodeArrow) → AllOf P (with_arrow arrows one) → AllOf P arrows × P one
  of_one arrows one = by_test (list_any (same_arrow one) arrows) refl
    where
      by_test : (c : Bool) → list_any (same_arrow one) arrows ≡ c → AllOf P (if c then arrows else arrows ++ one ∷ []) → AllOf P arrows × P one
      by_test true is each = (each, of_same one arrows is each)
      by_test false is each = let parts = each_parts P arrows (one ∷ []) each in (parts.0, parts.1.0)

  -- of each arrow that stands in a formula
  abbrev InFormula : Formula → Type 0
  InFormula is = (argument result : NodeId) → HasArrow is argument result → P (arrow argument result)

  abbrev InFormulas : Formulas → Type 0
  InFormulas all = (argument result : NodeId) → OneHasArrow all argument result → P (arrow argument result)

  mutual
    of_formula : (is : Formula) (arrows : List NodeArrow) → AllOf P (with_arrows arrows is) → AllOf P arrows × InFormula is
    of_formula (Arrow from to) arrows each =
        let parts = of_one arrows (arrow from to) each in
        (parts.0, λ argument result has. subst P (λ i. arrow (has.0 i) (has.1 i)) parts.1)
    of_formula (And all) arrows each = of_formulas all arrows each
    of_formula (Or all) arrows each = of_formulas all arrows each
    of_formula (Not is) arrows each = of_formula is arrows each
    of_formula _ arrows each = (each, λ argument result has. absurd has)

    of_formulas : (all : Formulas) (arrows : List NodeArrow) → AllOf P (with_all arrows all) → AllOf P arrows × InFormulas all
    of_formulas NoFormula arrows each = (each, λ argument result has. absurd has)
    of_formulas (AFormula is rest) arrows each =
        let later = of_formulas rest (with_arrows arrows is) each in
        let first = of_formula is arrows later.0 in
        (first.0, λ argument result has. elim has [ inl here ↦ first.1 argument result here | inr there ↦ later.1 argument result there ])

  -- and in the formula of a node
  of_nodes : (graph : List Formula) (arrows : List NodeArrow) → AllOf P (with_nodes arrows graph)
      → AllOf P arrows × ((n : ℕ) → InFormula (formula_at graph (node n)))
  of_nodes [] arrows each = (each, λ n argument result has. absurd has)
  of_nodes (is ∷ graph) arrows each =
      let later = of_nodes graph (with_arrows arrows is) each in
      let first = of_formula is arrows later.0 in
      (first.0, λ n. by_number first.1 later.1 n)
    where
      by_number : InFormula is → ((n : ℕ) → InFormula (formula_at graph (node n))) → (n : ℕ) → InFormula (formula_at (is ∷ graph) (node n))
      by_number here there zero = here
      by_number here there (suc n) = there n

  pub of_graph : (graph : List Formula) → AllOf P (with_nodes [] graph) → (id : NodeId) → InFormula (formula_at graph id)
  of_graph graph each id = (of_nodes graph [] each).1 id.0

-- one node after the other
next_node : (graph : List Formula) (n : ℕ) → n < length graph → drop n graph ≡ formula_at graph (node n) ∷ drop (n + 1) graph
next_node [] n below = absurd (omega (arith, below))
next_node (is ∷ graph) zero below = refl
next_node (is ∷ graph) (suc n) below = next_node graph n (omega arith)
    ∙ ap (λ k. formula_at graph (node n) ∷ drop k (is ∷ graph)) (let step : suc (n + 1) ≡ suc n + 1 = omega arith in step)

pub further : (graph : List Formula) (n : ℕ) → n < length graph → (old new : List NodeArrow) (is : Formula) → new ≡ with_arrows old is
    → is ≡ formula_at graph (node n) → with_nodes old (drop n graph) ≡ with_nodes [] graph
    → with_nodes new (drop (n + 1) graph) ≡ with_nodes [] graph
further graph n below old new is added at so_far =
    ap (λ arrows. with_nodes arrows (drop (n + 1) graph)) (added ∙ ap (with_arrows old) at)
    ∙ sym (ap (with_nodes old) (next_node graph n below)) ∙ so_far

-- arrows of a sound graph are between its nodes
module _ (count : ℕ) where
  below_one : (arrows : List NodeArrow) (one : NodeArrow) → AllOf (IsBelow count) arrows → IsBelow count one → AllOf (IsBelow count) (with_arrow arrows one)
  below_one arrows one each is = by_test (list_any (same_arrow one) arrows)
    where
      by_test : (c : Bool) → AllOf (IsBelow count) (if c then arrows else arrows ++ one ∷ [])
      by_test true = each
      by_test false = each_both (IsBelow count) arrows (one ∷ []) each (is, tt)

  mutual
    below_formula : (is : Formula) (arrows : List NodeArrow) → IsFormula count is → AllOf (IsBelow count) arrows → AllOf (IsBelow count) (with_arrows arrows is)
    below_formula (Arrow from to) arrows sound each = below_one arrows (arrow from to) each sound
    below_formula (And all) arrows sound each = below_formulas all arrows sound each
    below_formula (Or all) arrows sound each = below_formulas all arrows sound each
    below_formula (Not is) arrows sound each = below_formula is arrows sound each
    below_formula _ arrows sound each = each

    below_formulas : (all : Formulas) (arrows : List NodeArrow) → AreFormulas count all → AllOf (IsBelow count) arrows → AllOf (IsBelow count) (with_all arrows all)
    below_formulas NoFormula arrows sound each = each
    below_formulas (AFormula is rest) arrows sound each =
        below_formulas rest (with_arrows arrows is) sound.1 (below_formula is arrows sound.0 each)

  below_nodes : (graph : List Formula) (arrows : List NodeArrow) → AllOf (IsFormula count) graph → AllOf (IsBelow count) arrows
      → AllOf (IsBelow count) (with_nodes arrows graph)
  below_nodes [] arrows sound each = each
  below_nodes (is ∷ graph) arrows sound each = below_nodes graph (with_arrows arrows is) sound.1 (below_formula is arrows sound.0 each)

  pub below_graph : (graph : List Formula) → AllOf (IsFormula count) graph → AllOf (IsBelow count) (with_nodes [] graph)
  below_graph graph sound = below_nodes graph [] sound tt
