-- Each half of a list of formulas is smaller than the list.
use Rattle.std.proofs.Common.{◌≡◌, ℕ, zero, suc, ◌+◌, ◌-◌, ◌<◌, ◌≤◌, false, ◌==◌, List, []}
use Rattle.std.proofs.Common.{◌∷◌, map, take, drop, length, arith, length-drop, length-take-le, sym}
use Rattle.std.proofs.Common.{ap, ◌∙◌}
use Rattle.std.proofs.Math.Seq.{take-length}
use Rattle.std.proofs.lemmas.Bool.Decides.{nat_tests}
use Rattle.cd_model.specs.Formula.{formulas_of}
use Rattle.cd_graph.specs.PlainFormula.{plain}
use Rattle.cd_graph.specs.declared.formula.Formula.{Formula as CodeFormula}
use Rattle.cd_graph.proofs.Sizes.{size_list}

-- the sizes of two parts of a list add up, and a list with a formula has a size
parts_add : (half : ℕ) (items : List CodeFormula)
    → size_list (formulas_of (map plain (take half items)))
    + size_list (formulas_of (map plain (drop half items)))
    ≡ size_list (formulas_of (map plain items))
parts_add zero items = omega arith
parts_add (suc half) [] = omega arith
parts_add (suc half) (item ∷ items) = let on = parts_add half items in omega arith

some_size : (items : List CodeFormula)
    → length items ≤ size_list (formulas_of (map plain items))
some_size [] = omega arith
some_size (item ∷ items) = let on = some_size items in omega arith

pub first_falls : (half : ℕ) (items : List CodeFormula) → half < length items
    → size_list (formulas_of (map plain (take half items)))
    < size_list (formulas_of (map plain items))
first_falls half items within = let all = parts_add half items in
    let more = some_size (drop half items) in let long = length-drop half items in omega arith

pub second_falls : (half : ℕ) (items : List CodeFormula) → 0 < half → half ≤ length items
    → size_list (formulas_of (map plain (drop half items)))
    < size_list (formulas_of (map plain items))
second_falls half items some within = let all = parts_add half items in
    let more = some_size (take half items) in let long = length-take-le half items within in
    omega arith

-- what is left from a place on, counted
pub from_place : {X : Type 0} (items : List X) (place : ℕ)
    → take (length items - place) (drop place items) ≡ drop place items
from_place items place = ap (λ most. take most (drop place items)) (sym (length-drop place items))
    ∙ take-length (drop place items)

-- where something is left after the first there are two
past_first : (most : ℕ) → false ≡ (most - 1 == 0) → 1 < most
past_first most some = grind (arith, nat_tests)

pub two_or_more : {X : Type 0} (items : List X)
    → false ≡ (length (take (length items - 1) (drop 1 items)) == 0) → 1 < length items
two_or_more items some = past_first (length items)
    (some ∙ ap (λ rest. length rest == 0) (from_place items 1) ∙ ap (◌== 0) (length-drop 1 items))
