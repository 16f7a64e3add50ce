-- One more function in its slot, with its number; and the number of a function of a program.
use Rattle.std.proofs.Common.{◌≡◌, ℕ, ◌+◌, ◌-◌, ◌<◌, ◌≤◌, List, [], ◌∷◌, Option, Some, option_map, ◌⊎◌, inl, inr, length, drop, get_or, refl, ap, sym, subst, ◌∙◌, arith}
use Rattle.std.specs.Borrow.{Bor}
use Rattle.std.specs.List.{slice_get}
use Rattle.std.proofs.lemmas.List.{at_drop_more}
use Rattle.std.proofs.lemmas.Option.{slice_get-map, slice_get_read}
use Rattle.cd_model.specs.AllOf.{AllOf, AnyOf}
use Rattle.cd_program.specs.Expr.{FunctionTree, Program}
use Rattle.cd_program.specs.PlainExpr.{plain_function}
use Rattle.cd_program.specs.declared.expr.FunctionTree.{FunctionTree as CodeFunction}
use Rattle.cd_cells.specs.Slots.{slot_at, PutsOnly}
use Rattle.cd_evaluation.specs.Code.{place_of}
use Rattle.cd_evaluation.specs.ProgramFunctions.{all_functions, function_at, PlacesDiffer}
use Rattle.cd_evaluation.proofs.FunctionsFound.{functions_found}
use Rattle.cd_resolved.specs.Inner.ByPlace.{AreByPlace, HaveNumbers}
use Rattle.cd_resolved.specs.Inner.PlainParts.{functions_of}
use Rattle.cd_resolved.specs.declared.parts.functions.Numbered.{Numbered}

pub one_more : (all : List (Bor CodeFunction)) (index : ℕ) (f : Bor CodeFunction) (old new : List (Option Numbered))
    → 0 < index → index ≤ length all → f ≡ get_or all (index - 1) f
    → ((rest : List FunctionTree) → AreByPlace rest old → AreByPlace (plain_function f.now ∷ rest) new)
    → AreByPlace (functions_of (drop index all)) old → AreByPlace (functions_of (drop (index - 1) all)) new
one_more all index f old new some within is puts before =
    let next : index - 1 + 1 ≡ index = omega arith in
    subst (λ functions. AreByPlace functions new) (sym (at_drop_more functions_of all (index - 1) f (omega arith)))
    (subst (λ one. AreByPlace (functions_of (one ∷ drop (index - 1 + 1) all)) new) is
    (puts (functions_of (drop (index - 1 + 1) all)) (subst (λ at. AreByPlace (functions_of (drop at all)) old) (sym next) before)))

-- the number of a function is the one at which it was read
pub number_is : (all : List (Bor CodeFunction)) (index : ℕ) (f : Bor CodeFunction) → 0 < index → index ≤ length all
    → f ≡ get_or all (index - 1) f → slice_get (functions_of all) (index - 1) ≡ Some (plain_function f.now)
number_is all index f some within is =
    slice_get-map (λ (one : Bor CodeFunction). plain_function one.now) all (index - 1)
    ∙ ap (option_map (λ (one : Bor CodeFunction). plain_function one.now))
    (slice_get_read all (length all) (index - 1) f refl (omega arith) is)

pub one_numbered : (all : List FunctionTree) (put : Numbered) (at : ℕ) (old new : List (Option Numbered))
    → slice_get all put.number ≡ Some (plain_function put.function.now) → PutsOnly at put old new
    → HaveNumbers all old → HaveNumbers all new
one_numbered all put at old new is only before place one has = by_case (only place one has)
  where
    by_case : ((place ≡ at) × (one ≡ put)) ⊎ (slot_at old place ≡ Some one)
        → slice_get all one.number ≡ Some (plain_function one.function.now)
    by_case (inl it) = subst (λ (n : Numbered). slice_get all n.number ≡ Some (plain_function n.function.now)) (sym it.1) is
    by_case (inr was) = before place one was

-- what holds of all of a list holds of one of it
holds_of : {X : Type 0} (Fact : X → Type 0) (all : List X) → AllOf Fact all → (x : X) → AnyOf (λ one. one ≡ x) all → Fact x
holds_of Fact [] each x is = absurd is
holds_of Fact (one ∷ all) each x (inl same) = subst Fact same each.0
holds_of Fact (one ∷ all) each x (inr later) = holds_of Fact all each.1 x later

-- a function of a program whose places differ is found at its place
pub at_its_place : (program : Program) → PlacesDiffer (all_functions program) → (f : FunctionTree)
    → AnyOf (λ one. one ≡ f) (all_functions program) → function_at program (place_of f) ≡ Some f
at_its_place program differ f is =
    holds_of (λ f. function_at program (place_of f) ≡ Some f) (all_functions program) (functions_found program differ) f is
