-- What is at a number in lists that are put together, changed, or made of another.
use Rattle.std.proofs.Common.{◌≡◌, ◌⊎◌, inl, inr, ℕ, zero, suc, true, List, []}
use Rattle.std.proofs.Common.{◌∷◌, ◌++◌, map, length, Option, Some, None, is_some, refl, sym, ap}
use Rattle.std.specs.Prelude.{slice_set}
use Rattle.std.specs.List.{slice_get, list_all}
use Rattle.std.proofs.lemmas.Bool.{true≢false}
use Rattle.std.proofs.lemmas.Option.{none-some, same_Some}
use Rattle.cd_model.specs.Formula.{Formula}
use Rattle.cd_graph.specs.PlainFormula.{plain}
use Rattle.cd_filter.specs.Inner.Forming.{row_formula}
use Rattle.cd_filter.specs.declared.formed.Formed.{Formed}

pub get_end : {X : Type 0} (xs : List X) (x : X) (number : ℕ) (y : X)
    → slice_get (xs ++ x ∷ []) number ≡ Some y
    → ((number ≡ length xs) × (x ≡ y)) ⊎ (slice_get xs number ≡ Some y)
get_end [] x zero y there = inl (refl, same_Some x y there)
get_end [] x (suc number) y there = inr there
get_end (z ∷ xs) x zero y there = inr there
get_end (z ∷ xs) x (suc number) y there = elim (get_end xs x number y there) [
  | inl last ↦ inl (ap suc last.0, last.1)
  | inr before ↦ inr before
]

pub get_set : {X : Type 0} (xs : List X) (place : ℕ) (x : X) (number : ℕ) (y : X)
    → slice_get (slice_set xs place x) number ≡ Some y
    → ((number ≡ place) × (x ≡ y)) ⊎ (slice_get xs number ≡ Some y)
get_set [] place x number y there = inr there
get_set (z ∷ xs) zero x zero y there = inl (refl, same_Some x y there)
get_set (z ∷ xs) zero x (suc number) y there = inr there
get_set (z ∷ xs) (suc place) x zero y there = inr there
get_set (z ∷ xs) (suc place) x (suc number) y there = elim (get_set xs place x number y there) [
  | inl last ↦ inl (ap suc last.0, last.1)
  | inr before ↦ inr before
]

pub length_map : {X Y : Type 0} (f : X → Y) (xs : List X) → length (map f xs) ≡ length xs
length_map f [] = refl
length_map f (x ∷ xs) = ap suc (length_map f xs)

pub length_set : {X : Type 0} (xs : List X) (place : ℕ) (x : X)
    → length (slice_set xs place x) ≡ length xs
length_set [] place x = refl
length_set (z ∷ xs) zero x = refl
length_set (z ∷ xs) (suc place) x = ap suc (length_set xs place x)

pub row_there : (rows : List (Option Formed)) → list_all is_some rows ≡ true → (number : ℕ)
    (f : Formula) → slice_get (map row_formula rows) number ≡ Some f
    → (one : Formed) × (slice_get rows number ≡ Some (Some one)) × (plain one.formula ≡ f)
row_there [] full zero f there = absurd (none-some f there)
row_there [] full (suc number) f there = absurd (none-some f there)
row_there (None ∷ rows) full number f there = absurd (true≢false (sym full))
row_there (Some one ∷ rows) full zero f there = (one, refl, same_Some (plain one.formula) f there)
row_there (Some one ∷ rows) full (suc number) f there = row_there rows full number f there
