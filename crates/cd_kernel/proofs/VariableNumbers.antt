-- Variables have different numbers exactly when their names are different.
use Rattle.std.proofs.Common.{◌≡◌, ◌≢◌, ◌<◌, ℕ, zero, suc, Bool, true, false, List, [], ◌∷◌, ◌⊎◌}
use Rattle.std.proofs.Common.{inl, inr, Some, option_map, refl, sym, ap, subst, ◌∙◌, eqb, bytes_eq}
use Rattle.std.proofs.Common.{if◌then◌else◌, length}
use Rattle.std.specs.List.{slice_get}
use Rattle.std.proofs.lemmas.Bool.{true≢false}
use Rattle.std.proofs.lemmas.Bool.Decides.{eqb_tells}
use Rattle.std.proofs.lemmas.Option.{none-some, same_Some, slice_get_within}
use Rattle.std.proofs.lemmas.Slice.Eq.{bytes_eq-Decides}
use Rattle.cd_syntax.specs.Name.{Name}
use Rattle.cd_matching.specs.Kernel.{number_of}
use Rattle.cd_matching.proofs.TakenCaptures.{option_map_some}
use Rattle.cd_kernel.specs.Copies.{IsNumber}

pub names_same : (a b : Name) → bytes_eq a b ≡ true → a ≡ b
names_same a b h = (bytes_eq-Decides a b).0 h

pub name_itself : (a : Name) → bytes_eq a a ≡ true
name_itself a = (bytes_eq-Decides a a).1 refl

pub name_turned : (a b : Name) → bytes_eq a b ≡ bytes_eq b a
name_turned a b = by_tests (bytes_eq a b) (bytes_eq b a) refl refl
  where
    by_tests : (p q : Bool) → bytes_eq a b ≡ p → bytes_eq b a ≡ q → p ≡ q
    by_tests true true one other = refl
    by_tests false false one other = refl
    by_tests true false one other =
        sym (name_itself a) ∙ ap (λ (n : Name). bytes_eq n a) (names_same a b one) ∙ other
    by_tests false true one other =
        sym one ∙ ap (λ (n : Name). bytes_eq n b) (sym (names_same b a other)) ∙ name_itself b

number_gets : (variables : List Name) (name : Name) (variable : ℕ)
    → IsNumber variables name variable → slice_get variables variable ≡ Some name
number_gets [] name variable h = absurd (none-some variable h)
number_gets (first ∷ rest) name variable h =
    by_test (number_gets rest name) (bytes_eq first name) refl h
  where
    by_test : ((v : ℕ) → IsNumber rest name v → slice_get rest v ≡ Some name)
        → (b : Bool) → bytes_eq first name ≡ b
        → (if b then Some zero else option_map suc (number_of rest name)) ≡ Some variable
        → slice_get (first ∷ rest) variable ≡ Some name
    by_test further true same h =
        subst (λ v. slice_get (first ∷ rest) v ≡ Some name) (same_Some zero variable h)
        (ap Some (names_same first name same))
    by_test further false differs h =
        let found = option_map_some suc (number_of rest name) variable h in
        subst (λ v. slice_get (first ∷ rest) v ≡ Some name) found.2 (further found.0 found.1)

pub number_within : (variables : List Name) (name : Name) (variable : ℕ)
    → IsNumber variables name variable → variable < length variables
number_within variables name variable is_number =
    slice_get_within variables variable name (number_gets variables name variable is_number)

pub same_numbers : (variables : List Name) (name other : Name) (variable : ℕ)
    → IsNumber variables name variable → IsNumber variables other variable → name ≡ other
same_numbers variables name other variable one two = same_Some name other
    (sym (number_gets variables name variable one) ∙ number_gets variables other variable two)

-- a test of the number is a test of the name
pub number_test : (variables : List Name) (name other : Name) (variable number : ℕ)
    → IsNumber variables name variable → IsNumber variables other number
    → eqb variable number ≡ bytes_eq name other
number_test variables name other variable number one two =
    by_case (eqb_tells variable number) (bytes_eq name other) refl
  where
    by_case : (((eqb variable number ≡ true) × (variable ≡ number))
        ⊎ ((eqb variable number ≡ false) × (variable ≢ number)))
        → (b : Bool) → bytes_eq name other ≡ b → eqb variable number ≡ b
    by_case (inl same) true h = same.0
    by_case (inr differs) false h = differs.0
    by_case (inl same) false h = absurd (true≢false (sym (name_itself name)
        ∙ ap (bytes_eq name) (same_numbers variables name other variable one
        (subst (IsNumber variables other) (sym same.1) two)) ∙ h))
    by_case (inr differs) true h = absurd (differs.1 (same_Some variable number
        (sym one ∙ ap (number_of variables) (names_same name other h) ∙ two)))
