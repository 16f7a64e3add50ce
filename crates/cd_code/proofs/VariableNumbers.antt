-- The number of a variable, from some place on.
use Rattle.std.proofs.Common.{◌≡◌, ℕ, zero, suc, ◌+◌, ◌<◌, Bool, true, false, List, [], ◌∷◌, Option, Some, None, option_map, length, drop, get_or}
use Rattle.std.proofs.Common.{refl, sym, ap, ◌∙◌, bytes_eq, if◌then◌else◌, arith}
use Rattle.std.proofs.lemmas.List.{drop_more}
use Rattle.cd_syntax.specs.Name.{Name}
use Rattle.cd_matching.specs.Kernel.{number_of}

-- the number, where those before this place are others
abbrev pub number_from : List Name → Name → ℕ → Option ℕ
number_from variables name index = option_map (λ number. index + number) (number_of (drop index variables) name)

abbrev number_before : Bool → Option ℕ → Option ℕ
number_before c rest = if c then Some zero else option_map suc rest

pub from_start : (variables : List Name) (name : Name) → number_from variables name 0 ≡ number_of variables name
from_start variables name = by (number_of variables name)
  where
    by : (found : Option ℕ) → option_map (λ number. 0 + number) found ≡ found
    by None = refl
    by (Some number) = ap Some (omega arith)

opened : (variables : List Name) (name one : Name) (index : ℕ) (c : Bool) → index < length variables → one ≡ get_or variables index one
    → bytes_eq one name ≡ c
    → number_from variables name index
    ≡ option_map (λ number. index + number) (number_before c (number_of (drop (index + 1) variables) name))
opened variables name one index c within is tests =
    ap (λ left. option_map (λ number. index + number) (number_of left name))
    (drop_more variables index one within ∙ ap (λ x. x ∷ drop (index + 1) variables) (sym is))
    ∙ ap (λ c. option_map (λ number. index + number) (number_before c (number_of (drop (index + 1) variables) name))) tests

pub found_here : (variables : List Name) (name one : Name) (index : ℕ) → index < length variables → one ≡ get_or variables index one
    → bytes_eq one name ≡ true → number_from variables name index ≡ Some index
found_here variables name one index within is same =
    let none_more : index + 0 ≡ index = omega arith in
    opened variables name one index true within is same ∙ ap Some none_more

pub further_on : (variables : List Name) (name one : Name) (index : ℕ) → index < length variables → one ≡ get_or variables index one
    → bytes_eq one name ≡ false → number_from variables name index ≡ number_from variables name (index + 1)
further_on variables name one index within is other =
    opened variables name one index false within is other ∙ by (number_of (drop (index + 1) variables) name)
  where
    by : (found : Option ℕ) → option_map (λ number. index + number) (option_map suc found) ≡ option_map (λ number. index + 1 + number) found
    by None = refl
    by (Some number) = ap Some (omega arith)

pub at_end : (variables : List Name) (name : Name) (index : ℕ) → length variables ≡ index → number_from variables name index ≡ None
at_end variables name index is = ap (λ left. option_map (λ number. index + number) (number_of left name)) (nothing_left variables index is)
  where
    nothing_left : {X : Type 0} (xs : List X) (index : ℕ) → length xs ≡ index → drop index xs ≡ []
    nothing_left [] zero is = refl
    nothing_left [] (suc index) is = refl
    nothing_left (x ∷ xs) zero is = absurd (omega (arith, is))
    nothing_left (x ∷ xs) (suc index) is = nothing_left xs index (omega (arith, is))
