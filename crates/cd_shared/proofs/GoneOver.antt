-- A list of which the first so many are made of those of another one, and the others are the same.
use Rattle.std.proofs.Common.{◌≡◌, ℕ, zero, suc, ◌+◌, ◌<◌, ◌≤◌, ◌⊎◌, inl, inr, List, [], ◌∷◌, map, length, set, get_or}
use Rattle.std.proofs.Common.{Some, refl, sym, ap, ap₂, subst, ◌∙◌, arith}
use Rattle.std.specs.List.{slice_get}
use Rattle.std.specs.Option.{option_map}
use Rattle.std.proofs.lemmas.Bool.{cases_eq, cases_lt}
use Rattle.std.proofs.lemmas.Option.{none-some, same_Some, slice_get-map, slice_get_past}

-- lists that are the same at each number are the same
same_lists : {X : Type 0} (xs ys : List X) → ((k : ℕ) → slice_get xs k ≡ slice_get ys k) → xs ≡ ys
same_lists [] [] same = refl
same_lists [] (y ∷ ys) same = absurd (none-some y (same zero))
same_lists (x ∷ xs) [] same = absurd (none-some x (sym (same zero)))
same_lists (x ∷ xs) (y ∷ ys) same = ap₂ (λ first rest. first ∷ rest) (same_Some x y (same zero))
    (same_lists xs ys (λ k. same (suc k)))

-- what is at a number where one thing was put
put_there : {X : Type 0} (xs : List X) (number : ℕ) (y : X) → number < length xs
    → slice_get (set xs number y) number ≡ Some y
put_there [] number y below = absurd (omega (arith, below))
put_there (x ∷ xs) zero y below = refl
put_there (x ∷ xs) (suc number) y below = put_there xs number y (omega (arith, below))

put_elsewhere : {X : Type 0} (xs : List X) (number k : ℕ) (y : X) → (k ≡ number → ⊥)
    → slice_get (set xs number y) k ≡ slice_get xs k
put_elsewhere [] number k y apart = refl
put_elsewhere (x ∷ xs) zero zero y apart = absurd (apart refl)
put_elsewhere (x ∷ xs) zero (suc k) y apart = refl
put_elsewhere (x ∷ xs) (suc number) zero y apart = refl
put_elsewhere (x ∷ xs) (suc number) (suc k) y apart =
    put_elsewhere xs number k y (λ same. apart (ap suc same))

-- what is made of what is read of a list stands in the list of what is made
pub made_there : {X Y : Type 0} (make : X → Y) (xs : List X) (number : ℕ) (x : X)
    → number < length xs → x ≡ get_or xs number x → slice_get (map make xs) number ≡ Some (make x)
made_there make [] number x below is = absurd (omega (arith, below))
made_there make (one ∷ xs) zero x below is = ap (λ one. Some (make one)) (sym is)
made_there make (one ∷ xs) (suc number) x below is =
    made_there make xs number x (omega (arith, below)) is

pub record GoneOver {X : Type 0} (make : X → X) (old now : List X) (number : ℕ) : Type 0 where
  pub before : (k : ℕ) → k < number → slice_get now k ≡ option_map make (slice_get old k)
  pub after : (k : ℕ) → number ≤ k → slice_get now k ≡ slice_get old k

module _ {X : Type 0} (make : X → X) (old now : List X) where
  pub none_yet : GoneOver make old old zero
  none_yet = record {
    before = λ k below. absurd (omega (arith, below));
    after = λ k more. refl;
  }

  -- one more, which is put in its place
  pub one_put : (number : ℕ) (x y : X) → number < length now → slice_get now number ≡ Some x
      → make x ≡ y → GoneOver make old now number
      → GoneOver make old (set now number y) (number + 1)
  one_put number x y below there is gone = record {
    before = λ k less. by_number k less (cases_eq k number);
    after = λ k more. put_elsewhere now number k y (λ same. omega (arith, same, more))
        ∙ gone.after k (omega (arith, more));
  }
    where
      by_number : (k : ℕ) → k < number + 1 → (k ≡ number) ⊎ (k ≡ number → ⊥)
          → slice_get (set now number y) k ≡ option_map make (slice_get old k)
      by_number k less (inl same) = subst (λ (k : ℕ).
          slice_get (set now number y) k ≡ option_map make (slice_get old k)) (sym same)
          (put_there now number y below ∙ ap Some (sym is)
          ∙ ap (option_map make) (sym there ∙ gone.after number (omega arith)))
      by_number k less (inr apart) = put_elsewhere now number k y apart
          ∙ gone.before k (omega (arith, less, apart))

  -- one more, which is the same
  pub one_kept : (number : ℕ) (x : X) → slice_get now number ≡ Some x → make x ≡ x
      → GoneOver make old now number → GoneOver make old now (number + 1)
  one_kept number x there is gone = record {
    before = λ k less. by_number k less (cases_eq k number);
    after = λ k more. gone.after k (omega (arith, more));
  }
    where
      by_number : (k : ℕ) → k < number + 1 → (k ≡ number) ⊎ (k ≡ number → ⊥)
          → slice_get now k ≡ option_map make (slice_get old k)
      by_number k less (inl same) = subst (λ (k : ℕ).
          slice_get now k ≡ option_map make (slice_get old k)) (sym same)
          (there ∙ ap Some (sym is)
          ∙ ap (option_map make) (sym there ∙ gone.after number (omega arith)))
      by_number k less (inr apart) = gone.before k (omega (arith, less, apart))

  -- all
  pub all_gone : (number : ℕ) → length old ≤ number → GoneOver make old now number
      → now ≡ map make old
  all_gone number more gone = same_lists now (map make old)
      (λ k. by_place k (cases_lt k number) ∙ sym (slice_get-map make old k))
    where
      by_place : (k : ℕ) → (k < number) ⊎ (number ≤ k)
          → slice_get now k ≡ option_map make (slice_get old k)
      by_place k (inl less) = gone.before k less
      by_place k (inr past) = gone.after k past
          ∙ slice_get_past old k (omega (arith, past, more))
          ∙ sym (ap (option_map make) (slice_get_past old k (omega (arith, past, more))))
