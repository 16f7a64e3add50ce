-- Things of lists, and of two lists, one for each of the other.
use Rattle.std.proofs.Common.{◌≡◌, ℕ, zero, suc, List, [], ◌∷◌, ◌++◌, inl, inr}
use Rattle.std.proofs.Common.{length, Some, refl, sym, ap, subst, arith, take}
use Rattle.std.proofs.lemmas.Option.{none-some, same_Some}
use Rattle.std.specs.List.{slice_get, AllZip}
use Rattle.cd_model.specs.AllOf.{AllOf, AnyOf}
use Rattle.cd_model.proofs.ByNumber.{zip_pushed}
use Rattle.cd_forms.specs.Inner.Numbered.{IsAmong}

module _ {X : Type 0} where
  pub all_among : (fact : X → Type 0) (xs : List X) (x : X) → AllOf fact xs → IsAmong xs x
      → fact x
  all_among fact [] x all is = absurd is
  all_among fact (y ∷ xs) x all (inl same) = subst fact same all.0
  all_among fact (y ∷ xs) x all (inr later) = all_among fact xs x all.1 later

  -- what each thing of a list has, all have
  pub each_among : (fact : X → Type 0) (xs : List X) → ((x : X) → IsAmong xs x → fact x)
      → AllOf fact xs
  each_among fact [] each = tt
  each_among fact (x ∷ xs) each =
      (each x (inl refl), each_among fact xs (λ y among. each y (inr among)))

  -- what one thing of a list has, one of the list has
  pub any_among : (fact : X → Type 0) (xs : List X) (x : X) → IsAmong xs x → fact x
      → AnyOf fact xs
  any_among fact [] x is has = absurd is
  any_among fact (y ∷ xs) x (inl same) has = inl (subst fact (sym same) has)
  any_among fact (y ∷ xs) x (inr later) has = inr (any_among fact xs x later has)

  -- what has a number is in the list
  pub got_among : (xs : List X) (k : ℕ) (x : X) → slice_get xs k ≡ Some x → IsAmong xs x
  got_among [] k x is = absurd (none-some x is)
  got_among (y ∷ xs) zero x is = inl (same_Some y x is)
  got_among (y ∷ xs) (suc k) x is = inr (got_among xs k x is)

  -- what all have, and one more
  pub all_pushed : (fact : X → Type 0) (xs : List X) (x : X) → AllOf fact xs → fact x
      → AllOf fact (xs ++ x ∷ [])
  all_pushed fact [] x all is = (is, tt)
  all_pushed fact (y ∷ xs) x all is = (all.0, all_pushed fact xs x all.1 is)

  pub all_before : (fact : X → Type 0) (xs : List X) (x : X) → AllOf fact (xs ++ x ∷ [])
      → AllOf fact xs × fact x
  all_before fact [] x all = (tt, all.0)
  all_before fact (y ∷ xs) x all =
      let rest = all_before fact xs x all.1 in ((all.0, rest.0), rest.1)

  -- the first ones and one more
  pub taken_more : (xs : List X) (k : ℕ) (x : X) → slice_get xs k ≡ Some x
      → take (suc k) xs ≡ take k xs ++ x ∷ []
  taken_more [] k x is = absurd (none-some x is)
  taken_more (y ∷ xs) zero x is = ap (λ one. one ∷ []) (same_Some y x is)
  taken_more (y ∷ xs) (suc k) x is = ap (λ all. y ∷ all) (taken_more xs k x is)

module _ {A B : Type 0} (R : A → B → Type 0) where
  -- one more of both
  pub zip_more : (xs : List A) (ys more : List B) (x : A) (y : B)
      → AllZip R (take (length ys) xs) ys → slice_get xs (length ys) ≡ Some x → R x y
      → more ≡ ys ++ y ∷ [] → AllZip R (take (length more) xs) more
  zip_more xs ys more x y all is has put =
      subst (λ (more : List B). AllZip R (take (length more) xs) more) (sym put)
      (subst (λ (k : ℕ). AllZip R (take k xs) (ys ++ y ∷ [])) (sym (count ys))
      (subst (λ (some : List A). AllZip R some (ys ++ y ∷ []))
      (sym (taken_more xs (length ys) x is)) (zip_pushed R (take (length ys) xs) ys x y all has)))
    where
      count : (ys : List B) → length (ys ++ y ∷ []) ≡ suc (length ys)
      count [] = refl
      count (b ∷ ys) = ap suc (count ys)

  pub zip_length : (xs : List A) (ys : List B) → AllZip R xs ys → length xs ≡ length ys
  zip_length [] [] all = refl
  zip_length [] (b ∷ ys) all = absurd all
  zip_length (a ∷ xs) [] all = absurd all
  zip_length (a ∷ xs) (b ∷ ys) all = ap suc (zip_length xs ys all.1)

  -- the other one of a number
  pub zip_got : (xs : List A) (ys : List B) (k : ℕ) (x : A) → AllZip R xs ys
      → slice_get xs k ≡ Some x → (y : B) × (slice_get ys k ≡ Some y) × R x y
  zip_got [] ys k x all is = absurd (none-some x is)
  zip_got (a ∷ xs) [] k x all is = absurd all
  zip_got (a ∷ xs) (b ∷ ys) zero x all is =
      (b, refl, subst (λ (x : A). R x b) (same_Some a x is) all.0)
  zip_got (a ∷ xs) (b ∷ ys) (suc k) x all is = zip_got xs ys k x all.1 is

  pub zip_got_back : (xs : List A) (ys : List B) (k : ℕ) (y : B) → AllZip R xs ys
      → slice_get ys k ≡ Some y → (x : A) × (slice_get xs k ≡ Some x) × R x y
  zip_got_back xs [] k y all is = absurd (none-some y is)
  zip_got_back [] (b ∷ ys) k y all is = absurd all
  zip_got_back (a ∷ xs) (b ∷ ys) zero y all is =
      (a, refl, subst (λ (y : B). R a y) (same_Some b y is) all.0)
  zip_got_back (a ∷ xs) (b ∷ ys) (suc k) y all is = zip_got_back xs ys k y all.1 is

  -- where numbers of the two lists have the relation, and they are as long
  pub zip_of_got : (xs : List A) (ys : List B) → length xs ≡ length ys
      → ((k : ℕ) (x : A) (y : B) → slice_get xs k ≡ Some x → slice_get ys k ≡ Some y → R x y)
      → AllZip R xs ys
  zip_of_got [] [] same each = tt
  zip_of_got [] (b ∷ ys) same each = absurd (omega (arith, same))
  zip_of_got (a ∷ xs) [] same each = absurd (omega (arith, same))
  zip_of_got (a ∷ xs) (b ∷ ys) same each = (
    each zero a b refl refl,
    zip_of_got xs ys (omega (arith, same)) (λ k x y is at. each (suc k) x y is at),
  )

  -- a fact of one of the first leads to one of one of the second, and back
  pub zip_any : (one : A → Type 0) (other : B → Type 0)
      → ((x : A) (y : B) → R x y → one x → other y) → (xs : List A) (ys : List B)
      → AllZip R xs ys → AnyOf one xs → AnyOf other ys
  zip_any one other leads [] ys all is = absurd is
  zip_any one other leads (a ∷ xs) [] all is = absurd all
  zip_any one other leads (a ∷ xs) (b ∷ ys) all (inl here) = inl (leads a b all.0 here)
  zip_any one other leads (a ∷ xs) (b ∷ ys) all (inr later) =
      inr (zip_any one other leads xs ys all.1 later)

  pub zip_any_back : (one : A → Type 0) (other : B → Type 0)
      → ((x : A) (y : B) → R x y → other y → one x) → (xs : List A) (ys : List B)
      → AllZip R xs ys → AnyOf other ys → AnyOf one xs
  zip_any_back one other leads xs [] all is = absurd is
  zip_any_back one other leads [] (b ∷ ys) all is = absurd all
  zip_any_back one other leads (a ∷ xs) (b ∷ ys) all (inl here) = inl (leads a b all.0 here)
  zip_any_back one other leads (a ∷ xs) (b ∷ ys) all (inr later) =
      inr (zip_any_back one other leads xs ys all.1 later)

  -- what all of the first have, the second have
  pub zip_all : (one : A → Type 0) (other : B → Type 0)
      → ((x : A) (y : B) → R x y → one x → other y) → (xs : List A) (ys : List B)
      → AllZip R xs ys → AllOf one xs → AllOf other ys
  zip_all one other leads [] [] all each = tt
  zip_all one other leads [] (b ∷ ys) all each = absurd all
  zip_all one other leads (a ∷ xs) [] all each = absurd all
  zip_all one other leads (a ∷ xs) (b ∷ ys) all each =
      (leads a b all.0 each.0, zip_all one other leads xs ys all.1 each.1)

  pub zip_all_back : (one : A → Type 0) (other : B → Type 0)
      → ((x : A) (y : B) → R x y → other y → one x) → (xs : List A) (ys : List B)
      → AllZip R xs ys → AllOf other ys → AllOf one xs
  zip_all_back one other leads [] [] all each = tt
  zip_all_back one other leads [] (b ∷ ys) all each = absurd all
  zip_all_back one other leads (a ∷ xs) [] all each = absurd all
  zip_all_back one other leads (a ∷ xs) (b ∷ ys) all each =
      (leads a b all.0 each.0, zip_all_back one other leads xs ys all.1 each.1)
