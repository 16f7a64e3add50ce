-- Things by rising keys: one list alone has given things in that order, and both a sort and insertion make it.
use Rattle.std.proofs.Common.{◌≡◌, ◌∙◌, ℕ, zero, suc, ◌<◌, ◌≤◌, Bool, true, false, List, [], ◌∷◌, length, get_or, refl, sym, ap, ap₂, subst, true≢false, inl, inr, suc-le-suc, zero-le, if◌then◌else◌}
use Rattle.std.specs.Prelude.{◌⊎◌}
use Rattle.std.specs.List.{AllByRecursion as AllOf}
use Rattle.std.specs.List.Sorted.{IsPermutation, IsSortedBy}
use Rattle.std.specs.Ordering.{nat_cmp, is_lt, is_eq, ordering_reverse}
use Rattle.std.specs.Cmp.Lexicographic.{slice_cmp}
use Rattle.std.specs.declared.cmp.Ordering.{Ordering}
use Rattle.std.specs.declared.cmp.Ordering.TheVariants.{Less, Equal, Greater}
use Rattle.std.proofs.lemmas.Cmp.{nat_list_cmp_total}
use Rattle.std.proofs.lemmas.Map.Text.{is_eq-slice_cmp}
use Rattle.std.proofs.lemmas.Slice.Eq.{bytes_eq-Decides}
use Rattle.std.proofs.lemmas.List.Sorted.{IsPermutation-sym, All-permutation, sorted_far, ranks_by}
use Rattle.std.proofs.lemmas.List.Elements.{All-from_recursion, recursion_from_All}

all_weaker : {X : Type 0} (fact other : X → Type 0) (xs : List X) → ((x : X) → fact x → other x) → AllOf fact xs → AllOf other xs
all_weaker fact other [] weaker all = tt
all_weaker fact other (x ∷ xs) weaker all = (weaker x all.0, all_weaker fact other xs weaker all.1)

-- in another order
pub all_moved : {X : Type 0} (fact : X → Type 0) (xs ys : List X) → IsPermutation xs ys → AllOf fact xs → AllOf fact ys
all_moved fact xs ys same all = recursion_from_All fact ys (All-permutation fact xs ys same (All-from_recursion fact xs all))

-- a thing is one of a list
abbrev In : {X : Type 0} → List X → X → Type 0
In [] x = ⊥
In (y ∷ ys) x = (x ≡ y) ⊎ In ys x

all_in : {X : Type 0} (xs : List X) → AllOf (In xs) xs
all_in [] = tt
all_in (x ∷ xs) = (inl refl, all_weaker (In xs) (In (x ∷ xs)) xs (λ y is. inr is) (all_in xs))

of_one : {X : Type 0} (fact : X → Type 0) (xs : List X) (x : X) → AllOf fact xs → In xs x → fact x
of_one fact [] x all is = absurd is
of_one fact (y ∷ ys) x all (inl is) = subst fact (sym is) all.0
of_one fact (y ∷ ys) x all (inr is) = of_one fact ys x all.1 is

module _ {X : Type 0} (key : X → List ℕ) where
  abbrev pub Below : X → X → Type 0
  Below x y = slice_cmp nat_cmp (key x) (key y) ≡ Less

  abbrev pub Rise : List X → Type 0
  Rise [] = Unit {0}
  Rise (x ∷ xs) = AllOf (Below x) xs × Rise xs

  abbrev pub Differ : List X → Type 0
  Differ [] = Unit {0}
  Differ (x ∷ xs) = AllOf (λ y. key x ≡ key y → ⊥) xs × Differ xs

  not_below_itself : (x : X) → Below x x → ⊥
  not_below_itself x below =
      true≢false (sym (ap is_lt below) ∙ ap is_lt (nat_list_cmp_total.antisymm (key x) (key x) ∙ ap ordering_reverse below))

  same_key : (x y : X) → slice_cmp nat_cmp (key x) (key y) ≡ Equal → key x ≡ key y
  same_key x y equal = (bytes_eq-Decides (key x) (key y)).0 (sym (is_eq-slice_cmp (key x) (key y)) ∙ ap is_eq equal)

  turned : (x y : X) → slice_cmp nat_cmp (key x) (key y) ≡ Greater → Below y x
  turned x y above = nat_list_cmp_total.antisymm (key y) (key x) ∙ ap ordering_reverse above

  below_both : (x y z : X) → Below x y → Below y z → Below x z
  below_both x y z first second = nat_list_cmp_total.trans (key x) (key y) (key z) first second

  -- one list alone rises and has these things
  in_rest : (x : X) (xs ys : List X) → AllOf (Below x) ys → AllOf (In (x ∷ xs)) ys → AllOf (In xs) ys
  in_rest x xs [] above are = tt
  in_rest x xs (y ∷ ys) above are = (by_place are.0, in_rest x xs ys above.1 are.1)
    where
      by_place : In (x ∷ xs) y → In xs y
      by_place (inl is) = absurd (not_below_itself x (subst (Below x) is above.0))
      by_place (inr is) = is

  same_first : (x y : X) (xs ys : List X) → AllOf (Below x) xs → AllOf (Below y) ys → In (y ∷ ys) x → In (x ∷ xs) y → x ≡ y
  same_first x y xs ys above above_other (inl is) there = is
  same_first x y xs ys above above_other (inr is) (inl there) = sym there
  same_first x y xs ys above above_other (inr is) (inr there) =
      absurd (not_below_itself x (below_both x y x (of_one (Below x) xs y above there) (of_one (Below y) ys x above_other is)))

  only_one : (xs ys : List X) → Rise xs → Rise ys → AllOf (In ys) xs → AllOf (In xs) ys → xs ≡ ys
  only_one [] [] rise rise_other are are_other = refl
  only_one [] (y ∷ ys) rise rise_other are are_other = absurd are_other.0
  only_one (x ∷ xs) [] rise rise_other are are_other = absurd are.0
  only_one (x ∷ xs) (y ∷ ys) rise rise_other are are_other =
      let first = same_first x y xs ys rise.0 rise_other.0 are.0 are_other.0 in
      ap₂ (λ z zs. z ∷ zs) first
      (only_one xs ys rise.1 rise_other.1
      (in_rest y ys xs (subst (λ z. AllOf (Below z) xs) first rise.0) are.1)
      (in_rest x xs ys (subst (λ z. AllOf (Below z) ys) (sym first) rise_other.0) are_other.1))

  -- insertion
  abbrev pub put : X → List X → List X
  put x [] = x ∷ []
  put x (y ∷ ys) = if is_lt (slice_cmp nat_cmp (key x) (key y)) then x ∷ y ∷ ys else y ∷ put x ys

  abbrev pub ordered : List X → List X
  ordered [] = []
  ordered (x ∷ xs) = put x (ordered xs)

  put_all : (fact : X → Type 0) (x : X) (xs : List X) → fact x → AllOf fact xs → AllOf fact (put x xs)
  put_all fact x [] is all = (is, tt)
  put_all fact x (y ∷ ys) is all = by_test (is_lt (slice_cmp nat_cmp (key x) (key y))) (put_all fact x ys is all.1)
    where
      by_test : (test : Bool) → AllOf fact (put x ys) → AllOf fact (if test then x ∷ y ∷ ys else y ∷ put x ys)
      by_test true later = (is, all)
      by_test false later = (all.0, later)

  put_there : (x : X) (xs : List X) → In (put x xs) x
  put_there x [] = inl refl
  put_there x (y ∷ ys) = by_test (is_lt (slice_cmp nat_cmp (key x) (key y))) (put_there x ys)
    where
      by_test : (test : Bool) → In (put x ys) x → In (if test then x ∷ y ∷ ys else y ∷ put x ys) x
      by_test true later = inl refl
      by_test false later = inr later

  put_keeps : (z x : X) (xs : List X) → In xs z → In (put x xs) z
  put_keeps z x [] is = absurd is
  put_keeps z x (y ∷ ys) is = by_test (is_lt (slice_cmp nat_cmp (key x) (key y))) is (put_keeps z x ys)
    where
      by_test : (test : Bool) → In (y ∷ ys) z → (In ys z → In (put x ys) z) → In (if test then x ∷ y ∷ ys else y ∷ put x ys) z
      by_test true there later = inr there
      by_test false (inl there) later = inl there
      by_test false (inr there) later = inr (later there)

  put_rises : (x : X) (xs : List X) → AllOf (λ y. key x ≡ key y → ⊥) xs → Rise xs → Rise (put x xs)
  put_rises x [] differ rise = (tt, tt)
  put_rises x (y ∷ ys) differ rise = by_order (slice_cmp nat_cmp (key x) (key y)) refl (put_rises x ys differ.1 rise.1)
    where
      by_order : (order : Ordering) → slice_cmp nat_cmp (key x) (key y) ≡ order → Rise (put x ys)
          → Rise (if is_lt order then x ∷ y ∷ ys else y ∷ put x ys)
      by_order Less is later = ((is, all_weaker (Below y) (Below x) ys (λ z below. below_both x y z is below) rise.0), rise)
      by_order Equal is later = absurd (differ.0 (same_key x y is))
      by_order Greater is later = (put_all (Below y) x ys (turned x y is) rise.0, later)

  ordered_all : (fact : X → Type 0) (xs : List X) → AllOf fact xs → AllOf fact (ordered xs)
  ordered_all fact [] all = tt
  ordered_all fact (x ∷ xs) all = put_all fact x (ordered xs) all.0 (ordered_all fact xs all.1)

  ordered_has : (xs : List X) → AllOf (In (ordered xs)) xs
  ordered_has [] = tt
  ordered_has (x ∷ xs) = (
    put_there x (ordered xs),
    all_weaker (In (ordered xs)) (In (put x (ordered xs))) xs (λ z is. put_keeps z x (ordered xs) is) (ordered_has xs),
  )

  ordered_rises : (xs : List X) → Differ xs → Rise (ordered xs)
  ordered_rises [] differ = tt
  ordered_rises (x ∷ xs) differ =
      put_rises x (ordered xs) (ordered_all (λ y. key x ≡ key y → ⊥) xs differ.0) (ordered_rises xs differ.1)

  -- what a sort makes rises where the keys differ
  abbrev pub lower : X → X → Bool
  lower x y = is_lt (slice_cmp nat_cmp (key x) (key y))

  above : (x : X) (ys : List X) → AllOf (λ y. key x ≡ key y → ⊥) ys → ((k : ℕ) → k < length ys → lower (get_or ys k x) x ≡ false)
      → AllOf (Below x) ys
  above x [] differ sorted = tt
  above x (y ∷ ys) differ sorted = (
    by_order (slice_cmp nat_cmp (key y) (key x)) refl (sorted zero (suc-le-suc zero-le)),
    above x ys differ.1 (λ k within. sorted (suc k) (suc-le-suc within)),
  )
    where
      by_order : (order : Ordering) → slice_cmp nat_cmp (key y) (key x) ≡ order → is_lt order ≡ false → Below x y
      by_order Less is not = absurd (true≢false not)
      by_order Equal is not = absurd (differ.0 (sym (same_key y x is)))
      by_order Greater is not = turned y x is

  rises_from : (ys : List X) → Differ ys
      → ((i j : ℕ) (d : X) → i ≤ j → j < length ys → lower (get_or ys j d) (get_or ys i d) ≡ false) → Rise ys
  rises_from [] differ sorted = tt
  rises_from (y ∷ ys) differ sorted = (
    above y ys differ.0 (λ k within. sorted zero (suc k) y zero-le (suc-le-suc within)),
    rises_from ys differ.1 (λ i j d le within. sorted (suc i) (suc j) d (suc-le-suc le) (suc-le-suc within)),
  )

  pub sorted_rises : (ys : List X) → Differ ys → IsSortedBy lower ys → Rise ys
  sorted_rises ys differ sorted = rises_from ys differ (sorted_far lower (ranks_by nat_list_cmp_total key) ys sorted)

  -- a sort makes what insertion makes
  pub sorted_is : (xs ys : List X) → Differ xs → Differ ys → IsPermutation xs ys → IsSortedBy lower ys → ys ≡ ordered xs
  sorted_is xs ys differ differ_still same sorted =
      only_one ys (ordered xs) (sorted_rises ys differ_still sorted) (ordered_rises xs differ)
      (all_moved (In (ordered xs)) xs ys same (ordered_has xs))
      (ordered_all (In ys) xs (all_moved (In ys) ys xs (IsPermutation-sym xs ys same) (all_in ys)))
