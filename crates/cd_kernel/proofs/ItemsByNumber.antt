-- A fact of each item of an expression, by its number.
use Rattle.std.proofs.Common.{◌≡◌, ℕ, zero, suc, ◌+◌, List, [], ◌∷◌, ◌++◌, ◌⊎◌, inl, inr, length}
use Rattle.std.proofs.Common.{Some, sym, ap, subst, ◌∙◌, arith}
use Rattle.std.specs.List.{slice_get}
use Rattle.std.proofs.lemmas.Option.{none-some, same_Some}
use Rattle.cd_syntax.specs.Name.{Name}
use Rattle.cd_matching.specs.Pattern as pattern
use Rattle.cd_matching.specs.Pattern.{Pattern, Regular, Regulars, NoRegular, ARegular}
use Rattle.cd_moves.specs.Automaton.{ItemOf, items_in, items_of, items_of_all}
use Rattle.cd_kernel.proofs.PartsStand.{items_long}

-- a thing of two lists one after the other
pub get_split : {A : Type 0} (xs ys : List A) (k : ℕ) (x : A) → slice_get (xs ++ ys) k ≡ Some x
    → (slice_get xs k ≡ Some x) ⊎ ((j : ℕ) × (k ≡ length xs + j) × (slice_get ys j ≡ Some x))
get_split [] ys k x h = inr (k, omega arith, h)
get_split (y ∷ xs) ys zero x h = inl h
get_split (y ∷ xs) ys (suc k) x h = elim (get_split xs ys k x h) [
  | inl here ↦ inl here
  | inr (j, same, there) ↦ inr (j, omega (arith, same), there)
]

module _ {T : Type 0} (P : Pattern T → ℕ → Type 0) (numbers : List ℕ) where
  abbrev mutual
    pub ItemsHave : Regular T → (before : ℕ) → Type 0
    ItemsHave pattern.Nothing before = Unit {0}
    ItemsHave (pattern.Item p) before = (number : ℕ) × (slice_get numbers before ≡ Some number)
        × P p number
    ItemsHave (pattern.Seq all) before = AllItemsHave all before
    ItemsHave (pattern.Alt all) before = AllItemsHave all before
    ItemsHave (pattern.Repeat r post) before = ItemsHave r before
    ItemsHave (pattern.Capture name r) before = ItemsHave r before

    pub AllItemsHave : Regulars T → (before : ℕ) → Type 0
    AllItemsHave NoRegular before = Unit {0}
    AllItemsHave (ARegular first rest) before =
        ItemsHave first before × AllItemsHave rest (before + items_in first)

  abbrev At : List (ItemOf T) → (before : ℕ) → Type 0
  At all before = (place number : ℕ) (of : ItemOf T)
      → slice_get numbers (before + place) ≡ Some number → slice_get all place ≡ Some of
      → P of.0 number

  at_none : (before : ℕ) → At [] before
  at_none before zero number of is_number is_of = absurd (none-some of is_of)
  at_none before (suc place) number of is_number is_of = absurd (none-some of is_of)

  at_one : (p : Pattern T) (around : List Name) (before its : ℕ)
      → slice_get numbers before ≡ Some its → P p its → At ((p, around) ∷ []) before
  at_one p around before its there fact zero number of is_number is_of =
      subst (λ n. P of.0 n)
      (same_Some its number (sym there ∙ ap (slice_get numbers) (sym (at_zero before)) ∙ is_number))
      (subst (λ (o : ItemOf T). P o.0 its) (same_Some (p, around) of is_of) fact)
    where
      at_zero : (n : ℕ) → n + 0 ≡ n
      at_zero n = omega arith
  at_one p around before its there fact (suc zero) number of is_number is_of =
      absurd (none-some of is_of)
  at_one p around before its there fact (suc (suc place)) number of is_number is_of =
      absurd (none-some of is_of)

  mutual
    items_at : (r : Regular T) (around : List Name) (before : ℕ) → ItemsHave r before
        → At (items_of around r) before
    items_at pattern.Nothing around before have = at_none before
    items_at (pattern.Item p) around before (its, there, fact) =
        at_one p around before its there fact
    items_at (pattern.Seq all) around before have = all_items_at all around before have
    items_at (pattern.Alt all) around before have = all_items_at all around before have
    items_at (pattern.Repeat r post) around before have = items_at r around before have
    items_at (pattern.Capture name r) around before have = items_at r (name ∷ around) before have

    all_items_at : (all : Regulars T) (around : List Name) (before : ℕ) → AllItemsHave all before
        → At (items_of_all around all) before
    all_items_at NoRegular around before have = at_none before
    all_items_at (ARegular first rest) around before have = λ place number of is_number is_of.
        by_side (items_at first around before have.0)
        (all_items_at rest around (before + items_in first) have.1) place number of is_number
        (get_split (items_of around first) (items_of_all around rest) place of is_of)
      where
        regroup : (b p l c j : ℕ) → p ≡ l + j → l ≡ c → b + p ≡ b + c + j
        regroup b p l c j one two = omega (arith, one, two)

        by_side : At (items_of around first) before
            → At (items_of_all around rest) (before + items_in first)
            → (place number : ℕ) (of : ItemOf T)
            → slice_get numbers (before + place) ≡ Some number
            → (slice_get (items_of around first) place ≡ Some of)
            ⊎ ((j : ℕ) × (place ≡ length (items_of around first) + j)
            × (slice_get (items_of_all around rest) j ≡ Some of)) → P of.0 number
        by_side one other place number of is_number (inl here) = one place number of is_number here
        by_side one other place number of is_number (inr (j, same, there)) =
            other j number of (subst (λ n. slice_get numbers n ≡ Some number)
            (regroup before place (length (items_of around first)) (items_in first) j same
            (items_long around first)) is_number) there

  none_before : (k : ℕ) → k ≡ 0 + k
  none_before k = omega arith

  pub item_has : (r : Regular T) → ItemsHave r 0 → (place number : ℕ) (of : ItemOf T)
      → slice_get numbers place ≡ Some number → slice_get (items_of [] r) place ≡ Some of
      → P of.0 number
  item_has r have place number of is_number is_of = items_at r [] 0 have place number of
      (subst (λ n. slice_get numbers n ≡ Some number) (none_before place) is_number) is_of
