-- Facts of the first things of a list, and of the next one.
use Rattle.std.proofs.Common.{◌≡◌, ◌<◌, ◌≤◌, ◌+◌, ℕ, List, [], ◌∷◌, ◌++◌, ◌⊎◌, inl, inr, ◌↔◌, map}
use Rattle.std.proofs.Common.{◌-◌, zero, suc, length, take, drop, get_or, refl, sym, subst, ap, ◌∙◌}
use Rattle.std.proofs.Common.{arith}
use Rattle.std.proofs.lemmas.List.{take_more, take_all, map-append, get_or_default, take_rest}
use Rattle.cd_model.specs.AllOf.{AllOf, AnyOf}
use Rattle.cd_model.proofs.Ones.{each_of_lists, one_on_left, one_on_right, one_on_a_side}

-- of two lists, one after the other
pub each_apart : {X : Type 0} (fact : X → Type 0) (xs ys : List X) → AllOf fact (xs ++ ys)
    → AllOf fact xs × AllOf fact ys
each_apart fact [] ys each = (tt, each)
each_apart fact (x ∷ xs) ys each =
    let rest = each_apart fact xs ys each.1 in ((each.0, rest.0), rest.1)

module _ {X : Type 0} (xs : List X) (i : ℕ) where
  -- where no more are left
  pub taken_all : length xs ≤ i → take i xs ≡ xs
  taken_all past = take_all i xs past

  module _ (x : X) (below : i < length xs) (is : x ≡ get_or xs i x) where
    pub taken_more : take (i + 1) xs ≡ take i xs ++ x ∷ []
    taken_more = take_more xs i x below ∙ ap (λ (y : X). take i xs ++ y ∷ []) (sym is)

    pub each_taken : (fact : X → Type 0)
        → AllOf fact (take (i + 1) xs) ↔ (AllOf fact (take i xs) × fact x)
    each_taken fact = (
      λ each. let parts = each_apart fact (take i xs) (x ∷ []) (subst (AllOf fact) taken_more each)
          in (parts.0, parts.1.0),
      λ both. subst (AllOf fact) (sym taken_more)
          (each_of_lists fact (take i xs) (x ∷ []) both.0 (both.1, tt)),
    )

    pub one_taken : (fact : X → Type 0)
        → AnyOf fact (take (i + 1) xs) ↔ (AnyOf fact (take i xs) ⊎ fact x)
    one_taken fact = (
      λ one. last (one_on_a_side fact (take i xs) (x ∷ []) (subst (AnyOf fact) taken_more one)),
      λ one. subst (AnyOf fact) (sym taken_more) (back one),
    )
      where
        last : AnyOf fact (take i xs) ⊎ AnyOf fact (x ∷ []) → AnyOf fact (take i xs) ⊎ fact x
        last (inl first) = inl first
        last (inr (inl is)) = inr is
        last (inr (inr none)) = absurd none

        back : AnyOf fact (take i xs) ⊎ fact x → AnyOf fact (take i xs ++ x ∷ [])
        back (inl first) = one_on_left fact (take i xs) (x ∷ []) first
        back (inr is) = one_on_right fact (take i xs) (x ∷ []) (inl is)

    -- of what is made of them
    pub one_made_taken : {Y : Type 0} (f : X → Y) (fact : Y → Type 0)
        → AnyOf fact (map f (take (i + 1) xs)) ↔ (AnyOf fact (map f (take i xs)) ⊎ fact (f x))
    one_made_taken f fact = (
      λ one. last (one_on_a_side fact (map f (take i xs)) (f x ∷ []) (subst (AnyOf fact) made one)),
      λ one. subst (AnyOf fact) (sym made) (back one),
    )
      where
        made : map f (take (i + 1) xs) ≡ map f (take i xs) ++ f x ∷ []
        made = ap (map f) taken_more ∙ map-append f (take i xs) (x ∷ [])

        last : AnyOf fact (map f (take i xs)) ⊎ AnyOf fact (f x ∷ [])
            → AnyOf fact (map f (take i xs)) ⊎ fact (f x)
        last (inl first) = inl first
        last (inr (inl is)) = inr is
        last (inr (inr none)) = absurd none

        back : AnyOf fact (map f (take i xs)) ⊎ fact (f x)
            → AnyOf fact (map f (take i xs) ++ f x ∷ [])
        back (inl first) = one_on_left fact (map f (take i xs)) (f x ∷ []) first
        back (inr is) = one_on_right fact (map f (take i xs)) (f x ∷ []) (inl is)

-- what each thing has, the one at a place has; and what that one has, one has
pub each_at : {X : Type 0} (fact : X → Type 0) (xs : List X) (i : ℕ) (x : X) → i < length xs
    → x ≡ get_or xs i x → AllOf fact xs → fact x
each_at fact [] i x below is each = absurd (omega arith)
each_at fact (y ∷ xs) zero x below is each = subst fact (sym is) each.0
each_at fact (y ∷ xs) (suc i) x below is each = each_at fact xs i x (omega arith) is each.1

pub one_at : {X : Type 0} (fact : X → Type 0) (xs : List X) (i : ℕ) (x : X) → i < length xs
    → x ≡ get_or xs i x → fact x → AnyOf fact xs
one_at fact [] i x below is has = absurd (omega arith)
one_at fact (y ∷ xs) zero x below is has = inl (subst fact is has)
one_at fact (y ∷ xs) (suc i) x below is has = inr (one_at fact xs i x (omega arith) is has)

-- what is read at a place, whatever is read past the end
pub read_at : {X : Type 0} (xs : List X) (i : ℕ) (d : X) → i < length xs
    → get_or xs i d ≡ get_or xs i (get_or xs i d)
read_at xs i d below = get_or_default xs i d (get_or xs i d) below

-- a list with a first thing is that and the rest
pub first_and_rest : {X : Type 0} (xs : List X) (d : X) → 1 ≤ length xs
    → xs ≡ get_or xs 0 d ∷ take (length xs - 1) (drop 1 xs)
first_and_rest [] d some = absurd (omega arith)
first_and_rest (x ∷ xs) d some = ap (λ ys. x ∷ ys) (sym (take_rest (x ∷ xs) 1))

pub nothing_there : {X : Type 0} (xs : List X) → length xs < 1 → xs ≡ []
nothing_there [] none = refl
nothing_there (x ∷ xs) none = absurd (omega arith)
