-- Each of a list given to one of two sides, or of three: the facts of the sides, and one of the ways to split the list.
use Rattle.std.proofs.Common.{◌≡◌, List, [], ◌∷◌, ◌++◌, ◌⊎◌, inl, inr, map, refl, sym, subst}
use Rattle.cd_model.specs.AllOf.{AllOf, AnyOf}
use Rattle.cd_model.proofs.Ones.{one_weaker, one_of_map, map_of_one, one_on_left, one_on_right, one_on_a_side}
use Rattle.cd_rules.specs.Needs.{splits, splits_in_three, to_one, to_other, to_first, to_middle, to_last}

-- two sides
module _ {X : Type 0} (one other : X → Type 0) where
  -- each of the one side has the one fact, and each of the other side the other
  abbrev pub HaveBoth : List X × List X → Type 0
  HaveBoth sides = AllOf one sides.0 × AllOf other sides.1

  -- what is given first in some ways has one of the facts
  first_given : (x : X) (ways : List (List X × List X)) → AnyOf HaveBoth (map (to_one x) ways) ⊎ AnyOf HaveBoth (map (to_other x) ways)
      → (one x ⊎ other x) × AnyOf HaveBoth ways
  first_given x ways (inl is) = by_one ways (map_of_one (to_one x) HaveBoth ways is)
    where
      by_one : (ways : List (List X × List X)) → AnyOf (λ sides. HaveBoth (to_one x sides)) ways → (one x ⊎ other x) × AnyOf HaveBoth ways
      by_one [] is = elim is [ ]
      by_one (sides ∷ ways) (inl is) = (inl is.0.0, inl (is.0.1, is.1))
      by_one (sides ∷ ways) (inr later) = let rest = by_one ways later in (rest.0, inr rest.1)
  first_given x ways (inr is) = by_other ways (map_of_one (to_other x) HaveBoth ways is)
    where
      by_other : (ways : List (List X × List X)) → AnyOf (λ sides. HaveBoth (to_other x sides)) ways → (one x ⊎ other x) × AnyOf HaveBoth ways
      by_other [] is = elim is [ ]
      by_other (sides ∷ ways) (inl is) = (inr is.1.0, inl (is.0, is.1.1))
      by_other (sides ∷ ways) (inr later) = let rest = by_other ways later in (rest.0, inr rest.1)

  -- where each has one of two facts, there is a way to give each to the side of a fact that it has
  pub one_splits : (xs : List X) → AllOf (λ x. one x ⊎ other x) xs → AnyOf HaveBoth (splits xs)
  one_splits [] each = inl (tt, tt)
  one_splits (x ∷ xs) each = by_fact each.0 (one_splits xs each.1)
    where
      by_fact : one x ⊎ other x → AnyOf HaveBoth (splits xs) → AnyOf HaveBoth (splits (x ∷ xs))
      by_fact (inl is) rest = one_on_left HaveBoth (map (to_one x) (splits xs)) (map (to_other x) (splits xs))
          (one_of_map (to_one x) HaveBoth (splits xs)
          (one_weaker HaveBoth (λ sides. HaveBoth (to_one x sides)) (λ sides both. ((is, both.0), both.1)) (splits xs) rest))
      by_fact (inr is) rest = one_on_right HaveBoth (map (to_one x) (splits xs)) (map (to_other x) (splits xs))
          (one_of_map (to_other x) HaveBoth (splits xs)
          (one_weaker HaveBoth (λ sides. HaveBoth (to_other x sides)) (λ sides both. (both.0, (is, both.1))) (splits xs) rest))

  -- where there is such a way, each has one of the two facts
  each_of_splits : (xs : List X) → AnyOf HaveBoth (splits xs) → AllOf (λ x. one x ⊎ other x) xs
  each_of_splits [] is = tt
  each_of_splits (x ∷ xs) is = joined (first_given x (splits xs)
      (one_on_a_side HaveBoth (map (to_one x) (splits xs)) (map (to_other x) (splits xs)) is)) (each_of_splits xs)
    where
      joined : (one x ⊎ other x) × AnyOf HaveBoth (splits xs) → (AnyOf HaveBoth (splits xs) → AllOf (λ x. one x ⊎ other x) xs)
          → AllOf (λ x. one x ⊎ other x) (x ∷ xs)
      joined is rest = (is.0, rest is.1)

  pub splits_back : (xs : List X) (sides : List X × List X) → AnyOf (λ given. given ≡ sides) (splits xs)
      → AllOf one sides.0 → AllOf other sides.1 → AllOf (λ x. one x ⊎ other x) xs
  splits_back xs sides is each_one each_other = each_of_splits xs (one_weaker (λ given. given ≡ sides) HaveBoth
      (λ given same. subst HaveBoth (sym same) (each_one, each_other)) (splits xs) is)

-- all are given to the one side, and each has the fact
abbrev pub AllToOne : {X : Type 0} → (X → Type 0) → List X × List X → Type 0
AllToOne fact sides = AllOf fact sides.0 × (sides.1 ≡ [])

pub one_gives_all : {X : Type 0} (fact : X → Type 0) (xs : List X) → AllOf fact xs → AnyOf (AllToOne fact) (splits xs)
one_gives_all fact [] each = inl (tt, refl)
one_gives_all fact (x ∷ xs) each =
    one_on_left (AllToOne fact) (map (to_one x) (splits xs)) (map (to_other x) (splits xs))
    (one_of_map (to_one x) (AllToOne fact) (splits xs)
    (one_weaker (AllToOne fact) (λ sides. AllToOne fact (to_one x sides)) (λ sides all. ((each.0, all.0), all.1)) (splits xs)
    (one_gives_all fact xs each.1)))

-- three sides
module _ {X : Type 0} (one other last : X → Type 0) where
  -- each of the first side has the one fact, each of the second the other, and each of the third the last
  abbrev pub HaveThree : List X × List X × List X → Type 0
  HaveThree sides = AllOf one sides.0 × AllOf other sides.1 × AllOf last sides.2

  abbrev OfThree : X → Type 0
  OfThree x = one x ⊎ other x ⊎ last x

  -- what is given first in some ways has one of the facts
  three_given : (x : X) (ways : List (List X × List X × List X)) → AnyOf HaveThree (map (to_first x) ways)
      ⊎ AnyOf HaveThree (map (to_middle x) ways) ⊎ AnyOf HaveThree (map (to_last x) ways) → OfThree x × AnyOf HaveThree ways
  three_given x ways (inl is) = by_first ways (map_of_one (to_first x) HaveThree ways is)
    where
      by_first : (ways : List (List X × List X × List X)) → AnyOf (λ sides. HaveThree (to_first x sides)) ways → OfThree x × AnyOf HaveThree ways
      by_first [] is = elim is [ ]
      by_first (sides ∷ ways) (inl is) = (inl is.0.0, inl (is.0.1, is.1, is.2))
      by_first (sides ∷ ways) (inr later) = let rest = by_first ways later in (rest.0, inr rest.1)
  three_given x ways (inr (inl is)) = by_middle ways (map_of_one (to_middle x) HaveThree ways is)
    where
      by_middle : (ways : List (List X × List X × List X)) → AnyOf (λ sides. HaveThree (to_middle x sides)) ways → OfThree x × AnyOf HaveThree ways
      by_middle [] is = elim is [ ]
      by_middle (sides ∷ ways) (inl is) = (inr (inl is.1.0), inl (is.0, is.1.1, is.2))
      by_middle (sides ∷ ways) (inr later) = let rest = by_middle ways later in (rest.0, inr rest.1)
  three_given x ways (inr (inr is)) = by_last ways (map_of_one (to_last x) HaveThree ways is)
    where
      by_last : (ways : List (List X × List X × List X)) → AnyOf (λ sides. HaveThree (to_last x sides)) ways → OfThree x × AnyOf HaveThree ways
      by_last [] is = elim is [ ]
      by_last (sides ∷ ways) (inl is) = (inr (inr is.2.0), inl (is.0, is.1, is.2.1))
      by_last (sides ∷ ways) (inr later) = let rest = by_last ways later in (rest.0, inr rest.1)

  -- where each has one of three facts, there is a way to give each to the side of a fact that it has
  pub one_splits_in_three : (xs : List X) → AllOf (λ x. one x ⊎ other x ⊎ last x) xs → AnyOf HaveThree (splits_in_three xs)
  one_splits_in_three [] each = inl (tt, tt, tt)
  one_splits_in_three (x ∷ xs) each = by_fact each.0 (one_splits_in_three xs each.1)
    where
      firsts : List (List X × List X × List X)
      firsts = map (to_first x) (splits_in_three xs)

      middles : List (List X × List X × List X)
      middles = map (to_middle x) (splits_in_three xs)

      lasts : List (List X × List X × List X)
      lasts = map (to_last x) (splits_in_three xs)

      by_fact : OfThree x → AnyOf HaveThree (splits_in_three xs) → AnyOf HaveThree (splits_in_three (x ∷ xs))
      by_fact (inl is) rest = one_on_left HaveThree (firsts ++ middles) lasts (one_on_left HaveThree firsts middles
          (one_of_map (to_first x) HaveThree (splits_in_three xs) (one_weaker HaveThree (λ sides. HaveThree (to_first x sides))
          (λ sides all. ((is, all.0), all.1, all.2)) (splits_in_three xs) rest)))
      by_fact (inr (inl is)) rest = one_on_left HaveThree (firsts ++ middles) lasts (one_on_right HaveThree firsts middles
          (one_of_map (to_middle x) HaveThree (splits_in_three xs) (one_weaker HaveThree (λ sides. HaveThree (to_middle x sides))
          (λ sides all. (all.0, (is, all.1), all.2)) (splits_in_three xs) rest)))
      by_fact (inr (inr is)) rest = one_on_right HaveThree (firsts ++ middles) lasts
          (one_of_map (to_last x) HaveThree (splits_in_three xs) (one_weaker HaveThree (λ sides. HaveThree (to_last x sides))
          (λ sides all. (all.0, all.1, (is, all.2))) (splits_in_three xs) rest))

  -- where there is such a way, each has one of the three facts
  each_of_three : (xs : List X) → AnyOf HaveThree (splits_in_three xs) → AllOf (λ x. one x ⊎ other x ⊎ last x) xs
  each_of_three [] is = tt
  each_of_three (x ∷ xs) is = joined (three_given x (splits_in_three xs) (on_sides (one_on_a_side HaveThree (firsts ++ middles) lasts is)))
      (each_of_three xs)
    where
      firsts : List (List X × List X × List X)
      firsts = map (to_first x) (splits_in_three xs)

      middles : List (List X × List X × List X)
      middles = map (to_middle x) (splits_in_three xs)

      lasts : List (List X × List X × List X)
      lasts = map (to_last x) (splits_in_three xs)

      on_sides : AnyOf HaveThree (firsts ++ middles) ⊎ AnyOf HaveThree lasts → AnyOf HaveThree firsts ⊎ AnyOf HaveThree middles ⊎ AnyOf HaveThree lasts
      on_sides (inl is) = leading (one_on_a_side HaveThree firsts middles is)
        where
          leading : AnyOf HaveThree firsts ⊎ AnyOf HaveThree middles → AnyOf HaveThree firsts ⊎ AnyOf HaveThree middles ⊎ AnyOf HaveThree lasts
          leading (inl is) = inl is
          leading (inr is) = inr (inl is)
      on_sides (inr is) = inr (inr is)

      joined : OfThree x × AnyOf HaveThree (splits_in_three xs) → (AnyOf HaveThree (splits_in_three xs) → AllOf OfThree xs)
          → AllOf OfThree (x ∷ xs)
      joined is rest = (is.0, rest is.1)

  pub splits_in_three_back : (xs : List X) (sides : List X × List X × List X) → AnyOf (λ given. given ≡ sides) (splits_in_three xs)
      → AllOf one sides.0 → AllOf other sides.1 → AllOf last sides.2 → AllOf (λ x. one x ⊎ other x ⊎ last x) xs
  splits_in_three_back xs sides is each_one each_other each_last = each_of_three xs (one_weaker (λ given. given ≡ sides) HaveThree
      (λ given same. subst HaveThree (sym same) (each_one, each_other, each_last)) (splits_in_three xs) is)
