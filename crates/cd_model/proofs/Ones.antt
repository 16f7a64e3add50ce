-- Facts of each and of one of a list, and of lists that are made of lists.
use Rattle.std.proofs.Common.{◌≡◌, refl, subst, List, [], ◌∷◌, ◌++◌, ◌⊎◌, inl, inr, map}
use Rattle.cd_model.specs.AllOf.{AllOf, AnyOf}

-- what follows from a fact of each, and of one
pub each_weaker : {X : Type 0} (one other : X → Type 0) → ((x : X) → one x → other x) → (xs : List X) → AllOf one xs → AllOf other xs
each_weaker one other weaker [] each = tt
each_weaker one other weaker (x ∷ xs) each = (weaker x each.0, each_weaker one other weaker xs each.1)

pub one_weaker : {X : Type 0} (one other : X → Type 0) → ((x : X) → one x → other x) → (xs : List X) → AnyOf one xs → AnyOf other xs
one_weaker one other weaker [] is = is
one_weaker one other weaker (x ∷ xs) (inl is) = inl (weaker x is)
one_weaker one other weaker (x ∷ xs) (inr later) = inr (one_weaker one other weaker xs later)

-- a fact of one of a list is one of one that is made of them, and back
pub one_of_map : {X Y : Type 0} (f : X → Y) (fact : Y → Type 0) (xs : List X) → AnyOf (λ x. fact (f x)) xs → AnyOf fact (map f xs)
one_of_map f fact [] is = is
one_of_map f fact (x ∷ xs) (inl is) = inl is
one_of_map f fact (x ∷ xs) (inr later) = inr (one_of_map f fact xs later)

pub map_of_one : {X Y : Type 0} (f : X → Y) (fact : Y → Type 0) (xs : List X) → AnyOf fact (map f xs) → AnyOf (λ x. fact (f x)) xs
map_of_one f fact [] is = is
map_of_one f fact (x ∷ xs) (inl is) = inl is
map_of_one f fact (x ∷ xs) (inr later) = inr (map_of_one f fact xs later)

-- one of the first list or of the second is one of both, and back
pub one_on_left : {X : Type 0} (fact : X → Type 0) (xs ys : List X) → AnyOf fact xs → AnyOf fact (xs ++ ys)
one_on_left fact [] ys is = elim is [ ]
one_on_left fact (x ∷ xs) ys (inl is) = inl is
one_on_left fact (x ∷ xs) ys (inr later) = inr (one_on_left fact xs ys later)

pub one_on_right : {X : Type 0} (fact : X → Type 0) (xs ys : List X) → AnyOf fact ys → AnyOf fact (xs ++ ys)
one_on_right fact [] ys is = is
one_on_right fact (x ∷ xs) ys is = inr (one_on_right fact xs ys is)

pub one_on_a_side : {X : Type 0} (fact : X → Type 0) (xs ys : List X) → AnyOf fact (xs ++ ys) → AnyOf fact xs ⊎ AnyOf fact ys
one_on_a_side fact [] ys is = inr is
one_on_a_side fact (x ∷ xs) ys (inl is) = inl (inl is)
one_on_a_side fact (x ∷ xs) ys (inr later) = further (one_on_a_side fact xs ys later)
  where
    further : AnyOf fact xs ⊎ AnyOf fact ys → AnyOf fact (x ∷ xs) ⊎ AnyOf fact ys
    further (inl is) = inl (inr is)
    further (inr is) = inr is

-- the one of a list that has a fact, and the one of which that is made which has it
pub picked : {X : Type 0} (fact : X → Type 0) (xs : List X) → AnyOf fact xs → (x : X) × AnyOf (λ other. other ≡ x) xs × fact x
picked fact [] is = elim is [ ]
picked fact (x ∷ xs) (inl is) = (x, inl refl, is)
picked fact (x ∷ xs) (inr later) = let rest = picked fact xs later in (rest.0, inr rest.1, rest.2)

pub one_picked : {X Y : Type 0} (f : X → Y) (fact : Y → Type 0) (xs : List X) → AnyOf fact (map f xs)
    → (x : X) × AnyOf (λ other. other ≡ x) xs × fact (f x)
one_picked f fact xs is = picked (λ x. fact (f x)) xs (map_of_one f fact xs is)

-- what holds of all holds of each of a list
pub each_of_all : {X : Type 0} (Is : X → Type 0) → ((x : X) → Is x) → (xs : List X) → AllOf Is xs
each_of_all Is all [] = tt
each_of_all Is all (x ∷ xs) = (all x, each_of_all Is all xs)

-- what follows of two facts of each of a list
pub each_of_two : {X : Type 0} (one other has : X → Type 0) → ((x : X) → one x → other x → has x) → (xs : List X)
    → AllOf one xs → AllOf other xs → AllOf has xs
each_of_two one other has lead [] each others = tt
each_of_two one other has lead (x ∷ xs) each others =
    (lead x each.0 others.0, each_of_two one other has lead xs each.1 others.1)

-- what all of a list have for every other thing, each of it has for all
pub each_for_all : {X Y : Type 0} (has : Y → X → Type 0) (xs : List X) → ((y : Y) → AllOf (has y) xs)
    → AllOf (λ x. (y : Y) → has y x) xs
each_for_all has [] each = tt
each_for_all has (x ∷ xs) each = (λ y. (each y).0, each_for_all has xs (λ y. (each y).1))

-- one with a fact, among such as all have another, has both
pub one_with_each : {X : Type 0} (one other : X → Type 0) (xs : List X) → AnyOf one xs → AllOf other xs
    → AnyOf (λ x. one x × other x) xs
one_with_each one other [] is each = is
one_with_each one other (x ∷ xs) (inl is) each = inl (is, each.0)
one_with_each one other (x ∷ xs) (inr later) each = inr (one_with_each one other xs later each.1)

-- a fact that one of a list leads to, whichever it is
pub one_leads : {X : Type 0} (fact : X → Type 0) {Is : Type 0} → ((x : X) → fact x → Is) → (xs : List X) → AnyOf fact xs → Is
one_leads fact leads [] is = elim is [ ]
one_leads fact leads (x ∷ xs) (inl is) = leads x is
one_leads fact leads (x ∷ xs) (inr later) = one_leads fact leads xs later

-- where one thing of a list with no other has a fact, this thing has it
pub one_alone : {X : Type 0} (fact : X → Type 0) (xs : List X) (x : X) → xs ≡ x ∷ [] → AnyOf fact xs → fact x
one_alone fact xs x alone one = first (subst (AnyOf fact) alone one)
  where
    first : AnyOf fact (x ∷ []) → fact x
    first (inl is) = is
    first (inr none) = elim none [ ]

-- a fact of each of two lists is one of each of both
pub each_of_lists : {X : Type 0} (fact : X → Type 0) (xs ys : List X) → AllOf fact xs → AllOf fact ys → AllOf fact (xs ++ ys)
each_of_lists fact [] ys each others = others
each_of_lists fact (x ∷ xs) ys each others = (each.0, each_of_lists fact xs ys each.1 others)
