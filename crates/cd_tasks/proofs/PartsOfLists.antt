-- Lists that functions make of lists.
use Rattle.std.proofs.Common.{◌≡◌, ◌∙◌, refl, ap, Bool, true, false, cond, List, [], ◌∷◌, map}
use Rattle.std.specs.List.{filter}

pub map_map : {X Y Z : Type 0} (g : Y → Z) (f : X → Y) (xs : List X) → map g (map f xs) ≡ map (λ x. g (f x)) xs
map_map g f [] = refl
map_map g f (x ∷ xs) = ap (λ rest. g (f x) ∷ rest) (map_map g f xs)

-- two ways from one list to another
pub map_twice : {X Y Z W : Type 0} (g : Y → W) (f : X → Y) (k : Z → W) (h : X → Z) → ((x : X) → g (f x) ≡ k (h x)) → (xs : List X)
    → map g (map f xs) ≡ map k (map h xs)
map_twice g f k h same [] = refl
map_twice g f k h same (x ∷ xs) = ap (λ y. y ∷ map g (map f xs)) (same x) ∙ ap (λ rest. k (h x) ∷ rest) (map_twice g f k h same xs)

-- what passes of things that are made of others
pub filter_of_map : {X Y : Type 0} (p : Y → Bool) (q : X → Bool) (f : X → Y) → ((x : X) → p (f x) ≡ q x) → (xs : List X)
    → filter p (map f xs) ≡ map f (filter q xs)
filter_of_map p q f same [] = refl
filter_of_map {X} {Y} p q f same (x ∷ xs) =
    ap (λ passes. cond passes (f x ∷ filter p (map f xs)) (filter p (map f xs))) (same x)
    ∙ by_test (q x) (filter q xs) (filter p (map f xs)) (filter_of_map p q f same xs)
  where
    by_test : (passes : Bool) (kept : List X) (made : List Y) → made ≡ map f kept
        → cond passes (f x ∷ made) made ≡ map f (cond passes (x ∷ kept) kept)
    by_test true kept made is = ap (λ rest. f x ∷ rest) is
    by_test false kept made is = is

pub filter_all : {X : Type 0} (p : X → Bool) → ((x : X) → p x ≡ true) → (xs : List X) → filter p xs ≡ xs
filter_all p all [] = refl
filter_all p all (x ∷ xs) =
    ap (λ passes. cond passes (x ∷ filter p xs) (filter p xs)) (all x) ∙ ap (λ rest. x ∷ rest) (filter_all p all xs)

pub filter_none : {X : Type 0} (p : X → Bool) → ((x : X) → p x ≡ false) → (xs : List X) → filter p xs ≡ []
filter_none p none [] = refl
filter_none p none (x ∷ xs) =
    ap (λ passes. cond passes (x ∷ filter p xs) (filter p xs)) (none x) ∙ filter_none p none xs
