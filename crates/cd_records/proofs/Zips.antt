-- Lists whose things belong together one by one.
use Rattle.std.proofs.Common.{◌≡◌, ◌<◌, ◌+◌, ℕ, zero, suc, arith, List, [], ◌∷◌, ◌++◌, map, take, get_or, length, sym, ap}
use Rattle.std.proofs.Common.{subst, ◌∙◌}
use Rattle.std.proofs.lemmas.List.{take_more, map-append}
use Rattle.std.specs.List.{AllZip}
use Rattle.cd_model.specs.AllOf.{AllOf}

pushed : {A B : Type 0} (Fact : A → B → Type 0) (xs : List A) (ys : List B) (x : A) (y : B)
    → AllZip Fact xs ys → Fact x y → AllZip Fact (xs ++ x ∷ []) (ys ++ y ∷ [])
pushed Fact [] [] x y all is = (is, tt)
pushed Fact [] (b ∷ ys) x y all is = absurd all
pushed Fact (a ∷ xs) [] x y all is = absurd all
pushed Fact (a ∷ xs) (b ∷ ys) x y all is = (all.0, pushed Fact xs ys x y all.1 is)

-- one more of each, as a loop finds them
pub zip_more : {X A Y B : Type 0} (f : X → A) (g : Y → B) (Fact : A → B → Type 0) (xs : List X)
    (k : ℕ) (x : X) → k < length xs → x ≡ get_or xs k x → (ys after : List Y) (y : Y)
    → after ≡ ys ++ y ∷ [] → AllZip Fact (map f (take k xs)) (map g ys) → Fact (f x) (g y)
    → AllZip Fact (map f (take (k + 1) xs)) (map g after)
zip_more {A = A} {B = B} f g Fact xs k x below is ys after y put before made =
    subst (λ (some : List A). AllZip Fact some (map g after))
    (sym (ap (map f) (take_more xs k x below ∙ ap (λ one. take k xs ++ one ∷ []) (sym is))
    ∙ map-append f (take k xs) (x ∷ [])))
    (subst (λ (others : List B). AllZip Fact (map f (take k xs) ++ f x ∷ []) others)
    (sym (ap (map g) put ∙ map-append g ys (y ∷ [])))
    (pushed Fact (map f (take k xs)) (map g ys) (f x) (g y) before made))

-- what each thing in a list has, the one at a place has
at_place : {X : Type 0} (Fact : X → Type 0) (xs : List X) (k : ℕ) (x : X) → AllOf Fact xs
    → k < length xs → Fact (get_or xs k x)
at_place Fact [] k x each below = absurd (omega arith)
at_place Fact (one ∷ xs) zero x each below = each.0
at_place Fact (one ∷ xs) (suc k) x each below = at_place Fact xs k x each.1 (omega arith)

mapped : {X Y : Type 0} (f : X → Y) (Fact : Y → Type 0) (xs : List X) → AllOf Fact (map f xs)
    → AllOf (λ x. Fact (f x)) xs
mapped f Fact [] each = tt
mapped f Fact (x ∷ xs) each = (each.0, mapped f Fact xs each.1)

pub mapped_at : {X Y : Type 0} (f : X → Y) (Fact : Y → Type 0) (xs : List X) (k : ℕ) (x : X)
    → AllOf Fact (map f xs) → k < length xs → x ≡ get_or xs k x → Fact (f x)
mapped_at f Fact xs k x each below is = subst (λ x. Fact (f x)) (sym is)
    (at_place (λ x. Fact (f x)) xs k x (mapped f Fact xs each) below)
