-- The item at a place of a list is taken out of it.
use Rattle.std.proofs.Common.{◌≡◌, ℕ, suc, zero, ◌<◌, List, [], ◌∷◌, ◌++◌, map, length, get_or, take, drop, sym, ap₂, ◌∙◌, subst, arith}
use Rattle.std.proofs.lemmas.List.{map-append, take-map, drop-map}
use Rattle.std.specs.List.{remove}
use Rattle.cd_rules.specs.Tasks.{Takes, taken_here, taken_later}

pub takes : {X : Type 0} (items : List X) (place : ℕ) (item : X) → item ≡ get_or items place item → place < length items
    → Takes item items (remove items place)
takes [] place item is within = absurd (omega arith)
takes (first ∷ items) zero item is within = subst (λ one. Takes item (one ∷ items) items) is (taken_here items)
takes (first ∷ items) (suc place) item is within =
    taken_later first items (remove items place) (takes items place item is (omega arith))

-- so is what a function makes of it
pub takes_mapped : {X Y : Type 0} (f : X → Y) (x : X) (all rest : List X) → Takes x all rest → Takes (f x) (map f all) (map f rest)
takes_mapped f x _ _ (taken_here rest) = taken_here (map f rest)
takes_mapped f x _ _ (taken_later other all rest taken) =
    taken_later (f other) (map f all) (map f rest) (takes_mapped f x all rest taken)

pub removed_mapped : {X Y : Type 0} (f : X → Y) (all : List X) (place : ℕ) → map f (remove all place) ≡ remove (map f all) place
removed_mapped f all place = map-append f (take place all) (drop (suc place) all)
    ∙ ap₂ (λ before after. before ++ after) (sym (take-map f place all)) (sym (drop-map f (suc place) all))
