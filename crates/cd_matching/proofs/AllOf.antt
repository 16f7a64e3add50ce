-- Facts of all the things in a list, and of one of them.
use Rattle.std.proofs.Common.{◌≡◌, List, [], ◌∷◌, map, inl, inr, refl}
use Rattle.cd_model.specs.AllOf.{AllOf, AnyOf}

-- a fact of what is made of each thing
pub all_map : {X Y : Type 0} (P : X → Type 0) (Q : Y → Type 0) (f : X → Y)
    → ((x : X) → P x → Q (f x)) → (xs : List X) → AllOf P xs → AllOf Q (map f xs)
all_map P Q f follows [] all = tt
all_map P Q f follows (x ∷ xs) all = (follows x all.0, all_map P Q f follows xs all.1)

-- the thing that has the fact is in the list
pub any_is_one : {X Y : Type 0} (P : X → Type 0) (xs : List X)
    → (meets : (x : X) → P x → AnyOf (λ other. other ≡ x) xs → Y) → AnyOf P xs → Y
any_is_one P [] meets any = absurd any
any_is_one P (x ∷ xs) meets (inl fact) = meets x fact (inl refl)
any_is_one P (x ∷ xs) meets (inr later) =
    any_is_one P xs (λ other fact among. meets other fact (inr among)) later
