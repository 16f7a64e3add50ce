-- Answers that stand against each other: not both, and one of both.
use Rattle.std.proofs.Common.{◌≡◌, Bool, true, false, ◌⊎◌, inl, inr, sym, ◌∙◌}
use Rattle.std.proofs.lemmas.Bool.{true≢false}
use Rattle.cd_model.specs.Types.{chosen}

pub one_outcome : (b : Bool) → b ≡ true → b ≡ false → ⊥
one_outcome b is out = true≢false (sym is ∙ out)

pub both_apart : {A B C D : Type 0} → (A → B → ⊥) → (C → D → ⊥) → A × C → B ⊎ D → ⊥
both_apart first second both (inl b) = first both.0 b
both_apart first second both (inr d) = second both.1 d

pub chosen_apart : (b : Bool) {A B C D : Type 0} → (A → B → ⊥) → (C → D → ⊥) → chosen b A C → chosen b B D → ⊥
chosen_apart true one other is out = one is out
chosen_apart false one other is out = other is out

pub maps_apart : {A B C D E F : Type 0} → (A → B → ⊥) → (C → D → ⊥) → (E → F → ⊥) → ((B ⊎ C) × E) → ((A × D) ⊎ F) → ⊥
maps_apart first second rest is (inr later) = rest is.1 later
maps_apart first second rest (inl outside, rest_is) (inl miss) = first miss.0 outside
maps_apart first second rest (inr inside, rest_is) (inl miss) = second inside miss.1

pub swapped : {A B : Type 0} → A ⊎ B → B ⊎ A
swapped (inl a) = inr a
swapped (inr b) = inl b

-- both hold, or one of those that stand against them
pub both_or : {A B C D : Type 0} → A ⊎ B → C ⊎ D → (A × C) ⊎ (B ⊎ D)
both_or (inl a) (inl c) = inl (a, c)
both_or (inl a) (inr d) = inr (inr d)
both_or (inr b) other = inr (inl b)

-- one holds, or both of those that stand against them
pub one_or : {A B C D : Type 0} → A ⊎ B → C ⊎ D → (A ⊎ C) ⊎ (B × D)
one_or (inl a) other = inl (inl a)
one_or (inr b) (inl c) = inl (inr c)
one_or (inr b) (inr d) = inr (b, d)

pub chosen_decided : (b : Bool) {A B C D : Type 0} → A ⊎ B → C ⊎ D → chosen b A C ⊎ chosen b B D
chosen_decided true one other = one
chosen_decided false one other = other

-- a pair maps where its argument is outside or its result is in
pub maps_or : {A B C D E F : Type 0} → A ⊎ B → C ⊎ D → E ⊎ F → ((B ⊎ C) × E) ⊎ ((A × D) ⊎ F)
maps_or (inl a) (inl c) (inl e) = inl (inr c, e)
maps_or (inr b) other (inl e) = inl (inl b, e)
maps_or (inl a) (inr d) rest = inr (inl (a, d))
maps_or (inl a) (inl c) (inr f) = inr (inr f)
maps_or (inr b) other (inr f) = inr (inr f)
