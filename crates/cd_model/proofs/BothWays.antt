-- Facts that hold of each other, and what is made of them by words of logic.
use Rattle.std.proofs.Common.{◌≡◌, Bool, true, false, ◌⊎◌, inl, inr, ◌↔◌, ◌∙◌, sym}
use Rattle.cd_model.specs.Types.{chosen}

pub itself : {A : Type 0} → A ↔ A
itself = (λ a. a, λ a. a)

pub turned : {A B : Type 0} → A ↔ B → B ↔ A
turned both = (both.1, both.0)

pub through : {A B C : Type 0} → A ↔ B → B ↔ C → A ↔ C
through first second = (λ a. second.0 (first.0 a), λ c. first.1 (second.1 c))

-- two things that are the same are both this one, or neither is
pub same_as : {X : Type 0} {one other : X} (answer : X) → one ≡ other → (one ≡ answer) ↔ (other ≡ answer)
same_as answer same = (λ e. sym same ∙ e, λ e. same ∙ e)

-- what both say, and what one of two says
pub both_agree : {A B C D : Type 0} → A ↔ B → C ↔ D → (A × C) ↔ (B × D)
both_agree first second = (λ h. (first.0 h.0, second.0 h.1), λ h. (first.1 h.0, second.1 h.1))

pub three_agree : {A B C D E F : Type 0} → A ↔ B → C ↔ D → E ↔ F → (A × C × E) ↔ (B × D × F)
three_agree first second third =
    (λ h. (first.0 h.0, second.0 h.1, third.0 h.2), λ h. (first.1 h.0, second.1 h.1, third.1 h.2))

on_either : {A B C D : Type 0} → (A → B) → (C → D) → A ⊎ C → B ⊎ D
on_either first second (inl a) = inl (first a)
on_either first second (inr c) = inr (second c)

pub one_agrees : {A B C D : Type 0} → A ↔ B → C ↔ D → (A ⊎ C) ↔ (B ⊎ D)
one_agrees first second = (on_either first.0 second.0, on_either first.1 second.1)

-- what holds of every thing, and of one
pub each_agrees : {X : Type 0} (P Q : X → Type 0) → ((x : X) → P x ↔ Q x) → ((x : X) → P x) ↔ ((x : X) → Q x)
each_agrees P Q agree = (λ h x. (agree x).0 (h x), λ h x. (agree x).1 (h x))

pub some_agrees : {X : Type 0} (P Q : X → Type 0) → ((x : X) → P x ↔ Q x) → ((x : X) × P x) ↔ ((x : X) × Q x)
some_agrees P Q agree = (λ h. (h.0, (agree h.0).0 h.1), λ h. (h.0, (agree h.0).1 h.1))

-- what follows from the same
pub follows : {A B C : Type 0} → (A → B ↔ C) → (A → B) ↔ (A → C)
follows agree = (λ h a. (agree a).0 (h a), λ h a. (agree a).1 (h a))

pub none_agrees : {A B : Type 0} → A ↔ B → (A → ⊥) ↔ (B → ⊥)
none_agrees agree = (λ h b. h (agree.1 b), λ h a. h (agree.0 a))

-- what a test chooses
pub chosen_agree : (b : Bool) {A B C D : Type 0} → A ↔ B → C ↔ D → chosen b A C ↔ chosen b B D
chosen_agree true first second = first
chosen_agree false first second = second

-- one way alone
pub on_chosen : (b : Bool) {A B C D : Type 0} → (A → C) → (B → D) → chosen b A B → chosen b C D
on_chosen true first second h = first h
on_chosen false first second h = second h
