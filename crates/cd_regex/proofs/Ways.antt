-- What both of two things say and what one of them says, for both answers at once.
use Rattle.std.proofs.Common.{◌≡◌, Bool, true, false, inl, inr, refl, ◌↔◌}
use Rattle.cd_model.specs.Language.{both, some}

pub same : {A : Type 0} → A ↔ A
same = (λ a. a, λ a. a)

pub back : {A B : Type 0} → A ↔ B → B ↔ A
back there = (there.1, there.0)

pub through : {A B C : Type 0} → A ↔ B → B ↔ C → A ↔ C
through one other = (λ a. other.0 (one.0 a), λ c. one.1 (other.1 c))

-- where the parts are the same, so is the whole
pub both_same : (answer : Bool) {A B C D : Type 0} → A ↔ B → C ↔ D → both answer A C ↔ both answer B D
both_same true one other = (λ h. (one.0 h.0, other.0 h.1), λ h. (one.1 h.0, other.1 h.1))
both_same false one other = (elim [ inl a ↦ inl (one.0 a) | inr c ↦ inr (other.0 c) ], elim [ inl b ↦ inl (one.1 b) | inr d ↦ inr (other.1 d) ])

pub some_same : (answer : Bool) {A B C D : Type 0} → A ↔ B → C ↔ D → some answer A C ↔ some answer B D
some_same true one other = both_same false one other
some_same false one other = both_same true one other

-- the order and the grouping do not count
pub some_swapped : (answer : Bool) (A B : Type 0) → some answer A B ↔ some answer B A
some_swapped true A B = (elim [ inl a ↦ inr a | inr b ↦ inl b ], elim [ inl b ↦ inr b | inr a ↦ inl a ])
some_swapped false A B = (λ h. (h.1, h.0), λ h. (h.1, h.0))

pub both_grouped : (answer : Bool) (A B C : Type 0) → both answer A (both answer B C) ↔ both answer (both answer A B) C
both_grouped true A B C = (λ h. ((h.0, h.1.0), h.1.1), λ h. (h.0.0, (h.0.1, h.1)))
both_grouped false A B C = (
  elim [ inl a ↦ inl (inl a) | inr (inl b) ↦ inl (inr b) | inr (inr c) ↦ inr c ],
  elim [ inl (inl a) ↦ inl a | inl (inr b) ↦ inr (inl b) | inr c ↦ inr (inr c) ],
)

pub some_grouped : (answer : Bool) (A B C : Type 0) → some answer A (some answer B C) ↔ some answer (some answer A B) C
some_grouped true A B C = both_grouped false A B C
some_grouped false A B C = both_grouped true A B C

-- the inner two of four change places
pub some_exchanged : (answer : Bool) (A B C D : Type 0)
    → some answer (some answer A B) (some answer C D) ↔ some answer (some answer A C) (some answer B D)
some_exchanged true A B C D = (
  elim [ inl (inl a) ↦ inl (inl a) | inl (inr b) ↦ inr (inl b) | inr (inl c) ↦ inl (inr c) | inr (inr d) ↦ inr (inr d) ],
  elim [ inl (inl a) ↦ inl (inl a) | inl (inr c) ↦ inr (inl c) | inr (inl b) ↦ inl (inr b) | inr (inr d) ↦ inr (inr d) ],
)
some_exchanged false A B C D = (λ h. ((h.0.0, h.1.0), (h.0.1, h.1.1)), λ h. ((h.0.0, h.1.0), (h.0.1, h.1.1)))

-- each of the two goes over the other
pub both_over_some : (answer : Bool) (A B C : Type 0)
    → both answer A (some answer B C) ↔ some answer (both answer A B) (both answer A C)
both_over_some true A B C = (
  λ h. elim h.1 [ inl b ↦ inl (h.0, b) | inr c ↦ inr (h.0, c) ],
  elim [ inl h ↦ (h.0, inl h.1) | inr h ↦ (h.0, inr h.1) ],
)
both_over_some false A B C = (
  elim [ inl a ↦ (inl a, inl a) | inr h ↦ (inr h.0, inr h.1) ],
  λ h. elim h.0 [ inl a ↦ inl a | inr b ↦ elim h.1 [ inl a ↦ inl a | inr c ↦ inr (b, c) ] ],
)

pub some_over_both : (answer : Bool) (A B C : Type 0)
    → both answer (some answer A B) C ↔ some answer (both answer A C) (both answer B C)
some_over_both true A B C = (
  λ h. elim h.0 [ inl a ↦ inl (a, h.1) | inr b ↦ inr (b, h.1) ],
  elim [ inl h ↦ (inl h.0, h.1) | inr h ↦ (inr h.0, h.1) ],
)
some_over_both false A B C = (
  elim [ inl h ↦ (inl h.0, inl h.1) | inr c ↦ (inr c, inr c) ],
  λ h. elim h.0 [ inr c ↦ inr c | inl a ↦ elim h.1 [ inl b ↦ inl (a, b) | inr c ↦ inr c ] ],
)

-- what is never so, and what is always so
pub some_or_never : (answer : Bool) (A : Type 0) → some answer A (answer ≡ false) ↔ A
some_or_never true A = (elim [ inl a ↦ a | inr is ↦ cc ], λ a. inl a)
some_or_never false A = (λ h. h.0, λ a. (a, refl))

pub never_or_some : (answer : Bool) (A : Type 0) → some answer (answer ≡ false) A ↔ A
never_or_some answer A = through (some_swapped answer (answer ≡ false) A) (some_or_never answer A)

pub both_never : (answer : Bool) (A : Type 0) → both answer (answer ≡ false) A ↔ (answer ≡ false)
both_never true A = (λ h. h.0, λ is. cc)
both_never false A = (λ h. refl, λ is. inl refl)

pub both_and_never : (answer : Bool) (A : Type 0) → both answer A (answer ≡ false) ↔ (answer ≡ false)
both_and_never true A = (λ h. h.1, λ is. cc)
both_and_never false A = (λ h. refl, λ is. inr refl)

pub both_always : (answer : Bool) (A : Type 0) → both answer (answer ≡ true) A ↔ A
both_always true A = (λ h. h.1, λ a. (refl, a))
both_always false A = (elim [ inl is ↦ cc | inr a ↦ a ], λ a. inr a)

pub both_and_always : (answer : Bool) (A : Type 0) → both answer A (answer ≡ true) ↔ A
both_and_always true A = (λ h. h.0, λ a. (a, refl))
both_and_always false A = (elim [ inl a ↦ a | inr is ↦ cc ], λ a. inl a)

pub some_always : (answer : Bool) (A : Type 0) → some answer (answer ≡ true) A ↔ (answer ≡ true)
some_always true A = (λ h. refl, λ is. inl refl)
some_always false A = (λ h. h.0, λ is. cc)

-- what needs the other too adds nothing to it
pub some_absorbed : (answer : Bool) (A B : Type 0) → some answer (both answer A B) B ↔ B
some_absorbed true A B = (elim [ inl h ↦ h.1 | inr b ↦ b ], λ b. inr b)
some_absorbed false A B = (λ h. h.1, λ b. (inr b, b))
