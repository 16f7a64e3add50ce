-- What is answered of two tests together, by what is answered of each.
use Rattle.std.proofs.Common.{◌≡◌, ℕ, Bool, true, false, ◌⊎◌, inl, inr, List, Option, Some, None}
use Rattle.std.proofs.Common.{is_some, option_map, refl}
use Rattle.cd_syntax.specs.Name.{Name}
use Rattle.cd_model.specs.Thing.{Thing}
use Rattle.cd_matching.specs.Captures.{Captures, or_else, both, if_so}
use Rattle.cd_matching.specs.Kernel.{gathered, by_name}

pub is_some_so : (K : Type 0) (b : Bool) → is_some (if_so {K = K} b) ≡ b
is_some_so K true = refl
is_some_so K false = refl

pub both_answer : {K : Type 0} (A B C : Bool → Type 0) (one other : Option (Captures K))
    → A (is_some one) → B (is_some other) → (A true → B true → C true)
    → (A false ⊎ B false → C false) → C (is_some (both one other))
both_answer A B C (Some c) (Some d) one other yes_ no_ = yes_ one other
both_answer A B C (Some c) None one other yes_ no_ = no_ (inr other)
both_answer A B C None e one other yes_ no_ = no_ (inl one)

pub or_answer : {K : Type 0} (A B C : Bool → Type 0) (one other : Option (Captures K))
    → A (is_some one) → B (is_some other) → (A true ⊎ B true → C true)
    → (A false → B false → C false) → C (is_some (or_else one other))
or_answer A B C (Some c) e one other yes_ no_ = yes_ (inl one)
or_answer A B C None (Some d) one other yes_ no_ = yes_ (inr other)
or_answer A B C None None one other yes_ no_ = no_ one other

pub gathered_answer : (A B C : Bool → Type 0) (by : ℕ) (d : Thing)
    (one other : Option (Captures ℕ)) → A (is_some one) → B (is_some other)
    → (A true → B true → C true) → (A false ⊎ B false → C false)
    → C (is_some (gathered by d one other))
gathered_answer A B C by d (Some c) (Some e) one other yes_ no_ = yes_ one other
gathered_answer A B C by d (Some c) None one other yes_ no_ = no_ (inr other)
gathered_answer A B C by d None e one other yes_ no_ = no_ (inl one)

pub named_answer : (variables : List Name) (o : Option (Captures ℕ))
    → is_some (option_map (by_name variables) o) ≡ is_some o
named_answer variables None = refl
named_answer variables (Some captures) = refl
