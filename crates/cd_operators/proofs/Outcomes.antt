-- What follows of a result from two clauses of a call.
use Rattle.std.proofs.Common.{◌≡◌, ◌∙◌, ◌⊎◌, inl, inr, subst, Bool, not, IsTrue, Option, Some, None, Result, Ok, Err}
use Rattle.std.proofs.Common.{IfOk, OnOk, MatchOption, ap, sym, false, true≢false}
use Rattle.std.specs.Option.{is_some}

pub both_ok : {T E : Type 0} (result : Result T E) (P R : T → Type 0) (Q : Type 0)
    → ((x : T) → P x → Q → R x) → IfOk result P → OnOk result Q → IfOk result R
both_ok (Ok x) P R Q leads one other = leads x one other
both_ok (Err e) P R Q leads one other = tt

-- both facts
pub on_ok_both : {T E : Type 0} (result : Result T E) (P Q : Type 0) → OnOk result P
    → OnOk result Q → OnOk result (P × Q)
on_ok_both result P Q one other =
    both_ok result (λ _. P) (λ _. P × Q) Q (λ x first second. (first, second)) one other

-- what holds where nothing was found
pub nothing_found : {X P : Type 0} (found : Option X) (Q : X → Type 0) (none : Bool)
    → is_some found ≡ not none → IsTrue none → MatchOption found P Q → P
nothing_found None Q none same is holds = holds
nothing_found (Some x) Q none same is holds = absurd (true≢false (same ∙ ap not is))

-- and what was found
pub something_found : {X : Type 0} (P : Type 0) (found : Option X) (Q : X → Type 0) (none : Bool)
    → is_some found ≡ not none → none ≡ false → MatchOption found P Q → (x : X) × Q x
something_found P None Q none same is holds = absurd (true≢false (sym (same ∙ ap not is)))
something_found P (Some x) Q none same is holds = (x, holds)

-- what holds of two things holds of one that is one of them
pub of_either : {X : Type 0} (P : X → Type 0) (x one other : X) → (x ≡ one) ⊎ (x ≡ other)
    → P one → P other → P x
of_either P x one other (inl is) first second = subst P (sym is) first
of_either P x one other (inr is) first second = subst P (sym is) second
