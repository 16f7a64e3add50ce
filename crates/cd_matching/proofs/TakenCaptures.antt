-- What follows where the captures of a part, of two parts or of a choice are known.
use Rattle.std.proofs.Common.{◌≡◌, ◌≢◌, ℕ, Bool, true, false, ◌⊎◌, inl, inr, Option, Some, None}
use Rattle.std.proofs.Common.{option_map, refl, eqb, if◌then◌else◌}
use Rattle.std.proofs.lemmas.Bool.Decides.{eqb_tells}
use Rattle.std.proofs.lemmas.Option.{none-some, same_Some}
use Rattle.cd_model.specs.Thing.{Thing}
use Rattle.cd_matching.specs.Captures.{Captures, or_else, joined, both, if_so, nothing}
use Rattle.cd_matching.specs.Kernel.{just, before, gathered}

-- both take
pub both_some : {K : Type 0} (one other : Option (Captures K)) (all : Captures K)
    → both one other ≡ Some all
    → (first second : Captures K) × (one ≡ Some first) × (other ≡ Some second)
    × (joined first second ≡ all)
both_some (Some first) (Some second) all h =
    (first, second, refl, refl, same_Some (joined first second) all h)
both_some (Some first) None all h = absurd (none-some all h)
both_some None other all h = absurd (none-some all h)

-- the one does, or the other
pub or_else_some : {A : Type 0} (one other : Option A) (x : A) → or_else one other ≡ Some x
    → (one ≡ Some x) ⊎ ((one ≡ None) × (other ≡ Some x))
or_else_some (Some y) other x h = inl h
or_else_some None other x h = inr (refl, h)

pub if_some : {A : Type 0} (b : Bool) (one other : Option A) (x : A)
    → (if b then one else other) ≡ Some x
    → ((b ≡ true) × (one ≡ Some x)) ⊎ ((b ≡ false) × (other ≡ Some x))
if_some true one other x h = inl (refl, h)
if_some false one other x h = inr (refl, h)

pub just_some : (variable number : ℕ) (d what : Thing) → just variable d number ≡ Some what
    → (variable ≡ number) × (d ≡ what)
just_some variable number d what h =
    by_case (eqb_tells variable number) (if_some (eqb variable number) (Some d) None what h)
  where
    by_case : (((eqb variable number ≡ true) × (variable ≡ number))
        ⊎ ((eqb variable number ≡ false) × (variable ≢ number)))
        → ((eqb variable number ≡ true) × (Some d ≡ Some what))
        ⊎ ((eqb variable number ≡ false) × (None ≡ Some what))
        → (variable ≡ number) × (d ≡ what)
    by_case (inl same) (inl is) = (same.1, same_Some d what is.1)
    by_case (inr other) (inl is) = absurd cc
    by_case _ (inr is) = absurd (none-some what is.1)

pub if_so_nothing : {K : Type 0} (b : Bool) (all : Captures K) → if_so b ≡ Some all
    → nothing ≡ all
if_so_nothing true all h = same_Some nothing all h
if_so_nothing false all h = absurd (none-some all h)

pub option_map_some : {A B : Type 0} (f : A → B) (x : Option A) (y : B) → option_map f x ≡ Some y
    → (z : A) × (x ≡ Some z) × (f z ≡ y)
option_map_some f None y h = absurd (none-some y h)
option_map_some f (Some z) y h = (z, refl, same_Some (f z) y h)

-- a gathered pair
pub gathered_some : (variable : ℕ) (d : Thing) (one other : Option (Captures ℕ))
    (all : Captures ℕ) → gathered variable d one other ≡ Some all
    → (first second : Captures ℕ) × (one ≡ Some first) × (other ≡ Some second)
    × (joined first (before variable d second) ≡ all)
gathered_some variable d (Some first) (Some second) all h =
    (first, second, refl, refl, same_Some _ all h)
gathered_some variable d (Some first) None all h = absurd (none-some all h)
gathered_some variable d None other all h = absurd (none-some all h)
