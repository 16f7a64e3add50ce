-- Facts of the members of lists by their places.
use Rattle.std.proofs.Common.{◌≡◌, inl, inr, ℕ, zero, suc, ◌+◌, ◌<◌, Bool, true, false, List, [], ◌∷◌, length, get_or}
use Rattle.std.proofs.Common.{take, map, slice_get, Option, Some, None, refl, ap, sym, ◌∙◌, subst, arith}
use Rattle.std.proofs.lemmas.List.{take_more}
use Rattle.std.specs.Borrow.{Bor}
use Rattle.std.specs.Option.{option_map}
use Rattle.std.specs.Slice.{IsItemAt}
use Rattle.std.proofs.lemmas.Option.{slice_get-get_or, slice_get_past}
use Rattle.cd_model.specs.AllOf.{AllOf}
use Rattle.cd_model.proofs.Ones.{each_of_lists}
use Rattle.cd_members.specs.Held.{IsSoAt}
use Rattle.cd_members.specs.Inner.Holding.{IsPlace, AddsPlace}

-- what holds of each holds of that at a place
pub each_at : {X : Type 0} (fact : X → Type 0) (all : List X) (place : ℕ) (default : X) → AllOf fact all → place < length all
    → fact (get_or all place default)
each_at fact [] place default each within = absurd (omega arith)
each_at fact (one ∷ all) zero default each within = each.0
each_at fact (one ∷ all) (suc place) default each within = each_at fact all place default each.1 (omega arith)

-- a fact that is so of no member before a place is so of none before the next
pub none_of_more : {X : Type 0} (fact : X → Bool → Type 0) (members : List X) (place : ℕ) (default : X) → place < length members
    → AllOf (λ x. fact x false) (take place members) → fact (get_or members place default) false
    → AllOf (λ x. fact x false) (take (place + 1) members)
none_of_more fact members place default within before here =
    subst (AllOf (λ x. fact x false)) (sym (take_more members place default within))
    (each_of_lists (λ x. fact x false) (take place members) (get_or members place default ∷ []) before (here, tt))

-- the place of a member of which it is so
pub place_here : {X : Type 0} (fact : X → Bool → Type 0) (members : List X) (place : ℕ) (default : X) → place < length members
    → fact (get_or members place default) true → IsPlace fact members (Some place)
place_here fact members place default within is = (get_or members place default, slice_get-get_or members place default within, is)

-- so it is of the members at some places, and at one more if it is so there
pub more_places : {X : Type 0} (fact : X → Bool → Type 0) (members : List X) (before after : List ℕ) (place : ℕ) (default : X)
    (held : Bool) → place < length members → AllOf (IsSoAt fact members) before → fact (get_or members place default) held
    → AddsPlace held place before after → AllOf (IsSoAt fact members) after
more_places fact members before after place default held within are is (inl same) = subst (AllOf (IsSoAt fact members)) (sym same) are
more_places fact members before after place default held within are is (inr (holds, more)) =
    subst (AllOf (IsSoAt fact members)) (sym more)
    (each_of_lists (IsSoAt fact members) before (place ∷ []) are (
      (
        get_or members place default,
        slice_get-get_or members place default within,
        subst (fact (get_or members place default)) holds is,
      ),
      tt,
    ))

-- what a look at a place finds
pub looked_up : {X : Type 0} (all : List X) (place : ℕ) (found : Option (Bor X)) → IsItemAt all place found
    → option_map (λ x. x.now) found ≡ slice_get all place
looked_up all place None is = sym (slice_get_past all place is.3)
looked_up all place (Some x) is = ap Some is.1 ∙ sym (slice_get-get_or all place x.now is.3.0)

-- what is made of the members, at a place
pub made_at : {X Y : Type 0} (f : X → Y) (all : List X) (place : ℕ) (x : X) → x ≡ get_or all place x
    → get_or (map f all) place (f x) ≡ f x
made_at {X} f all place x is = at_map all place ∙ ap f (sym is)
  where
    at_map : (all : List X) (place : ℕ) → get_or (map f all) place (f x) ≡ f (get_or all place x)
    at_map [] place = refl
    at_map (first ∷ all) zero = refl
    at_map (first ∷ all) (suc place) = at_map all place
