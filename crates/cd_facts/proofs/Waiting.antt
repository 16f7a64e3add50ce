-- Memberships of which each waits for the next one: their elements' numbers fall, and none of them is known.
use Rattle.std.proofs.Common.{◌≡◌, ◌<◌, ◌≤◌, ◌+◌, ◌*◌, ◌-◌, ℕ, suc, Bool, List, [], ◌∷◌, ◌++◌, None, ap, refl, arith}
use Rattle.std.proofs.Math.Nat.{suc-mul}
use Rattle.cd_facts.specs.declared.membership.Membership.{Membership}
use Rattle.cd_facts.specs.Facts.{Fact}
use Rattle.cd_facts.specs.Inner.Known.{known}
use Rattle.cd_facts.proofs.FactsKept.{still_unknown}

-- each is below the one before it, and the first below a bound
abbrev pub Fall : List Fact → (size bound : ℕ) → List Membership → Type 0
Fall facts size bound [] = Unit {0}
Fall facts size bound (asked ∷ rest) =
    (asked.id.0 < bound) × (asked.node.0 < size) × (known facts asked.id asked.node ≡ None) × Fall facts size asked.id.0 rest

-- what is so of the last one
pub last_falls : (facts : List Fact) (size bound : ℕ) (waiting : List Membership) (last : Membership)
    → Fall facts size bound (waiting ++ last ∷ [])
    → (last.id.0 < bound) × (last.node.0 < size) × (known facts last.id last.node ≡ None)
last_falls facts size bound [] last fall = (fall.0, fall.1, fall.2)
last_falls facts size bound (asked ∷ waiting) last fall =
    let on = last_falls facts size asked.id.0 waiting last fall.3 in (omega (arith, on.0, fall.0), on.1, on.2)

-- one more waits for its part
pub falls_further : (facts : List Fact) (size bound : ℕ) (waiting : List Membership) (last part : Membership)
    → Fall facts size bound (waiting ++ last ∷ []) → part.id.0 < last.id.0 → part.node.0 < size
    → known facts part.id part.node ≡ None
    → Fall facts size bound ((waiting ++ last ∷ []) ++ part ∷ [])
falls_further facts size bound [] last part fall below within unknown = (fall.0, fall.1, fall.2, (below, within, unknown, tt))
falls_further facts size bound (asked ∷ waiting) last part fall below within unknown =
    (fall.0, fall.1, fall.2, falls_further facts size asked.id.0 waiting last part fall.3 below within unknown)

-- the last one is known, and then those before it wait
pub falls_back : (facts : List Fact) (size bound : ℕ) (waiting : List Membership) (last : Membership) (answer : Bool)
    → Fall facts size bound (waiting ++ last ∷ [])
    → Fall (facts ++ (last, answer) ∷ []) size bound waiting
falls_back facts size bound [] last answer fall = tt
falls_back facts size bound (asked ∷ waiting) last answer fall =
    let below = (last_falls facts size asked.id.0 waiting last fall.3).0 in (
      fall.0,
      fall.1,
      still_unknown facts last answer asked.id asked.node below fall.2,
      falls_back facts size asked.id.0 waiting last answer fall.3,
    )

-- the one that was asked first
abbrev pub asked_first : List Membership → Membership → Membership
asked_first [] current = current
asked_first (asked ∷ waiting) current = asked

pub first_stays : (waiting : List Membership) (current other : Membership)
    → asked_first (waiting ++ current ∷ []) other ≡ asked_first waiting current
first_stays [] current other = refl
first_stays (asked ∷ waiting) current other = refl

-- each step adds a fact, of which there are at most so many, or goes on at an element with a smaller number
abbrev pub steps_left : (most size facts top : ℕ) → ℕ
steps_left most size facts top = (most - facts) * suc size + top

pub fewer_steps : (most size facts top then_top : ℕ) → facts < most → then_top ≤ size
    → steps_left most size (suc facts) then_top < steps_left most size facts top
fewer_steps most size facts top then_top less small = by_rest (most - suc facts) (most - facts) (one_less less)
  where
    one_less : facts < most → most - facts ≡ suc (most - suc facts)
    one_less less = omega arith

    by_rest : (rest whole : ℕ) → whole ≡ suc rest → rest * suc size + then_top < whole * suc size + top
    by_rest rest whole same = let times = suc-mul rest (suc size) in let more = ap (λ n. n * suc size) same in omega arith
