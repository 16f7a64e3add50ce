-- A list whose members differ is no longer than one that has them all.
use Rattle.std.proofs.Common.{◌≡◌, ◌≤◌, ◌+◌, ◌⊎◌, suc, List, [], ◌∷◌, length, inl, inr, refl, sym, ap, subst}
use native.Mathlib.Omega.{arith}
use Rattle.cd_model.specs.AllOf.{AnyOf}
use Rattle.cd_rules.specs.Family.{AreAmong}
use Rattle.cd_rules.specs.Tasks.{Takes, taken_here, taken_later, TakesAll, takes_none, takes_one}
use Rattle.cd_rules.specs.Machine.{NotIn}
use Rattle.cd_rules.specs.Right.{Differ}

-- what is taken out was one
pub taken_length : {X : Type 0} (x : X) (all rest : List X) → Takes x all rest → length all ≡ suc (length rest)
taken_length x _ _ (taken_here rest) = refl
taken_length x _ _ (taken_later other all rest taken) = ap suc (taken_length x all rest taken)

pub all_taken_length : {X : Type 0} (some all rest : List X) → TakesAll some all rest → length all ≡ length some + length rest
all_taken_length _ _ _ (takes_none all) = omega arith
all_taken_length _ _ _ (takes_one x some all fewer rest taken more) =
    let one = taken_length x all fewer taken in let others = all_taken_length some fewer rest more in omega arith

module _ {X : Type 0} (x : X) where
  -- one of a list may be taken out
  can_be_taken : (all : List X) → AnyOf (λ other. other ≡ x) all → (rest : List X) × Takes x all rest
  can_be_taken [] there = elim there [ ]
  can_be_taken (y ∷ all) (inl same) = (all, subst (λ y. Takes x (y ∷ all) all) (sym same) (taken_here all))
  can_be_taken (y ∷ all) (inr there) = let taken = can_be_taken all there in (y ∷ taken.0, taken_later y all taken.0 taken.1)

  -- each other one is one of the rest
  taken_or_left : (y : X) (all rest : List X) → Takes x all rest → AnyOf (λ other. other ≡ y) all
      → (x ≡ y) ⊎ AnyOf (λ other. other ≡ y) rest
  taken_or_left y _ _ (taken_here rest) there = there
  taken_or_left y _ _ (taken_later other all rest taken) (inl same) = inr (inl same)
  taken_or_left y _ _ (taken_later other all rest taken) (inr there) = further (taken_or_left y all rest taken there)
    where
      further : (x ≡ y) ⊎ AnyOf (λ other. other ≡ y) rest → (x ≡ y) ⊎ AnyOf (λ other. other ≡ y) (other ∷ rest)
      further (inl same) = inl same
      further (inr is) = inr (inr is)

  among_rest : (some all rest : List X) → Takes x all rest → NotIn some x → AreAmong some all → AreAmong some rest
  among_rest [] all rest taken none among = tt
  among_rest (y ∷ some) all rest taken none among = (
    by_side (taken_or_left y all rest taken among.0),
    among_rest some all rest taken (λ there. none (inr there)) among.1,
  )
    where
      by_side : (x ≡ y) ⊎ AnyOf (λ other. other ≡ y) rest → AnyOf (λ other. other ≡ y) rest
      by_side (inl same) = absurd (none (inl (sym same)))
      by_side (inr there) = there

pub no_longer : {X : Type 0} (some all : List X) → Differ some → AreAmong some all → length some ≤ length all
no_longer [] all differ among = omega arith
no_longer (x ∷ some) all differ among =
    let taken = can_be_taken x all among.0 in
    let rest = no_longer some taken.0 differ.1 (among_rest x some all taken.0 taken.1 differ.0 among.1) in
    let one = taken_length x all taken.0 taken.1 in omega arith
