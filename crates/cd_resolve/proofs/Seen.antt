-- What is seen when one number more is.
use Rattle.std.proofs.Common.{◌≡◌, ℕ, zero, suc, ◌+◌, ◌<◌, ◌⊎◌, inl, inr, Bool, true, false, List, [], ◌∷◌, length}
use Rattle.std.proofs.Common.{refl, ap, get_or, set, arith}
use Rattle.cd_resolve.specs.Inner.Order.{row}
use Rattle.cd_resolve.specs.Inner.Search.{IsSeen, AreKept, unseen_steps}

-- what was seen is still seen when one number more is
still_seen : (seen : List Bool) (number other : ℕ) → IsSeen seen other → IsSeen (set seen number true) other
still_seen [] number other is = is
still_seen (one ∷ seen) zero zero is = refl
still_seen (one ∷ seen) zero (suc other) is = is
still_seen (one ∷ seen) (suc number) zero is = is
still_seen (one ∷ seen) (suc number) (suc other) is = still_seen seen number other is

-- so all that was seen is kept
pub kept_with : (seen : List Bool) (number : ℕ) → AreKept seen (set seen number true)
kept_with seen number = record { still = still_seen seen number }

-- the number itself is
pub is_seen_now : (seen : List Bool) (number : ℕ) → number < length seen → IsSeen (set seen number true) number
is_seen_now [] number within = absurd (omega arith)
is_seen_now (one ∷ seen) zero within = refl
is_seen_now (one ∷ seen) (suc number) within = is_seen_now seen number (omega arith)

-- and nothing else
pub seen_before : (seen : List Bool) (number other : ℕ) → IsSeen (set seen number true) other
    → IsSeen seen other ⊎ (number ≡ other)
seen_before [] number other is = inl is
seen_before (one ∷ seen) zero zero is = inr refl
seen_before (one ∷ seen) zero (suc other) is = inl is
seen_before (one ∷ seen) (suc number) zero is = inl is
seen_before (one ∷ seen) (suc number) (suc other) is = by (seen_before seen number other is)
  where
    by : IsSeen seen other ⊎ (number ≡ other) → IsSeen seen other ⊎ (suc number ≡ suc other)
    by (inl before) = inl before
    by (inr same) = inr (ap suc same)

-- where one number more is seen, those that are not can take fewer steps
pub fewer_unseen : (links : List (List ℕ)) (seen : List Bool) (number : ℕ) → number < length seen
    → length seen ≡ length links → get_or seen number false ≡ false
    → unseen_steps links (set seen number true) + (length (row links number) + 2) ≡ unseen_steps links seen
fewer_unseen [] [] number within sized new = absurd (omega arith)
fewer_unseen [] (one ∷ seen) number within sized new = absurd (omega arith)
fewer_unseen (row ∷ links) [] number within sized new = absurd (omega arith)
fewer_unseen (row ∷ links) (true ∷ seen) zero within sized new = absurd cc
fewer_unseen (row ∷ links) (false ∷ seen) zero within sized new = omega arith
fewer_unseen (row ∷ links) (true ∷ seen) (suc number) within sized new = fewer_unseen links seen number (omega arith)
    (omega arith) new
fewer_unseen (row ∷ links) (false ∷ seen) (suc number) within sized new =
    let on = fewer_unseen links seen number (omega arith) (omega arith) new in omega arith
