-- The items and the rows of each part of an expression stand among those of the whole, from the
-- number of the items before the part on.
use Rattle.std.proofs.Common.{◌≡◌, ℕ, ◌+◌, List, ◌∷◌, ◌++◌, length, Some, refl, ap₂}
use Rattle.std.proofs.Common.{subst, ◌∙◌, arith, length-append}
use Rattle.std.specs.List.{slice_get}
use Rattle.cd_model.proofs.ByNumber.{got_more, got_after}
use Rattle.cd_syntax.specs.Name.{Name}
use Rattle.cd_matching.specs.Pattern as pattern
use Rattle.cd_matching.specs.Pattern.{Regular, Regulars, NoRegular, ARegular}
use Rattle.cd_moves.specs.Automaton.{Move, instead, items_in, items_in_all, turns, first_moves}
use Rattle.cd_moves.specs.Automaton.{first_moves_in_turn, states, states_in_turn, states_of_one}
use Rattle.cd_moves.specs.Automaton.{items_of, items_of_all}

-- these stand in a list from a number on
abbrev pub Stand : {A : Type 0} → (all : List A) → ℕ → List A → Type 0
Stand {A} all before some =
    (k : ℕ) (a : A) → slice_get some k ≡ Some a → slice_get all (before + k) ≡ Some a

pub stand_whole : {A : Type 0} (all : List A) → Stand all 0 all
stand_whole all k a h = subst (λ n. slice_get all n ≡ Some a) (no_more k) h
  where
    no_more : (k : ℕ) → k ≡ 0 + k
    no_more k = omega arith

pub first_stands : {A : Type 0} (all : List A) (before : ℕ) (a : A) (some : List A)
    → Stand all before (a ∷ some) → slice_get all before ≡ Some a
first_stands all before a some stand =
    subst (λ n. slice_get all n ≡ Some a) (none_more before) (stand 0 a refl)
  where
    none_more : (n : ℕ) → n + 0 ≡ n
    none_more n = omega arith

pub stand_left : {A : Type 0} (all : List A) (before : ℕ) (xs ys : List A)
    → Stand all before (xs ++ ys) → Stand all before xs
stand_left all before xs ys stand k a h = stand k a (got_more xs ys k a h)

pub stand_right : {A : Type 0} (all : List A) (before : ℕ) (xs ys : List A) (count : ℕ)
    → length xs ≡ count → Stand all before (xs ++ ys) → Stand all (before + count) ys
stand_right all before xs ys count long stand k a h =
    subst (λ n. slice_get all n ≡ Some a) (regroup before count (length xs) k long)
    (stand (length xs + k) a (got_after xs ys k ∙ h))
  where
    regroup : (before count n k : ℕ) → n ≡ count → before + (n + k) ≡ before + count + k
    regroup before count n k long = omega (arith, long)

-- one entry and one row for each item
mutual
  pub items_long : {T : Type 0} (around : List Name) (r : Regular T)
      → length (items_of around r) ≡ items_in r
  items_long around pattern.Nothing = refl
  items_long around (pattern.Item p) = refl
  items_long around (pattern.Seq all) = all_items_long around all
  items_long around (pattern.Alt all) = all_items_long around all
  items_long around (pattern.Repeat r post) = items_long around r
  items_long around (pattern.Capture name r) = items_long (name ∷ around) r

  all_items_long : {T : Type 0} (around : List Name) (all : Regulars T)
      → length (items_of_all around all) ≡ items_in_all all
  all_items_long around NoRegular = refl
  all_items_long around (ARegular first rest) =
      length-append (items_of around first) (items_of_all around rest)
      ∙ ap₂ (λ a b. a + b) (items_long around first) (all_items_long around rest)

mutual
  pub states_long : {T : Type 0} (r : Regular T) (before : ℕ) (next : List Move)
      → length (states r before next) ≡ items_in r
  states_long pattern.Nothing before next = refl
  states_long (pattern.Item p) before next = refl
  states_long (pattern.Seq all) before next = turn_long all before next
  states_long (pattern.Alt all) before next = one_long all before next
  states_long (pattern.Repeat r post) before next =
      states_long r before (instead (turns post (first_moves r before)) next)
  states_long (pattern.Capture name r) before next = states_long r before next

  turn_long : {T : Type 0} (all : Regulars T) (before : ℕ) (next : List Move)
      → length (states_in_turn all before next) ≡ items_in_all all
  turn_long NoRegular before next = refl
  turn_long (ARegular first rest) before next =
      length-append
      (states first before (instead (first_moves_in_turn rest (before + items_in first)) next))
      (states_in_turn rest (before + items_in first) next)
      ∙ ap₂ (λ a b. a + b)
      (states_long first before (instead (first_moves_in_turn rest (before + items_in first)) next))
      (turn_long rest (before + items_in first) next)

  one_long : {T : Type 0} (all : Regulars T) (before : ℕ) (next : List Move)
      → length (states_of_one all before next) ≡ items_in_all all
  one_long NoRegular before next = refl
  one_long (ARegular first rest) before next =
      length-append (states first before next)
      (states_of_one rest (before + items_in first) next)
      ∙ ap₂ (λ a b. a + b) (states_long first before next)
      (one_long rest (before + items_in first) next)
