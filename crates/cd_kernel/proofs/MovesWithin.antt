-- Each move of an automaton leads to an item of its expression.
use Rattle.std.proofs.Common.{◌≡◌, ◌+◌, ◌<◌, ◌≤◌, ℕ, List, [], ◌∷◌, ◌++◌, map}
use Rattle.std.proofs.Common.{Some, sym, subst, arith}
use Rattle.std.specs.List.{slice_get}
use Rattle.cd_syntax.specs.declared.type_tree.Post.{Post}
use Rattle.cd_syntax.specs.declared.type_tree.Post.TheVariants as post
use Rattle.cd_model.specs.AllOf.{AllOf}
use Rattle.cd_matching.specs.Pattern as pattern
use Rattle.cd_matching.specs.Pattern.{Regular, Regulars, NoRegular, ARegular}
use Rattle.cd_matching.proofs.Falling.{is_there}
use Rattle.cd_moves.specs.Automaton.{Move, End, To, instead, without_end, once}
use Rattle.cd_moves.specs.Automaton.{items_in, items_in_all, turns, first_turn, first_moves}
use Rattle.cd_moves.specs.Automaton.{first_moves_in_turn, first_moves_of_one, states, states_in_turn}
use Rattle.cd_moves.specs.Automaton.{states_of_one, items_of, rows_of, ItemOf}
use Rattle.cd_kernel.proofs.PartsStand.{items_long}
use Rattle.cd_kernel.proofs.PlainVariables.{all_once}

-- it leads to an item with a smaller number
abbrev IsBelow : ℕ → Move → Type 0
IsBelow high End = Unit {0}
IsBelow high (To place) = place < high

abbrev AreBelow : ℕ → List Move → Type 0
AreBelow high = AllOf (IsBelow high)

module _ (high : ℕ) where
  append_below : (xs ys : List Move) → AreBelow high xs → AreBelow high ys
      → AreBelow high (xs ++ ys)
  append_below [] ys first second = second
  append_below (x ∷ xs) ys first second = (first.0, append_below xs ys first.1 second)

  instead_below : (xs next : List Move) → AreBelow high xs → AreBelow high next
      → AreBelow high (instead xs next)
  instead_below [] next all more = tt
  instead_below (End ∷ xs) next all more =
      append_below next (instead xs next) more (instead_below xs next all.1 more)
  instead_below (To place ∷ xs) next all more = (all.0, instead_below xs next all.1 more)

  turns_below : (post : Post) (turn : List Move) → AreBelow high turn
      → AreBelow high (turns post turn)
  turns_below post.Star turn all =
      append_below (without_end turn) (End ∷ []) (instead_below turn [] all tt) (tt, tt)
  turns_below post.Plus turn all =
      append_below (without_end turn) (End ∷ []) (instead_below turn [] all tt) (tt, tt)
  turns_below post.LazyStar turn all = (tt, instead_below turn [] all tt)
  turns_below post.LazyPlus turn all = (tt, instead_below turn [] all tt)
  turns_below post.Opt turn all = (tt, tt)
  turns_below post.LazyOpt turn all = (tt, tt)

  first_below : (post : Post) (turn : List Move) → AreBelow high turn
      → AreBelow high (first_turn post turn)
  first_below post.Star turn all = turns_below post.Star turn all
  first_below post.LazyStar turn all = turns_below post.LazyStar turn all
  first_below post.Plus turn all =
      instead_below turn (turns post.Plus turn) all (turns_below post.Plus turn all)
  first_below post.LazyPlus turn all =
      instead_below turn (turns post.LazyPlus turn) all (turns_below post.LazyPlus turn all)
  first_below post.Opt turn all = append_below turn (End ∷ []) all (tt, tt)
  first_below post.LazyOpt turn all = (tt, all)

  rows_append : (xs ys : List (List Move)) → AllOf (AreBelow high) xs → AllOf (AreBelow high) ys
      → AllOf (AreBelow high) (xs ++ ys)
  rows_append [] ys first second = second
  rows_append (x ∷ xs) ys first second = (first.0, rows_append xs ys first.1 second)

  module _ {T : Type 0} where
    mutual
      first_moves_below : (r : Regular T) (before : ℕ) → before + items_in r ≤ high
          → AreBelow high (first_moves r before)
      first_moves_below pattern.Nothing before short = (tt, tt)
      first_moves_below (pattern.Item is) before short = (omega (arith, short), tt)
      first_moves_below (pattern.Seq all) before short = in_turn_below all before short
      first_moves_below (pattern.Alt all) before short = of_one_below all before short
      first_moves_below (pattern.Repeat is post) before short =
          first_below post (first_moves is before) (first_moves_below is before short)
      first_moves_below (pattern.Capture name is) before short = first_moves_below is before short

      in_turn_below : (all : Regulars T) (before : ℕ) → before + items_in_all all ≤ high
          → AreBelow high (first_moves_in_turn all before)
      in_turn_below NoRegular before short = (tt, tt)
      in_turn_below (ARegular first rest) before short = instead_below (first_moves first before)
          (first_moves_in_turn rest (before + items_in first))
          (first_moves_below first before (omega (arith, short)))
          (in_turn_below rest (before + items_in first) (omega (arith, short)))

      of_one_below : (all : Regulars T) (before : ℕ) → before + items_in_all all ≤ high
          → AreBelow high (first_moves_of_one all before)
      of_one_below NoRegular before short = tt
      of_one_below (ARegular first rest) before short = append_below (first_moves first before)
          (first_moves_of_one rest (before + items_in first))
          (first_moves_below first before (omega (arith, short)))
          (of_one_below rest (before + items_in first) (omega (arith, short)))

    mutual
      states_below : (r : Regular T) (before : ℕ) (next : List Move) → before + items_in r ≤ high
          → AreBelow high next → AllOf (AreBelow high) (states r before next)
      states_below pattern.Nothing before next short all = tt
      states_below (pattern.Item is) before next short all = (all, tt)
      states_below (pattern.Seq rs) before next short all = rows_in_turn rs before next short all
      states_below (pattern.Alt rs) before next short all = rows_of_one rs before next short all
      states_below (pattern.Repeat is post) before next short all =
          states_below is before (instead (turns post (first_moves is before)) next) short
          (instead_below (turns post (first_moves is before)) next
          (turns_below post (first_moves is before) (first_moves_below is before short)) all)
      states_below (pattern.Capture name is) before next short all =
          states_below is before next short all

      rows_in_turn : (rs : Regulars T) (before : ℕ) (next : List Move)
          → before + items_in_all rs ≤ high → AreBelow high next
          → AllOf (AreBelow high) (states_in_turn rs before next)
      rows_in_turn NoRegular before next short all = tt
      rows_in_turn (ARegular first rest) before next short all = rows_append
          (states first before (instead (first_moves_in_turn rest (before + items_in first)) next))
          (states_in_turn rest (before + items_in first) next)
          (states_below first before (instead (first_moves_in_turn rest (before + items_in first)) next)
          (omega (arith, short))
          (instead_below (first_moves_in_turn rest (before + items_in first)) next
          (in_turn_below rest (before + items_in first) (omega (arith, short))) all))
          (rows_in_turn rest (before + items_in first) next (omega (arith, short)) all)

      rows_of_one : (rs : Regulars T) (before : ℕ) (next : List Move)
          → before + items_in_all rs ≤ high → AreBelow high next
          → AllOf (AreBelow high) (states_of_one rs before next)
      rows_of_one NoRegular before next short all = tt
      rows_of_one (ARegular first rest) before next short all = rows_append
          (states first before next) (states_of_one rest (before + items_in first) next)
          (states_below first before next (omega (arith, short)) all)
          (rows_of_one rest (before + items_in first) next (omega (arith, short)) all)

  rows_once_below : (rows : List (List Move)) → AllOf (AreBelow high) rows
      → AllOf (AreBelow high) (map once rows)
  rows_once_below [] all = tt
  rows_once_below (row ∷ rows) all = (all_once (IsBelow high) row all.0, rows_once_below rows all.1)

-- it leads to an item that is there
abbrev pub LeadsWithin : {T : Type 0} → List (ItemOf T) → Move → Type 0
LeadsWithin {T} items End = Unit {0}
LeadsWithin {T} items (To place) = (of : ItemOf T) × (slice_get items place ≡ Some of)

module _ {T : Type 0} (r : Regular T) where
  within : (move : Move) → IsBelow (items_in r) move → LeadsWithin (items_of [] r) move
  within End below = tt
  within (To place) below = is_there (items_of [] r) place
      (subst (λ (count : ℕ). place < count) (sym (items_long [] r)) below)

  row_within : (row : List Move) → AreBelow (items_in r) row
      → AllOf (LeadsWithin (items_of [] r)) row
  row_within [] all = tt
  row_within (move ∷ row) all = (within move all.0, row_within row all.1)

  all_within : (rows : List (List Move)) → AllOf (AreBelow (items_in r)) rows
      → AllOf (AllOf (LeadsWithin (items_of [] r))) rows
  all_within [] all = tt
  all_within (row ∷ rows) all = (row_within row all.0, all_within rows all.1)

  pub start_within : AllOf (LeadsWithin (items_of [] r)) (once (first_moves r 0))
  start_within = row_within (once (first_moves r 0)) (all_once (IsBelow (items_in r)) (first_moves r 0)
      (first_moves_below (items_in r) r 0 (omega arith)))

  pub rows_within : AllOf (AllOf (LeadsWithin (items_of [] r))) (rows_of r)
  rows_within = all_within (rows_of r) (rows_once_below (items_in r) (states r 0 (End ∷ []))
      (states_below (items_in r) r 0 (End ∷ []) (omega arith) (tt, tt)))
