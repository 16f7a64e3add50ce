-- The moves of an automaton do as the ways of its expression, where each item goes at once to the
-- variables around it.
use Rattle.std.proofs.Common.{ℕ, suc, ◌+◌, Bool, List, [], ◌∷◌, ◌++◌, length, Option, Some}
use Rattle.std.proofs.Common.{None, refl, sym, ap₂, ◌∙◌, arith}
use Rattle.cd_syntax.specs.Name.{Name}
use Rattle.cd_model.specs.AllOf.{AllOf}
use Rattle.cd_model.specs.Thing.{Thing}
use Rattle.cd_matching.specs.Captures.{Captures, or_else}
use Rattle.cd_matching.specs.Pattern as pattern
use Rattle.cd_matching.specs.Pattern.{Pattern, Regular, Regulars, NoRegular, ARegular}
use Rattle.cd_matching.specs.Take.{Taking, take}
use Rattle.cd_matching.specs.Ways.{Ways, then_}
use Rattle.cd_moves.specs.Automaton.{Move, instead, ItemOf, items_in, first_moves, first_moves_in_turn}
use Rattle.cd_moves.specs.Automaton.{first_moves_of_one, states, states_in_turn, states_of_one}
use Rattle.cd_moves.specs.Automaton.{items_of, items_of_all, turns}
use Rattle.cd_kernel.specs.Inner.WaysIn.{ways_gathering, item_in, ways_in, turn_in, one_in}
use Rattle.cd_model.proofs.Covered.{each_both}
use Rattle.cd_kernel.proofs.FirstWays.{first_on, first_append, first_then, first_same}
use Rattle.cd_kernel.proofs.RepeatsRun.{IsWithin, AreWithin, still_is_within, then_within}
use Rattle.cd_kernel.proofs.RepeatsRun.{repeated_within}
use Rattle.cd_kernel.proofs.PartsStand.{Stand, first_stands, stand_left, stand_right}
use Rattle.cd_kernel.proofs.PartsStand.{items_long, states_long}
use Rattle.cd_kernel.proofs.MovesRun.{moves_on, nothing_left, moves_append, instead_on, goes_to}
use Rattle.cd_kernel.proofs.MovesRun.{Run, still_runs, item_runs, repeat_runs}

item_within : (around : List Name) (take : Taking) → AreWithin (item_in around take)
item_within around take [] = tt
item_within around take (d ∷ rest) = by_take (take d)
  where
    by_take : (captures : Option (Captures Name))
        → AllOf (IsWithin (suc (length rest))) (ways_gathering around d rest captures)
    by_take None = tt
    by_take (Some captures) = (omega arith, tt)

module _ (T : Type 0) (test : T → Thing → Bool) where
  mutual
    ways_within : (around : List Name) (r : Regular T) → AreWithin (ways_in T test around r)
    ways_within around pattern.Nothing = λ things. (still_is_within things, tt)
    ways_within around (pattern.Item p) = item_within around (take T test p)
    ways_within around (pattern.Seq all) = turn_within around all
    ways_within around (pattern.Alt all) = one_within around all
    ways_within around (pattern.Repeat r how) =
        repeated_within how (ways_in T test around r) (ways_within around r)
    ways_within around (pattern.Capture name r) = ways_within (name ∷ around) r

    turn_within : (around : List Name) (all : Regulars T) → AreWithin (turn_in T test around all)
    turn_within around NoRegular = λ things. (still_is_within things, tt)
    turn_within around (ARegular first rest) = λ things.
        then_within things (ways_in T test around first things) (turn_in T test around rest)
        (ways_within around first things) (turn_within around rest)

    one_within : (around : List Name) (all : Regulars T) → AreWithin (one_in T test around all)
    one_within around NoRegular = λ things. tt
    one_within around (ARegular first rest) = λ things.
        each_both (IsWithin (length things)) (ways_in T test around first things)
        (one_in T test around rest things)
        (ways_within around first things) (one_within around rest things)

  module _ (items : List (ItemOf T)) (rows : List (List Move)) where
    -- one expression and then another
    turn_by_parts : (moves others next : List Move) (ways : Ways) (more : Ways)
        → Run T test items rows moves (instead others next) ways
        → Run T test items rows others next more
        → Run T test items rows (instead moves others) next (λ things. then_ (ways things) more)
    turn_by_parts moves others next ways more one other s things =
        let after = goes_to T test items rows next in
        instead_on T test items rows s moves others things
        ∙ one (moves_on T test items rows s others) things
        ∙ first_same (moves_on T test items rows s others) (λ rest. first_on s after (more rest))
        (goes_to T test items rows (instead others next))
        (λ rest. first_on after after (more rest))
        (other s)
        (λ rest. instead_on T test items rows nothing_left others next rest ∙ other after rest)
        (ways things)
        ∙ sym (first_then s after (ways things) more)

    -- one expression or another
    one_by_parts : (moves others next : List Move) (ways more : Ways)
        → Run T test items rows moves next ways → Run T test items rows others next more
        → Run T test items rows (moves ++ others) next (λ things. ways things ++ more things)
    one_by_parts moves others next ways more one other s things =
        moves_append T test items rows s moves others things
        ∙ ap₂ or_else (one s things) (other s things)
        ∙ sym (first_append s (goes_to T test items rows next) (ways things) (more things))

    mutual
      pub regular_runs : (around : List Name) (r : Regular T) (before : ℕ) (next : List Move)
          → Stand items before (items_of around r) → Stand rows before (states r before next)
          → Run T test items rows (first_moves r before) next (ways_in T test around r)
      regular_runs around pattern.Nothing before next has rows_are =
          still_runs T test items rows next
      regular_runs around (pattern.Item p) before next has rows_are =
          item_runs T test items rows p around before next
          (first_stands items before (p, around) [] has) (first_stands rows before next [] rows_are)
      regular_runs around (pattern.Seq all) before next has rows_are =
          turn_runs around all before next has rows_are
      regular_runs around (pattern.Alt all) before next has rows_are =
          one_runs around all before next has rows_are
      regular_runs around (pattern.Repeat r how) before next has rows_are =
          repeat_runs T test items rows how (first_moves r before) next (ways_in T test around r)
          (ways_within around r)
          (regular_runs around r before (instead (turns how (first_moves r before)) next)
          has rows_are)
      regular_runs around (pattern.Capture name r) before next has rows_are =
          regular_runs (name ∷ around) r before next has rows_are

      turn_runs : (around : List Name) (all : Regulars T) (before : ℕ) (next : List Move)
          → Stand items before (items_of_all around all)
          → Stand rows before (states_in_turn all before next)
          → Run T test items rows (first_moves_in_turn all before) next (turn_in T test around all)
      turn_runs around NoRegular before next has rows_are = still_runs T test items rows next
      turn_runs around (ARegular first rest) before next has rows_are =
          let others = first_moves_in_turn rest (before + items_in first) in
          let firsts = states first before (instead others next) in
          let lasts = states_in_turn rest (before + items_in first) next in
          turn_by_parts (first_moves first before) others next (ways_in T test around first)
          (turn_in T test around rest)
          (regular_runs around first before (instead others next)
          (stand_left items before (items_of around first) (items_of_all around rest) has)
          (stand_left rows before firsts lasts rows_are))
          (turn_runs around rest (before + items_in first) next
          (stand_right items before (items_of around first) (items_of_all around rest)
          (items_in first) (items_long around first) has)
          (stand_right rows before firsts lasts (items_in first)
          (states_long first before (instead others next)) rows_are))

      one_runs : (around : List Name) (all : Regulars T) (before : ℕ) (next : List Move)
          → Stand items before (items_of_all around all)
          → Stand rows before (states_of_one all before next)
          → Run T test items rows (first_moves_of_one all before) next (one_in T test around all)
      one_runs around NoRegular before next has rows_are = λ s things. refl
      one_runs around (ARegular first rest) before next has rows_are =
          let firsts = states first before next in
          let lasts = states_of_one rest (before + items_in first) next in
          one_by_parts (first_moves first before) (first_moves_of_one rest (before + items_in first)) next
          (ways_in T test around first) (one_in T test around rest)
          (regular_runs around first before next
          (stand_left items before (items_of around first) (items_of_all around rest) has)
          (stand_left rows before firsts lasts rows_are))
          (one_runs around rest (before + items_in first) next
          (stand_right items before (items_of around first) (items_of_all around rest)
          (items_in first) (items_long around first) has)
          (stand_right rows before firsts lasts (items_in first)
          (states_long first before next) rows_are))
