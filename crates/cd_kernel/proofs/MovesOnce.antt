-- It makes no difference that each state has each of its moves once.
use Rattle.std.proofs.Common.{◌≡◌, ℕ, zero, suc, Bool, true, false, List, [], ◌∷◌, map}
use Rattle.std.proofs.Common.{refl, sym, ap, ap₂, ◌∙◌, if◌then◌else◌, true≢false}
use Rattle.std.specs.List.{slice_get}
use Rattle.std.specs.Option.{unwrap_or}
use Rattle.std.proofs.lemmas.Bool.{eqb-true}
use Rattle.cd_model.specs.Thing.{Thing}
use Rattle.cd_matching.specs.Captures.{or_else}
use Rattle.cd_moves.specs.Automaton.{Move, End, To, same_move, without, once, ItemOf}
use Rattle.cd_moves.specs.Automaton.{by_number, run}
use Rattle.cd_kernel.proofs.OrElse.{or_else_again, or_else_between}
use Rattle.cd_kernel.proofs.FirstWays.{On}
use Rattle.cd_kernel.proofs.MovesRun.{consume, moves_on, nothing_left, run_moves}

are_same : (one other : Move) → same_move one other ≡ true → one ≡ other
are_same End End h = refl
are_same (To one) (To other) h = ap To (eqb-true one other h)
are_same End (To other) h = absurd (true≢false (sym h))
are_same (To one) End h = absurd (true≢false (sym h))

row_once : (rows : List (List Move)) (number : ℕ)
    → unwrap_or (slice_get (map once rows) number) []
    ≡ once (unwrap_or (slice_get rows number) [])
row_once [] zero = refl
row_once [] (suc number) = refl
row_once (row ∷ rows) zero = refl
row_once (row ∷ rows) (suc number) = row_once rows number

module _ (T : Type 0) (test : T → Thing → Bool) (items : List (ItemOf T)) where
  module _ (rows : List (List Move)) where
    abbrev done : On → List Move → On
    done = moves_on T test items rows

    -- what one move does
    abbrev does : On → Move → On
    does on End things = on things
    does on (To number) things = consume T test items rows number things

    first_does : (on : On) (move : Move) (moves : List Move) (things : List Thing)
        → done on (move ∷ moves) things ≡ or_else (does on move things) (done on moves things)
    first_does on End moves things = refl
    first_does on (To number) moves things = refl

    without_does : (on : On) (move : Move) (moves : List Move) (things : List Thing)
        → or_else (does on move things) (done on (without move moves) things)
        ≡ or_else (does on move things) (done on moves things)
    without_does on move [] things = refl
    without_does on move (other ∷ moves) things =
        by_test (same_move move other) refl (without_does on move moves things)
      where
        by_test : (b : Bool) → same_move move other ≡ b
            → or_else (does on move things) (done on (without move moves) things)
            ≡ or_else (does on move things) (done on moves things)
            → or_else (does on move things)
            (done on (if b then without move moves else other ∷ without move moves) things)
            ≡ or_else (does on move things) (done on (other ∷ moves) things)
        by_test true same further = further
            ∙ sym (or_else_again (does on move things) (done on moves things))
            ∙ ap (λ (m : Move).
            or_else (does on move things) (or_else (does on m things) (done on moves things)))
            (are_same move other same)
            ∙ sym (ap (or_else (does on move things)) (first_does on other moves things))
        by_test false differs further =
            ap (or_else (does on move things)) (first_does on other (without move moves) things)
            ∙ or_else_between (does on move things) (does on other things)
            (done on (without move moves) things) (done on moves things) further
            ∙ sym (ap (or_else (does on move things)) (first_does on other moves things))

    once_does : (on : On) (moves : List Move) (things : List Thing)
        → done on (once moves) things ≡ done on moves things
    once_does on [] things = refl
    once_does on (move ∷ moves) things =
        first_does on move (without move (once moves)) things
        ∙ without_does on move (once moves) things
        ∙ ap (or_else (does on move things)) (once_does on moves things)
        ∙ sym (first_does on move moves things)

    pub once_runs : (things : List Thing) (moves : List Move)
        → run T test items rows things (once moves) ≡ run T test items rows things moves
    once_runs things moves = run_moves T test items rows things (once moves)
        ∙ once_does nothing_left moves things ∙ sym (run_moves T test items rows things moves)

  pub rows_once : (rows : List (List Move)) (things : List Thing) (moves : List Move)
      → run T test items (map once rows) things moves ≡ run T test items rows things moves
  rows_once rows [] moves = refl
  rows_once rows (d ∷ rest) moves = by_moves moves (rows_once rows rest)
    where
      by_moves : (moves : List Move) → ((moves : List Move)
          → run T test items (map once rows) rest moves ≡ run T test items rows rest moves)
          → run T test items (map once rows) (d ∷ rest) moves
          ≡ run T test items rows (d ∷ rest) moves
      by_moves [] further = refl
      by_moves (End ∷ moves) further = by_moves moves further
      by_moves (To number ∷ moves) further = ap₂ or_else
          (ap (by_number T test items rows d (slice_get items number))
          (further (unwrap_or (slice_get (map once rows) number) [])
          ∙ ap (run T test items rows rest) (row_once rows number)
          ∙ once_runs rows rest (unwrap_or (slice_get rows number) [])))
          (by_moves moves further)
