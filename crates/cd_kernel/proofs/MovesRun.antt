-- What a list of moves does, where something goes on at its end: it does as ways do, for one item
-- and for a repeat whose turn does so.
use Rattle.std.proofs.Common.{◌≡◌, ℕ, Bool, true, false, List, [], ◌∷◌, ◌++◌, Option, Some, None}
use Rattle.std.proofs.Common.{refl, sym, ap, ap₂, ◌∙◌, if◌then◌else◌}
use Rattle.std.specs.List.{slice_get}
use Rattle.std.specs.Option.{unwrap_or}
use Rattle.cd_syntax.specs.Name.{Name}
use Rattle.cd_syntax.specs.declared.type_tree.Post.{Post}
use Rattle.cd_syntax.specs.declared.type_tree.Post.TheVariants as post
use Rattle.cd_model.specs.Thing.{Thing}
use Rattle.cd_matching.specs.Captures.{Captures, or_else}
use Rattle.cd_matching.specs.Pattern.{Pattern}
use Rattle.cd_matching.specs.Take.{take}
use Rattle.cd_matching.specs.Ways.{Way, Ways, still, then_, in_order, star, repeated}
use Rattle.cd_moves.specs.Automaton.{Move, End, To, instead, ItemOf, gathering, first_turn}
use Rattle.cd_moves.specs.Automaton.{by_item, by_number, run, turns}
use Rattle.cd_kernel.specs.Inner.WaysIn.{ways_gathering, item_in}
use Rattle.cd_kernel.proofs.OrElse.{or_else_assoc, or_else_none}
use Rattle.cd_kernel.proofs.FirstWays.{On, after, first_on, order, after_still, first_then}
use Rattle.cd_kernel.proofs.FirstWays.{first_order, first_same}
use Rattle.cd_kernel.proofs.RepeatsRun.{AreWithin, star_run}

-- the whole list is taken
abbrev pub nothing_left : On
nothing_left [] = Some (still [])
nothing_left (d ∷ rest) = None

module _ (T : Type 0) (test : T → Thing → Bool) (items : List (ItemOf T)) (rows : List (List Move))
  where
    abbrev pub consume : ℕ → On
    consume number [] = None
    consume number (d ∷ rest) = by_number T test items rows d (slice_get items number)
        (run T test items rows rest (unwrap_or (slice_get rows number) []))

    -- what moves do, where `on` is done at their end
    abbrev pub moves_on : On → List Move → On
    moves_on on [] things = None
    moves_on on (End ∷ moves) things = or_else (on things) (moves_on on moves things)
    moves_on on (To number ∷ moves) things =
        or_else (consume number things) (moves_on on moves things)

    pub run_moves : (things : List Thing) (moves : List Move)
        → run T test items rows things moves ≡ moves_on nothing_left moves things
    run_moves [] [] = refl
    run_moves [] (End ∷ moves) = refl
    run_moves [] (To number ∷ moves) = run_moves [] moves
    run_moves (d ∷ rest) [] = refl
    run_moves (d ∷ rest) (End ∷ moves) = run_moves (d ∷ rest) moves
    run_moves (d ∷ rest) (To number ∷ moves) =
        ap (or_else (consume number (d ∷ rest))) (run_moves (d ∷ rest) moves)

    pub moves_append : (on : On) (moves others : List Move) (things : List Thing)
        → moves_on on (moves ++ others) things
        ≡ or_else (moves_on on moves things) (moves_on on others things)
    moves_append on [] others things = refl
    moves_append on (End ∷ moves) others things =
        ap (or_else (on things)) (moves_append on moves others things)
        ∙ sym (or_else_assoc (on things) (moves_on on moves things) (moves_on on others things))
    moves_append on (To number ∷ moves) others things =
        ap (or_else (consume number things)) (moves_append on moves others things)
        ∙ sym (or_else_assoc (consume number things) (moves_on on moves things)
        (moves_on on others things))

    pub instead_on : (on : On) (moves next : List Move) (things : List Thing)
        → moves_on on (instead moves next) things ≡ moves_on (moves_on on next) moves things
    instead_on on [] next things = refl
    instead_on on (End ∷ moves) next things = moves_append on next (instead moves next) things
        ∙ ap (or_else (moves_on on next things)) (instead_on on moves next things)
    instead_on on (To number ∷ moves) next things =
        ap (or_else (consume number things)) (instead_on on moves next things)

    -- what comes after a whole expression
    abbrev pub goes_to : List Move → On
    goes_to next = moves_on nothing_left next

    -- these moves, where such come after each item, do as the ways do
    abbrev pub Run : (moves next : List Move) → Ways → Type 0
    Run moves next ways = (s : On) (things : List Thing)
        → moves_on s moves things ≡ first_on s (goes_to next) (ways things)

    pub still_runs : (next : List Move) → Run (End ∷ []) next (λ things. still things ∷ [])
    still_runs next s things = ap (λ way. or_else way None) (sym (after_still things (s things)))

    pub item_runs : (p : Pattern T) (around : List Name) (before : ℕ) (next : List Move)
        → slice_get items before ≡ Some (p, around) → slice_get rows before ≡ Some next
        → Run (To before ∷ []) next (item_in around (take T test p))
    item_runs p around before next item row s [] = refl
    item_runs p around before next item row s (d ∷ rest) =
        or_else_none (consume before (d ∷ rest))
        ∙ ap₂ (λ (i : Option (ItemOf T)) (r : Option (List Move)).
        by_number T test items rows d i (run T test items rows rest (unwrap_or r []))) item row
        ∙ by_take (take T test p d)
      where
        none_taken : (way : Option Way) → by_item T test items rows d around None way ≡ None
        none_taken None = refl
        none_taken (Some way) = refl

        some_taken : (captures : Captures Name) (way : Option Way)
            → by_item T test items rows d around (Some captures) way
            ≡ or_else (after (record (gathering around d captures) { rest = rest }) way) None
        some_taken captures None = refl
        some_taken captures (Some way) = refl

        by_take : (captures : Option (Captures Name))
            → by_item T test items rows d around captures (run T test items rows rest next)
            ≡ first_on s (goes_to next) (ways_gathering around d rest captures)
        by_take None = none_taken (run T test items rows rest next)
        by_take (Some captures) =
            ap (by_item T test items rows d around (Some captures)) (run_moves rest next)
            ∙ some_taken captures (goes_to next rest)

    -- a repeat, by one turn of it
    module _ (lazy : Bool) (turn next : List Move) (one : Ways) (within : AreWithin one) where
      abbrev ordered : List Move
      ordered = if lazy then End ∷ instead turn [] else instead turn [] ++ End ∷ []

      abbrev loop : On
      loop = goes_to (instead ordered next)

      module _ (turn_runs : Run turn (instead ordered next) one) where
        without_end_on : (s : On) (things : List Thing)
            → moves_on s (instead turn []) things ≡ first_on (λ rest. None) loop (one things)
        without_end_on s things = instead_on s turn [] things ∙ turn_runs (λ rest. None) things

        ordered_on : (b : Bool) (s : On) (things : List Thing)
            → moves_on s (if b then End ∷ instead turn [] else instead turn [] ++ End ∷ []) things
            ≡ order b (s things) (first_on (λ rest. None) loop (one things))
        ordered_on true s things = ap (or_else (s things)) (without_end_on s things)
        ordered_on false s things = moves_append s (instead turn []) (End ∷ []) things
            ∙ ap₂ or_else (without_end_on s things) (or_else_none (s things))

        loop_is : (things : List Thing) → loop things
            ≡ order lazy (goes_to next things) (first_on (λ rest. None) loop (one things))
        loop_is things =
            instead_on nothing_left ordered next things ∙ ordered_on lazy (goes_to next) things

        star_runs : Run ordered next (star lazy one)
        star_runs s things = ordered_on lazy s things
            ∙ star_run lazy one within (goes_to next) loop loop_is s things

        loop_runs : (things : List Thing)
            → loop things ≡ first_on (goes_to next) (goes_to next) (star lazy one things)
        loop_runs things =
            instead_on nothing_left ordered next things ∙ star_runs (goes_to next) things

        plus_runs : Run (instead turn ordered) next (λ things. then_ (one things) (star lazy one))
        plus_runs s things = instead_on s turn ordered things
            ∙ turn_runs (moves_on s ordered) things
            ∙ first_same (moves_on s ordered)
            (λ rest. first_on s (goes_to next) (star lazy one rest)) loop
            (λ rest. first_on (goes_to next) (goes_to next) (star lazy one rest))
            (star_runs s) loop_runs (one things)
            ∙ sym (first_then s (goes_to next) (one things) (star lazy one))

    -- at most one turn
    end_on : (next : List Move) (things : List Thing)
        → goes_to (instead (End ∷ []) next) things ≡ goes_to next things
    end_on next things =
        moves_append nothing_left next [] things ∙ or_else_none (goes_to next things)

    opt_runs : (lazy : Bool) (turn next : List Move) (one : Ways)
        → Run turn (instead (End ∷ []) next) one
        → Run (if lazy then End ∷ turn else turn ++ End ∷ []) next
        (λ things. in_order lazy (still things) (one things))
    opt_runs lazy turn next one turn_runs s things =
        by_order lazy ∙ sym (first_order lazy s (goes_to next) things (one things))
      where
        one_turn : moves_on s turn things ≡ first_on s (goes_to next) (one things)
        one_turn = turn_runs s things
            ∙ first_same s s (goes_to (instead (End ∷ []) next)) (goes_to next)
            (λ rest. refl) (end_on next) (one things)

        by_order : (b : Bool) → moves_on s (if b then End ∷ turn else turn ++ End ∷ []) things
            ≡ order b (s things) (first_on s (goes_to next) (one things))
        by_order true = ap (or_else (s things)) one_turn
        by_order false =
            moves_append s turn (End ∷ []) things ∙ ap₂ or_else one_turn (or_else_none (s things))

    pub repeat_runs : (how : Post) (turn next : List Move) (one : Ways) → AreWithin one
        → Run turn (instead (turns how turn) next) one
        → Run (first_turn how turn) next (repeated how one)
    repeat_runs post.Star turn next one within runs = star_runs false turn next one within runs
    repeat_runs post.LazyStar turn next one within runs = star_runs true turn next one within runs
    repeat_runs post.Plus turn next one within runs = plus_runs false turn next one within runs
    repeat_runs post.LazyPlus turn next one within runs = plus_runs true turn next one within runs
    repeat_runs post.Opt turn next one within runs = opt_runs false turn next one runs
    repeat_runs post.LazyOpt turn next one within runs = opt_runs true turn next one runs
