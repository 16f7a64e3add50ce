-- Rows of moves as the code makes them: moves are put after those that are there, each once.
use Rattle.std.specs.Prelude.{ℕ, suc, ◌+◌, List, [], ◌∷◌, ◌++◌, map, Option, Some, None}
use Rattle.std.specs.Prelude.{option_map, if◌then◌else◌}
use Rattle.cd_syntax.specs.declared.type_tree.Post.{Post}
use Rattle.cd_syntax.specs.declared.type_tree.Post.TheVariants as post
use Rattle.cd_matching.specs.Pattern as pattern
use Rattle.cd_matching.specs.Pattern.{Regular, Regulars, NoRegular, ARegular}
use Rattle.cd_moves.specs.Automaton.{Move, End, To, same_move, items_in}
use Rattle.cd_moves.specs.Inner.PlainMoves.{plain_move, has}
use Rattle.cd_moves.specs.declared.moves.Moves.{Moves as CodeMoves}

abbrev pub plain_row : CodeMoves → List Move
plain_row row = map plain_move row.moves.items

abbrev pub plain_rows : List CodeMoves → List (List Move)
plain_rows = map plain_row

-- a move after others, unless it is among them; and several in turn
abbrev pub with_move : List Move → Move → List Move
with_move row move = if has row move then row else row ++ move ∷ []

abbrev pub added : List Move → List Move → List Move
added row [] = row
added row (move ∷ moves) = added (with_move row move) moves

-- each of some moves once, where it comes first
abbrev pub singled : List Move → List Move
singled moves = added [] moves

-- other moves in the place of one that is the end
abbrev pub in_place : Move → List Move → List Move
in_place End next = next
in_place (To number) next = To number ∷ []

-- the moves of one row after others, with those of a third row in the place of the end
abbrev pub added_instead : List Move → List Move → List Move → List Move
added_instead row [] next = row
added_instead row (move ∷ moves) next = added_instead (added row (in_place move next)) moves next

abbrev pub followed : List Move → List Move → List Move
followed row next = added_instead [] row next

-- where the end stands in a row
abbrev pub end_of : List Move → Option ℕ
end_of [] = None
end_of (move ∷ moves) = if same_move move End then Some 0 else option_map suc (end_of moves)

-- the moves that are not in a row
abbrev pub less : List Move → List Move → List Move
less row [] = []
less row (move ∷ moves) = if has row move then less row moves else move ∷ less row moves

-- a row between those that stand before and after the end, of rows that have each move once
abbrev pub between : (before next after : List Move) → List Move
between before next after = (before ++ less before next) ++ less next after

-- after the turns of a repeat so far, where each turn begins with a row: the row stands before the
-- end, or after it
abbrev pub greedy : List Move → List Move
greedy turn = with_move (added_instead [] turn []) End

abbrev pub lazy : List Move → List Move
lazy turn = added_instead (End ∷ []) turn []

abbrev pub turns_row : Post → List Move → List Move
turns_row post.Star turn = greedy turn
turns_row post.LazyStar turn = lazy turn
turns_row post.Plus turn = greedy turn
turns_row post.LazyPlus turn = lazy turn
turns_row post.Opt turn = End ∷ []
turns_row post.LazyOpt turn = End ∷ []

abbrev pub first_row : Post → List Move → List Move
first_row post.Star turn = greedy turn
first_row post.LazyStar turn = lazy turn
first_row post.Plus turn = followed turn (turns_row post.Plus turn)
first_row post.LazyPlus turn = followed turn (turns_row post.LazyPlus turn)
first_row post.Opt turn = with_move (added [] turn) End
first_row post.LazyOpt turn = added (End ∷ []) turn

-- the first moves of an expression, each once
abbrev mutual
  pub first_moves_row : {T : Type 0} → Regular T → ℕ → List Move
  first_moves_row pattern.Nothing before = End ∷ []
  first_moves_row (pattern.Item is) before = To before ∷ []
  first_moves_row (pattern.Seq all) before = first_moves_in_turn_row (End ∷ []) all before
  first_moves_row (pattern.Alt all) before = first_moves_of_one_row [] all before
  first_moves_row (pattern.Repeat is post) before = first_row post (first_moves_row is before)
  first_moves_row (pattern.Capture name is) before = first_moves_row is before

  pub first_moves_in_turn_row : {T : Type 0} → List Move → Regulars T → ℕ → List Move
  first_moves_in_turn_row row NoRegular at = row
  first_moves_in_turn_row row (ARegular first rest) at = if has row End
      then first_moves_in_turn_row (followed row (first_moves_row first at)) rest
      (at + items_in first)
      else row

  pub first_moves_of_one_row : {T : Type 0} → List Move → Regulars T → ℕ → List Move
  first_moves_of_one_row row NoRegular at = row
  first_moves_of_one_row row (ARegular first rest) at =
      first_moves_of_one_row (added row (first_moves_row first at)) rest (at + items_in first)

-- the moves after some expressions in turn begin with theirs
abbrev pub after_row : {T : Type 0} → Regulars T → ℕ → List Move → List Move
after_row NoRegular at next = next
after_row (ARegular first rest) at next =
    followed (first_moves_row first at) (after_row rest (at + items_in first) next)

-- the moves after each item, each once, from the last item to the first
abbrev mutual
  pub rows_back : {T : Type 0} → Regular T → ℕ → List Move → List (List Move)
  rows_back pattern.Nothing before next = []
  rows_back (pattern.Item is) before next = next ∷ []
  rows_back (pattern.Seq all) before next = rows_back_in_turn all before next
  rows_back (pattern.Alt all) before next = rows_back_of_one all before next
  rows_back (pattern.Repeat is post) before next =
      rows_back is before (followed (turns_row post (first_moves_row is before)) next)
  rows_back (pattern.Capture name is) before next = rows_back is before next

  pub rows_back_in_turn : {T : Type 0} → Regulars T → ℕ → List Move → List (List Move)
  rows_back_in_turn NoRegular before next = []
  rows_back_in_turn (ARegular first rest) before next =
      rows_back_in_turn rest (before + items_in first) next
      ++ rows_back first before (after_row rest (before + items_in first) next)

  pub rows_back_of_one : {T : Type 0} → Regulars T → ℕ → List Move → List (List Move)
  rows_back_of_one NoRegular before next = []
  rows_back_of_one (ARegular first rest) before next =
      rows_back_of_one rest (before + items_in first) next ++ rows_back first before next
