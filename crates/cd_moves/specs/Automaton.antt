-- The moves of a regular expression: which item may come next, or that the expression may end, in
-- the order in which a match tries them. A state is the list of its moves, each once; there is one
-- to start in, and one after each item.
use Rattle.std.specs.Prelude.{ℕ, ◌+◌, Bool, true, false, List, [], ◌∷◌, ◌++◌, map, Option, Some}
use Rattle.std.specs.Prelude.{None, eqb, bytes_eq, if◌then◌else◌}
use Rattle.std.specs.List.{slice_get, list_any}
use Rattle.std.specs.Option.{unwrap_or}
use Rattle.cd_syntax.specs.Name.{Name}
use Rattle.cd_syntax.specs.declared.type_tree.Post.{Post}
use Rattle.cd_syntax.specs.declared.type_tree.Post.TheVariants as post
use Rattle.cd_model.specs.Thing.{Thing}
use Rattle.cd_matching.specs.Captures.{Captures, or_else}
use Rattle.cd_matching.specs.Pattern as pattern
use Rattle.cd_matching.specs.Pattern.{Pattern, Regular, Regulars, NoRegular, ARegular}
use Rattle.cd_matching.specs.Take.{take}
use Rattle.cd_matching.specs.Ways.{Way, still, followed}

pub data Move : Type 0 where
  End : Move
  -- to the item with this number
  To : ℕ → Move

abbrev pub same_move : Move → Move → Bool
same_move End End = true
same_move (To one) (To other) = eqb one other
same_move _ _ = false

-- other moves in the place of the end; and no end
abbrev pub instead : List Move → List Move → List Move
instead [] next = []
instead (End ∷ moves) next = next ++ instead moves next
instead (To number ∷ moves) next = To number ∷ instead moves next

abbrev pub without_end : List Move → List Move
without_end moves = instead moves []

-- each move once, where it comes first
abbrev pub without : Move → List Move → List Move
without move [] = []
without move (other ∷ moves) =
    if same_move move other then without move moves else other ∷ without move moves

abbrev pub once : List Move → List Move
once [] = []
once (move ∷ moves) = move ∷ without move (once moves)

abbrev mutual
  pub items_in : {T : Type 0} → Regular T → ℕ
  items_in pattern.Nothing = 0
  items_in (pattern.Item is) = 1
  items_in (pattern.Seq all) = items_in_all all
  items_in (pattern.Alt all) = items_in_all all
  items_in (pattern.Repeat is post) = items_in is
  items_in (pattern.Capture name is) = items_in is

  pub items_in_all : {T : Type 0} → Regulars T → ℕ
  items_in_all NoRegular = 0
  items_in_all (ARegular first rest) = items_in first + items_in_all rest

-- after the turns of a repeat so far: another turn, which takes an item, or the end
abbrev pub turns : Post → List Move → List Move
turns post.Star turn = without_end turn ++ End ∷ []
turns post.LazyStar turn = End ∷ without_end turn
turns post.Plus turn = without_end turn ++ End ∷ []
turns post.LazyPlus turn = End ∷ without_end turn
turns post.Opt turn = End ∷ []
turns post.LazyOpt turn = End ∷ []

abbrev pub first_turn : Post → List Move → List Move
first_turn post.Star turn = without_end turn ++ End ∷ []
first_turn post.LazyStar turn = End ∷ without_end turn
first_turn post.Plus turn = instead turn (turns post.Plus turn)
first_turn post.LazyPlus turn = instead turn (turns post.LazyPlus turn)
first_turn post.Opt turn = turn ++ End ∷ []
first_turn post.LazyOpt turn = End ∷ turn

-- the first moves of an expression, where items are numbered after `before`
abbrev mutual
  pub first_moves : {T : Type 0} → Regular T → ℕ → List Move
  first_moves pattern.Nothing before = End ∷ []
  first_moves (pattern.Item is) before = To before ∷ []
  first_moves (pattern.Seq all) before = first_moves_in_turn all before
  first_moves (pattern.Alt all) before = first_moves_of_one all before
  first_moves (pattern.Repeat is post) before = first_turn post (first_moves is before)
  first_moves (pattern.Capture name is) before = first_moves is before

  pub first_moves_in_turn : {T : Type 0} → Regulars T → ℕ → List Move
  first_moves_in_turn NoRegular before = End ∷ []
  first_moves_in_turn (ARegular first rest) before =
      instead (first_moves first before) (first_moves_in_turn rest (before + items_in first))

  pub first_moves_of_one : {T : Type 0} → Regulars T → ℕ → List Move
  first_moves_of_one NoRegular before = []
  first_moves_of_one (ARegular first rest) before =
      first_moves first before ++ first_moves_of_one rest (before + items_in first)

-- the moves after each item, where `next` are those after the whole expression
abbrev mutual
  pub states : {T : Type 0} → Regular T → ℕ → List Move → List (List Move)
  states pattern.Nothing before next = []
  states (pattern.Item is) before next = next ∷ []
  states (pattern.Seq all) before next = states_in_turn all before next
  states (pattern.Alt all) before next = states_of_one all before next
  states (pattern.Repeat is post) before next =
      states is before (instead (turns post (first_moves is before)) next)
  states (pattern.Capture name is) before next = states is before next

  pub states_in_turn : {T : Type 0} → Regulars T → ℕ → List Move → List (List Move)
  states_in_turn NoRegular before next = []
  states_in_turn (ARegular first rest) before next =
      states first before (instead (first_moves_in_turn rest (before + items_in first)) next)
      ++ states_in_turn rest (before + items_in first) next

  pub states_of_one : {T : Type 0} → Regulars T → ℕ → List Move → List (List Move)
  states_of_one NoRegular before next = []
  states_of_one (ARegular first rest) before next =
      states first before next ++ states_of_one rest (before + items_in first) next

-- each item with the variables that gather it
abbrev pub ItemOf : Type 0 → Type 0
ItemOf T = Pattern T × List Name

abbrev mutual
  pub items_of : {T : Type 0} → List Name → Regular T → List (ItemOf T)
  items_of around pattern.Nothing = []
  items_of around (pattern.Item is) = (is, around) ∷ []
  items_of around (pattern.Seq all) = items_of_all around all
  items_of around (pattern.Alt all) = items_of_all around all
  items_of around (pattern.Repeat is post) = items_of around is
  items_of around (pattern.Capture name is) = items_of (name ∷ around) is

  pub items_of_all : {T : Type 0} → List Name → Regulars T → List (ItemOf T)
  items_of_all around NoRegular = []
  items_of_all around (ARegular first rest) =
      items_of around first ++ items_of_all around rest

-- the moves after each item, each once
abbrev pub rows_of : {T : Type 0} → Regular T → List (List Move)
rows_of r = map once (states r 0 (End ∷ []))

-- an item is taken with these captures, which these variables gather
abbrev pub gathering : List Name → Thing → Captures Name → Way
gathering around d captures = record {
  taken = d ∷ [];
  rest = [];
  plain = captures;
  gathered = λ name. if list_any (bytes_eq name) around then d ∷ [] else [];
}

module _ (T : Type 0) (test : T → Thing → Bool) (items : List (ItemOf T)) (rows : List (List Move))
  where
    -- an item, and the way on after it
    abbrev pub by_item : Thing → List Name → Option (Captures Name) → Option Way → Option Way
    by_item d around (Some captures) (Some way) = Some (followed (gathering around d captures) way)
    by_item d around _ _ = None

    abbrev pub by_number : Thing → Option (ItemOf T) → Option Way → Option Way
    by_number d None way = None
    by_number d (Some item) way = by_item d item.1 (take T test item.0 d) way

    abbrev pub first_move : Thing → (List Move → Option Way) → List Move → Option Way
    first_move d on [] = None
    first_move d on (End ∷ moves) = first_move d on moves
    first_move d on (To number ∷ moves) =
        or_else (by_number d (slice_get items number) (on (unwrap_or (slice_get rows number) [])))
        (first_move d on moves)

    -- the first way from a state that leaves nothing
    abbrev pub run : List Thing → List Move → Option Way
    run [] moves = if list_any (same_move End) moves then Some (still []) else None
    run (d ∷ rest) moves = first_move d (run rest) moves

-- by its automaton, the first way of an expression that leaves nothing
abbrev pub run_whole : (T : Type 0) → (T → Thing → Bool) → Regular T → List Thing → Option Way
run_whole T test r things = run T test (items_of [] r) (rows_of r) things (once (first_moves r 0))
