-- The rows of moves that the code makes are those of the automaton, with each move once.
use Rattle.std.proofs.Common.{◌≡◌, ◌+◌, ℕ, Bool, true, false, List, [], ◌∷◌, ◌++◌, map, reverse}
use Rattle.std.proofs.Common.{refl, sym, ap}
use Rattle.std.proofs.Common.{ap₂, ◌∙◌, if◌then◌else◌}
use Rattle.cd_syntax.specs.declared.type_tree.Post.{Post}
use Rattle.cd_syntax.specs.declared.type_tree.Post.TheVariants as post
use Rattle.cd_matching.specs.Pattern as pattern
use Rattle.cd_matching.specs.Pattern.{Regular, Regulars, NoRegular, ARegular}
use Rattle.cd_moves.specs.Automaton.{Move, End, instead, without_end, items_in, turns}
use Rattle.cd_moves.specs.Automaton.{first_turn, first_moves, first_moves_in_turn, first_moves_of_one, states}
use Rattle.cd_moves.specs.Automaton.{states_in_turn, states_of_one, once, rows_of}
use Rattle.cd_moves.specs.Inner.PlainMoves.{has}
use Rattle.cd_moves.specs.Inner.Rows.{added, singled, in_place, added_instead, followed}
use Rattle.cd_moves.specs.Inner.Rows.{turns_row, first_row, first_moves_row, first_moves_in_turn_row}
use Rattle.cd_moves.specs.Inner.Rows.{first_moves_of_one_row, after_row, rows_back, rows_back_in_turn}
use Rattle.cd_moves.specs.Inner.Rows.{rows_back_of_one}
use Rattle.cd_moves.proofs.RowsOnce.{added_more, instead_first, first_turn_singled}
use Rattle.cd_moves.proofs.RowsOnce.{alike_instead, instead_alike, alike_singled}
use Rattle.cd_moves.proofs.RowsOnce.{turns_alike, once_is, begun, one_more, no_more}
use Rattle.cd_moves.proofs.RowsOnce.{without_end_left, singled_twice, alternatives}
use Rattle.cd_moves.proofs.RowsOnce.{instead_instead}
use Rattle.std.proofs.lemmas.List.{reverse-append}

pub added_instead_is : (row xs next : List Move)
    → added_instead row xs next ≡ added row (instead xs next)
added_instead_is row [] next = refl
added_instead_is row (x ∷ xs) next = added_instead_is (added row (in_place x next)) xs next
    ∙ sym (instead_first row x xs next)

pub followed_is : (row next : List Move) → followed row next ≡ singled (instead row next)
followed_is row next = added_instead_is [] row next

greedy_is : (turn : List Move)
    → added (added_instead [] turn []) (End ∷ []) ≡ singled (without_end turn ++ End ∷ [])
greedy_is turn = ap (λ (row : List Move). added row (End ∷ [])) (added_instead_is [] turn [])
    ∙ sym (added_more [] (without_end turn) (End ∷ []))

turns_is : (post : Post) (turn : List Move) → turns_row post turn ≡ singled (turns post turn)
turns_is post.Star turn = greedy_is turn
turns_is post.Plus turn = greedy_is turn
turns_is post.LazyStar turn = added_instead_is (End ∷ []) turn []
turns_is post.LazyPlus turn = added_instead_is (End ∷ []) turn []
turns_is post.Opt turn = refl
turns_is post.LazyOpt turn = refl

plus_is : (turn next other : List Move) → other ≡ singled next
    → followed turn other ≡ singled (instead turn next)
plus_is turn next other is = followed_is turn other
    ∙ ap (λ (moves : List Move). singled (instead turn moves)) is
    ∙ instead_alike turn (singled next) next (alike_singled next) []

first_is : (post : Post) (turn : List Move) → first_row post turn ≡ singled (first_turn post turn)
first_is post.Star turn = greedy_is turn
first_is post.LazyStar turn = added_instead_is (End ∷ []) turn []
first_is post.Plus turn =
    plus_is turn (turns post.Plus turn) (turns_row post.Plus turn) (turns_is post.Plus turn)
first_is post.LazyPlus turn = plus_is turn (turns post.LazyPlus turn)
    (turns_row post.LazyPlus turn) (turns_is post.LazyPlus turn)
first_is post.Opt turn = sym (added_more [] turn (End ∷ []))
first_is post.LazyOpt turn = refl

map_append : (xs ys : List (List Move))
    → map singled (xs ++ ys) ≡ map singled xs ++ map singled ys
map_append [] ys = refl
map_append (x ∷ xs) ys = ap (singled x ∷◌) (map_append xs ys)

-- a row, and what comes after it
row_followed : (row moves next other : List Move) → row ≡ singled moves → next ≡ singled other
    → followed row next ≡ singled (instead moves other)
row_followed row moves next other is after = followed_is row next
    ∙ ap₂ (λ (one two : List Move). singled (instead one two)) is after
    ∙ alike_instead moves (singled other) other (alike_singled other) []

again_followed : (post : Post) (turn moves next other : List Move) → turn ≡ singled moves
    → next ≡ singled other
    → followed (turns_row post turn) next ≡ singled (instead (turns post moves) other)
again_followed post turn moves next other is after = row_followed (turns_row post turn)
    (turns post moves) next other
    (ap (turns_row post) is ∙ turns_is post (singled moves) ∙ turns_alike post moves []) after

-- the rows of one and then those of others
both_back : (xs ys back more : List (List Move)) → back ≡ reverse (map singled xs)
    → more ≡ reverse (map singled ys) → more ++ back ≡ reverse (map singled (xs ++ ys))
both_back xs ys back more one other = ap₂ (λ (a b : List (List Move)). a ++ b) other one
    ∙ sym (reverse-append (map singled xs) (map singled ys))
    ∙ ap reverse (sym (map_append xs ys))

module _ {T : Type 0} where
  mutual
    first_moves_are : (r : Regular T) (before : ℕ) → first_moves_row r before ≡ singled (first_moves r before)
    first_moves_are pattern.Nothing before = refl
    first_moves_are (pattern.Item is) before = refl
    first_moves_are (pattern.Seq all) before = in_turn_are all before (End ∷ []) refl
        ∙ begun (first_moves_in_turn all before)
    first_moves_are (pattern.Alt all) before = of_one_are all before []
    first_moves_are (pattern.Repeat is post) before = ap (first_row post) (first_moves_are is before)
        ∙ first_is post (singled (first_moves is before)) ∙ first_turn_singled post (first_moves is before)
    first_moves_are (pattern.Capture name is) before = first_moves_are is before

    in_turn_are : (all : Regulars T) (at : ℕ) (row : List Move) → singled row ≡ row
        → first_moves_in_turn_row row all at ≡ singled (instead row (first_moves_in_turn all at))
    in_turn_are NoRegular at row single = sym (no_more row ∙ single)
    in_turn_are (ARegular first rest) at row single = by_test (has row End) refl
        (first_moves_are first at) (λ (other : List Move) (is : singled other ≡ other).
        in_turn_are rest (at + items_in first) other is)
      where
        by_test : (b : Bool) → has row End ≡ b → first_moves_row first at ≡ singled (first_moves first at)
            → ((other : List Move) → singled other ≡ other
            → first_moves_in_turn_row other rest (at + items_in first)
            ≡ singled (instead other (first_moves_in_turn rest (at + items_in first))))
            → (if b then first_moves_in_turn_row (followed row (first_moves_row first at)) rest
            (at + items_in first) else row)
            ≡ singled (instead row (instead (first_moves first at)
            (first_moves_in_turn rest (at + items_in first))))
        by_test false none row_is on = sym (without_end_left row (instead (first_moves first at)
            (first_moves_in_turn rest (at + items_in first))) none ∙ single)
        by_test true ends row_is on =
            ap (λ (other : List Move). first_moves_in_turn_row other rest (at + items_in first))
            (followed_is row (first_moves_row first at)
            ∙ ap (λ (moves : List Move). singled (instead row moves)) row_is)
            ∙ on (singled (instead row (singled (first_moves first at))))
            (singled_twice (instead row (singled (first_moves first at))))
            ∙ one_more row (first_moves first at) (first_moves_in_turn rest (at + items_in first))

    of_one_are : (all : Regulars T) (at : ℕ) (row : List Move)
        → first_moves_of_one_row row all at ≡ added row (first_moves_of_one all at)
    of_one_are NoRegular at row = refl
    of_one_are (ARegular first rest) at row =
        ap (λ (moves : List Move). first_moves_of_one_row (added row moves) rest (at + items_in first))
        (first_moves_are first at)
        ∙ of_one_are rest (at + items_in first) (added row (singled (first_moves first at)))
        ∙ alternatives row (first_moves first at) (first_moves_of_one rest (at + items_in first))

  after_is : (all : Regulars T) (at : ℕ) (next other : List Move) → next ≡ singled other
      → after_row all at next ≡ singled (instead (first_moves_in_turn all at) other)
  after_is NoRegular at next other after = after ∙ sym (begun other)
  after_is (ARegular first rest) at next other after = row_followed (first_moves_row first at)
      (first_moves first at) (after_row rest (at + items_in first) next)
      (instead (first_moves_in_turn rest (at + items_in first)) other) (first_moves_are first at)
      (after_is rest (at + items_in first) next other after)
      ∙ sym (ap singled (instead_instead (first_moves first at)
      (first_moves_in_turn rest (at + items_in first)) other))

  mutual
    states_are : (r : Regular T) (before : ℕ) (next other : List Move) → next ≡ singled other
        → rows_back r before next ≡ reverse (map singled (states r before other))
    states_are pattern.Nothing before next other after = refl
    states_are (pattern.Item is) before next other after =
        ap (λ (row : List Move). row ∷ []) after
    states_are (pattern.Seq all) before next other after =
        states_in_turn_are all before next other after
    states_are (pattern.Alt all) before next other after =
        states_of_one_are all before next other after
    states_are (pattern.Repeat is post) before next other after =
        states_are is before (followed (turns_row post (first_moves_row is before)) next)
        (instead (turns post (first_moves is before)) other)
        (again_followed post (first_moves_row is before) (first_moves is before) next other
        (first_moves_are is before) after)
    states_are (pattern.Capture name is) before next other after =
        states_are is before next other after

    states_in_turn_are : (all : Regulars T) (before : ℕ) (next other : List Move)
        → next ≡ singled other → rows_back_in_turn all before next
        ≡ reverse (map singled (states_in_turn all before other))
    states_in_turn_are NoRegular before next other after = refl
    states_in_turn_are (ARegular first rest) before next other after = both_back
        (states first before (instead (first_moves_in_turn rest (before + items_in first)) other))
        (states_in_turn rest (before + items_in first) other)
        (rows_back first before (after_row rest (before + items_in first) next))
        (rows_back_in_turn rest (before + items_in first) next)
        (states_are first before (after_row rest (before + items_in first) next)
        (instead (first_moves_in_turn rest (before + items_in first)) other)
        (after_is rest (before + items_in first) next other after))
        (states_in_turn_are rest (before + items_in first) next other after)

    states_of_one_are : (all : Regulars T) (before : ℕ) (next other : List Move)
        → next ≡ singled other → rows_back_of_one all before next
        ≡ reverse (map singled (states_of_one all before other))
    states_of_one_are NoRegular before next other after = refl
    states_of_one_are (ARegular first rest) before next other after = both_back
        (states first before other) (states_of_one rest (before + items_in first) other)
        (rows_back first before next) (rows_back_of_one rest (before + items_in first) next)
        (states_are first before next other after)
        (states_of_one_are rest (before + items_in first) next other after)

reverse_twice : (rows : List (List Move)) → reverse (reverse rows) ≡ rows
reverse_twice [] = refl
reverse_twice (row ∷ rows) = ap reverse (reverse-append (row ∷ []) rows)
    ∙ reverse-append (reverse rows) (row ∷ []) ∙ ap (row ∷◌) (reverse_twice rows)

map_once : (rows : List (List Move)) → map singled rows ≡ map once rows
map_once [] = refl
map_once (row ∷ rows) = ap₂ (λ (first : List Move) (rest : List (List Move)). first ∷ rest)
    (sym (once_is row)) (map_once rows)

pub first_moves_row_is : {T : Type 0} (r : Regular T) → first_moves_row r 0 ≡ once (first_moves r 0)
first_moves_row_is r = first_moves_are r 0 ∙ sym (once_is (first_moves r 0))

pub states_rows_are : {T : Type 0} (r : Regular T)
    → reverse (rows_back r 0 (End ∷ [])) ≡ rows_of r
states_rows_are r = ap reverse (states_are r 0 (End ∷ []) (End ∷ []) refl)
    ∙ reverse_twice (map singled (states r 0 (End ∷ []))) ∙ map_once (states r 0 (End ∷ []))
