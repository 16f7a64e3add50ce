-- Moves that are put after others one by one, each once, are those of the whole list, each once.
-- So they are where parts of the list have each once already.
use Rattle.std.proofs.Common.{◌≡◌, ℕ, eqb, Bool, true, false, List, [], ◌∷◌, ◌++◌, refl, sym, ap}
use Rattle.std.proofs.Common.{◌∙◌, subst, if◌then◌else◌, true≢false, ◌||◌}
use Rattle.std.proofs.lemmas.Bool.{eqb-true, eqb-false}
use Rattle.std.proofs.lemmas.List.{append_assoc, append-nil}
use Rattle.cd_model.specs.AllOf.{AllOf}
use Rattle.cd_syntax.specs.declared.type_tree.Post.{Post}
use Rattle.cd_syntax.specs.declared.type_tree.Post.TheVariants as post
use Rattle.cd_moves.specs.Automaton.{Move, End, To, same_move, instead, without, without_end}
use Rattle.cd_moves.specs.Automaton.{once, turns, first_turn}
use Rattle.cd_moves.specs.Inner.PlainMoves.{has}
use Rattle.cd_moves.specs.Inner.Rows.{with_move, added, in_place, singled, less}

pub are_same : (one other : Move) → same_move one other ≡ true → one ≡ other
are_same End End h = refl
are_same (To one) (To other) h = ap To (eqb-true one other h)
are_same End (To other) h = absurd (true≢false (sym h))
are_same (To one) End h = absurd (true≢false (sym h))

pub added_more : (row xs ys : List Move) → added row (xs ++ ys) ≡ added (added row xs) ys
added_more row [] ys = refl
added_more row (x ∷ xs) ys = added_more (with_move row x) xs ys

pub less_nothing : (xs : List Move) → less [] xs ≡ xs
less_nothing [] = refl
less_nothing (x ∷ xs) = ap (x ∷◌) (less_nothing xs)

pub or_false : (b : Bool) → (b || false) ≡ b
or_false true = refl
or_false false = refl

pub or_assoc : (a b c : Bool) → ((a || b) || c) ≡ (a || (b || c))
or_assoc true b c = refl
or_assoc false b c = refl

pub or_true : (a : Bool) → (a || true) ≡ true
or_true true = refl
or_true false = refl

pub has_end : (row : List Move) (m y : Move) → has (row ++ m ∷ []) y ≡ (has row y || same_move m y)
has_end [] m y = or_false (same_move m y)
has_end (x ∷ row) m y = ap (same_move x y ||◌) (has_end row m y)
    ∙ sym (or_assoc (same_move x y) (has row y) (same_move m y))

less_less : (row : List Move) (m : Move) → has row m ≡ true → (ys : List Move)
    → less row (without m ys) ≡ less row ys
less_less row m there [] = refl
less_less row m there (y ∷ ys) = by_test (same_move m y) refl (less_less row m there ys)
  where
    by_test : (b : Bool) → same_move m y ≡ b → less row (without m ys) ≡ less row ys
        → less row (if b then without m ys else y ∷ without m ys) ≡ less row (y ∷ ys)
    by_test true same on = on
        ∙ sym (ap (λ (b : Bool). if b then less row ys else y ∷ less row ys)
        (ap (has row) (sym (are_same m y same)) ∙ there))
    by_test false differs on =
        ap (λ (zs : List Move). if has row y then zs else y ∷ zs) on

less_end : (row : List Move) (m : Move) (ys : List Move)
    → less (row ++ m ∷ []) ys ≡ less row (without m ys)
less_end row m [] = refl
less_end row m (y ∷ ys) =
    ap (λ (b : Bool). if b then less (row ++ m ∷ []) ys else y ∷ less (row ++ m ∷ []) ys)
    (has_end row m y) ∙ by_test (same_move m y) (less_end row m ys)
  where
    by_test : (b : Bool) → less (row ++ m ∷ []) ys ≡ less row (without m ys)
        → (if has row y || b then less (row ++ m ∷ []) ys else y ∷ less (row ++ m ∷ []) ys)
        ≡ less row (if b then without m ys else y ∷ without m ys)
    by_test true on = ap (λ (b : Bool). if b then less (row ++ m ∷ []) ys
        else y ∷ less (row ++ m ∷ []) ys) (or_true (has row y)) ∙ on
    by_test false on = ap (λ (b : Bool). if b then less (row ++ m ∷ []) ys
        else y ∷ less (row ++ m ∷ []) ys) (or_false (has row y))
        ∙ ap (λ (zs : List Move). if has row y then zs else y ∷ zs) on

pub added_is : (row xs : List Move) → added row xs ≡ row ++ less row (once xs)
added_is row [] = sym (append-nil row)
added_is row (x ∷ xs) = by_test (has row x) refl (λ (other : List Move). added_is other xs)
  where
    by_test : (b : Bool) → has row x ≡ b
        → ((other : List Move) → added other xs ≡ other ++ less other (once xs))
        → added (if b then row else row ++ x ∷ []) xs
        ≡ row ++ (if b then less row (without x (once xs)) else x ∷ less row (without x (once xs)))
    by_test true there on = on row ∙ ap (row ++◌) (sym (less_less row x there (once xs)))
    by_test false differs on = on (row ++ x ∷ [])
        ∙ ap ((row ++ x ∷ []) ++◌) (less_end row x (once xs))
        ∙ append_assoc row (x ∷ []) (less row (without x (once xs)))

pub once_is : (xs : List Move) → once xs ≡ added [] xs
once_is xs = sym (added_is [] xs ∙ less_nothing (once xs))

-- all of these are in a row
abbrev AreIn : List Move → List Move → Type 0
AreIn row = AllOf (λ move. has row move ≡ true)

has_more : (row : List Move) (m y : Move) → has row y ≡ true → has (with_move row m) y ≡ true
has_more row m y there = by_test (has row m)
  where
    by_test : (b : Bool) → has (if b then row else row ++ m ∷ []) y ≡ true
    by_test true = there
    by_test false = has_end row m y ∙ ap (◌|| same_move m y) there

has_added : (row xs : List Move) (y : Move) → has row y ≡ true → has (added row xs) y ≡ true
has_added row [] y there = there
has_added row (x ∷ xs) y there = has_added (with_move row x) xs y (has_more row x y there)

eqb_itself : (n : ℕ) → eqb n n ≡ true
eqb_itself n = by_test (eqb n n) refl
  where
    by_test : (b : Bool) → eqb n n ≡ b → b ≡ true
    by_test true same = refl
    by_test false differs = absurd (eqb-false n n differs refl)

pub same_as_itself : (m : Move) → same_move m m ≡ true
same_as_itself End = refl
same_as_itself (To n) = eqb_itself n

are_still : (row xs ys : List Move) → AreIn row ys → AreIn (added row xs) ys
are_still row xs [] all = tt
are_still row xs (y ∷ ys) all = (has_added row xs y all.0, are_still row xs ys all.1)

has_itself : (row : List Move) (m : Move) → has (with_move row m) m ≡ true
has_itself row m = by_test (has row m) refl
  where
    by_test : (b : Bool) → has row m ≡ b → has (if b then row else row ++ m ∷ []) m ≡ true
    by_test true there = there
    by_test false differs = has_end row m m ∙ ap (has row m ||◌) (same_as_itself m)
        ∙ or_true (has row m)

are_in : (row xs : List Move) → AreIn (added row xs) xs
are_in row [] = tt
are_in row (x ∷ xs) = (
  has_added (with_move row x) xs x (has_itself row x),
  are_in (with_move row x) xs,
)

-- what is in a row already makes no difference
nothing_new : (row xs : List Move) → AreIn row xs → added row xs ≡ row
nothing_new row [] all = refl
nothing_new row (x ∷ xs) all =
    ap (λ (other : List Move). added other xs)
    (ap (λ (b : Bool). if b then row else row ++ x ∷ []) all.0) ∙ nothing_new row xs all.1

pub instead_first : (row : List Move) (x : Move) (xs next : List Move)
    → added row (instead (x ∷ xs) next) ≡ added (added row (in_place x next)) (instead xs next)
instead_first row End xs next = added_more row next (instead xs next)
instead_first row (To n) xs next = refl

without_same : (next : List Move) (x : Move) (ys : List Move) (row : List Move)
    → AreIn row (in_place x next)
    → added row (instead (without x ys) next) ≡ added row (instead ys next)
without_same next x [] row all = refl
without_same next x (y ∷ ys) row all =
    by_test (same_move x y) refl (λ (other : List Move). without_same next x ys other)
  where
    by_test : (b : Bool) → same_move x y ≡ b
        → ((other : List Move) → AreIn other (in_place x next)
        → added other (instead (without x ys) next) ≡ added other (instead ys next))
        → added row (instead (if b then without x ys else y ∷ without x ys) next)
        ≡ added row (instead (y ∷ ys) next)
    by_test true same on = on row all
        ∙ sym (ap (λ (other : List Move). added other (instead ys next))
        (nothing_new row (in_place y next)
        (subst (λ (m : Move). AreIn row (in_place m next)) (are_same x y same) all)))
        ∙ sym (instead_first row y ys next)
    by_test false differs on = instead_first row y (without x ys) next
        ∙ on (added row (in_place y next)) (are_still row (in_place y next) (in_place x next) all)
        ∙ sym (instead_first row y ys next)

pub once_instead : (row xs next : List Move)
    → added row (instead (once xs) next) ≡ added row (instead xs next)
once_instead row [] next = refl
once_instead row (x ∷ xs) next = instead_first row x (without x (once xs)) next
    ∙ without_same next x (once xs) (added row (in_place x next)) (are_in row (in_place x next))
    ∙ once_instead (added row (in_place x next)) xs next
    ∙ sym (instead_first row x xs next)

instead_end : (xs : List Move) → instead xs (End ∷ []) ≡ xs
instead_end [] = refl
instead_end (End ∷ xs) = ap (End ∷◌) (instead_end xs)
instead_end (To n ∷ xs) = ap (To n ∷◌) (instead_end xs)

pub added_once : (row xs : List Move) → added row (once xs) ≡ added row xs
added_once row xs = ap (added row) (sym (instead_end (once xs)))
    ∙ once_instead row xs (End ∷ []) ∙ ap (added row) (instead_end xs)

-- next moves make the same difference where they have each move once
abbrev pub AreAlike : List Move → List Move → Type 0
AreAlike xs ys = (row : List Move) → added row xs ≡ added row ys

pub instead_alike : (xs next other : List Move) → AreAlike next other
    → AreAlike (instead xs next) (instead xs other)
instead_alike [] next other alike row = refl
instead_alike (x ∷ xs) next other alike row = instead_first row x xs next
    ∙ instead_alike xs next other alike (added row (in_place x next))
    ∙ ap (λ (start : List Move). added start (instead xs other)) (by_move x)
    ∙ sym (instead_first row x xs other)
  where
    by_move : (m : Move) → added row (in_place m next) ≡ added row (in_place m other)
    by_move End = alike row
    by_move (To n) = refl

pub alike_singled : (xs : List Move) → AreAlike (singled xs) xs
alike_singled xs row = ap (added row) (sym (once_is xs)) ∙ added_once row xs

pub alike_append : (xs ys zs us : List Move) → AreAlike xs ys → AreAlike zs us
    → AreAlike (xs ++ zs) (ys ++ us)
alike_append xs ys zs us first second row = added_more row xs zs
    ∙ ap (λ (start : List Move). added start zs) (first row) ∙ second (added row ys)
    ∙ sym (added_more row ys us)

pub alike_instead : (xs next other : List Move) → AreAlike next other
    → AreAlike (instead (singled xs) next) (instead xs other)
alike_instead xs next other alike row =
    ap (λ (moves : List Move). added row (instead moves next)) (sym (once_is xs))
    ∙ once_instead row xs next ∙ instead_alike xs next other alike row

pub alike_itself : (xs : List Move) → AreAlike xs xs
alike_itself xs row = refl

pub turns_alike : (post : Post) (xs : List Move)
    → AreAlike (turns post (singled xs)) (turns post xs)
turns_alike post.Star xs = alike_append (without_end (singled xs)) (without_end xs) (End ∷ [])
    (End ∷ []) (alike_instead xs [] [] (alike_itself [])) (alike_itself (End ∷ []))
turns_alike post.Plus xs = alike_append (without_end (singled xs)) (without_end xs) (End ∷ [])
    (End ∷ []) (alike_instead xs [] [] (alike_itself [])) (alike_itself (End ∷ []))
turns_alike post.LazyStar xs = alike_append (End ∷ []) (End ∷ []) (without_end (singled xs))
    (without_end xs) (alike_itself (End ∷ [])) (alike_instead xs [] [] (alike_itself []))
turns_alike post.LazyPlus xs = alike_append (End ∷ []) (End ∷ []) (without_end (singled xs))
    (without_end xs) (alike_itself (End ∷ [])) (alike_instead xs [] [] (alike_itself []))
turns_alike post.Opt xs = alike_itself (End ∷ [])
turns_alike post.LazyOpt xs = alike_itself (End ∷ [])

first_turn_alike : (post : Post) (xs : List Move)
    → AreAlike (first_turn post (singled xs)) (first_turn post xs)
first_turn_alike post.Star xs = turns_alike post.Star xs
first_turn_alike post.LazyStar xs = turns_alike post.LazyStar xs
first_turn_alike post.Plus xs = alike_instead xs (turns post.Plus (singled xs))
    (turns post.Plus xs) (turns_alike post.Plus xs)
first_turn_alike post.LazyPlus xs = alike_instead xs (turns post.LazyPlus (singled xs))
    (turns post.LazyPlus xs) (turns_alike post.LazyPlus xs)
first_turn_alike post.Opt xs = alike_append (singled xs) xs (End ∷ []) (End ∷ [])
    (alike_singled xs) (alike_itself (End ∷ []))
first_turn_alike post.LazyOpt xs = alike_append (End ∷ []) (End ∷ []) (singled xs) xs
    (alike_itself (End ∷ [])) (alike_singled xs)

pub first_turn_singled : (post : Post) (xs : List Move)
    → singled (first_turn post (singled xs)) ≡ singled (first_turn post xs)
first_turn_singled post xs = first_turn_alike post xs []

pub instead_append : (xs ys next : List Move)
    → instead (xs ++ ys) next ≡ instead xs next ++ instead ys next
instead_append [] ys next = refl
instead_append (End ∷ xs) ys next = ap (next ++◌) (instead_append xs ys next)
    ∙ sym (append_assoc next (instead xs next) (instead ys next))
instead_append (To n ∷ xs) ys next = ap (To n ∷◌) (instead_append xs ys next)

pub instead_instead : (xs ys zs : List Move)
    → instead (instead xs ys) zs ≡ instead xs (instead ys zs)
instead_instead [] ys zs = refl
instead_instead (End ∷ xs) ys zs = instead_append ys (instead xs ys) zs
    ∙ ap (instead ys zs ++◌) (instead_instead xs ys zs)
instead_instead (To n ∷ xs) ys zs = ap (To n ∷◌) (instead_instead xs ys zs)

-- a row that stands for what is gone over so far, and the moves of what is left
pub begun : (whole : List Move) → singled (instead (End ∷ []) whole) ≡ singled whole
begun whole = ap (added []) (append-nil whole)

pub one_more : (row first_moves rest : List Move)
    → singled (instead (singled (instead row (singled first_moves))) rest)
    ≡ singled (instead row (instead first_moves rest))
one_more row first_moves rest =
    alike_instead (instead row (singled first_moves)) rest rest (alike_itself rest) []
    ∙ ap (added []) (instead_instead row (singled first_moves) rest)
    ∙ instead_alike row (instead (singled first_moves) rest) (instead first_moves rest)
    (alike_instead first_moves rest rest (alike_itself rest)) []

pub no_more : (row : List Move) → singled (instead row (End ∷ [])) ≡ singled row
no_more row = ap (added []) (instead_end row)

pub without_the_end : (row next : List Move) → has row End ≡ false → instead row next ≡ row
without_the_end [] next none = refl
without_the_end (End ∷ row) next none = absurd (true≢false none)
without_the_end (To n ∷ row) next none = ap (To n ∷◌) (without_the_end row next none)

pub without_end_left : (row next : List Move) → has row End ≡ false
    → singled (instead row next) ≡ singled row
without_end_left row next none = ap (added []) (without_the_end row next none)

-- a row that has each of its moves once stays as it is
pub singled_twice : (xs : List Move) → singled (singled xs) ≡ singled xs
singled_twice xs = alike_singled xs []

pub added_singled : (row xs : List Move) → added row (singled xs) ≡ added row xs
added_singled row xs = alike_singled xs row

pub alternatives : (row first_moves rest : List Move)
    → added (added row (singled first_moves)) rest ≡ added row (first_moves ++ rest)
alternatives row first_moves rest = ap (λ (start : List Move). added start rest) (added_singled row first_moves)
    ∙ sym (added_more row first_moves rest)
