-- A row with another one in the place of its end, where each has its moves once: the moves of the
-- other one that stand before the end are left out, and those after the end that the other one has.
use Rattle.std.proofs.Common.{◌≡◌, ◌+◌, ◌-◌, ℕ, suc, Bool, true, false, ◌||◌, not, List, []}
use Rattle.std.proofs.Common.{◌∷◌, ◌++◌, take, drop, length, Option, Some, None, option_map, refl}
use Rattle.std.proofs.Common.{sym, ap, ap₂, subst, ◌∙◌, arith, if◌then◌else◌}
use Rattle.std.proofs.lemmas.Bool.{true≢false, and_parts, and_from}
use Rattle.std.proofs.Math.Numerals.{suc-eq-add-one}
use Rattle.std.proofs.lemmas.List.{take-map, drop-map, take_all, length-drop, map-append}
use Rattle.std.proofs.lemmas.Option.{none-some, same_Some}
use Rattle.cd_model.specs.AllOf.{AllOf}
use Rattle.cd_moves.specs.Automaton.{Move, End, To, same_move, instead, without, once}
use Rattle.cd_moves.specs.declared.moves.Move.{Move as CodeMove}
use Rattle.cd_moves.specs.Inner.PlainMoves.{plain_move, plain_moves, has, has_each_once}
use Rattle.cd_moves.specs.Inner.Rows.{with_move, added, followed, end_of, less, between}
use Rattle.cd_moves.proofs.RowsMade.{followed_is}
use Rattle.cd_moves.proofs.RowsOnce.{are_same, same_as_itself, added_more, added_is}
use Rattle.cd_moves.proofs.RowsOnce.{less_nothing, has_end, without_the_end, instead_append}
use Rattle.cd_moves.proofs.RowsOnce.{or_assoc}

abbrev HasOnce : List Move → Type 0
HasOnce row = has_each_once row ≡ true

same_turned : (one other : Move) → same_move one other ≡ same_move other one
same_turned one other = by_tests (same_move one other) (same_move other one) refl refl
  where
    by_tests : (a b : Bool) → same_move one other ≡ a → same_move other one ≡ b → a ≡ b
    by_tests true true first second = refl
    by_tests false false first second = refl
    by_tests true false first second = sym (same_as_itself one)
        ∙ ap (λ (m : Move). same_move m one) (are_same one other first) ∙ second
    by_tests false true first second = sym first
        ∙ ap (λ (m : Move). same_move m other) (sym (are_same other one second))
        ∙ same_as_itself other

not_true : (b : Bool) → not b ≡ true → b ≡ false
not_true true h = absurd (true≢false (sym h))
not_true false h = refl

neither : (a b : Bool) → (a || b) ≡ false → (a ≡ false) × (b ≡ false)
neither true b h = absurd (true≢false h)
neither false b h = (refl, h)

-- the first move is not among the others, each of which stands there once
first_once : (move : Move) (row : List Move) → HasOnce (move ∷ row)
    → (has row move ≡ false) × HasOnce row
first_once move row once =
    let parts = and_parts (not (has row move)) (has_each_once row) once in
    (not_true (has row move) parts.0, parts.1)

begins_once : (move : Move) (row : List Move) → has row move ≡ false → HasOnce row
    → HasOnce (move ∷ row)
begins_once move row none once =
    and_from (not (has row move)) (has_each_once row) (ap not none) once

-- one more at the end
ends_once : (row : List Move) (move : Move) → HasOnce row → has row move ≡ false
    → HasOnce (row ++ move ∷ [])
ends_once [] move once none = refl
ends_once (first ∷ row) move once none =
    let parts = first_once first row once in
    let differ = neither (same_move first move) (has row move) none in
    begins_once first (row ++ move ∷ [])
    (has_end row move first ∙ ap₂ (λ (a b : Bool). a || b) parts.0
    (same_turned move first ∙ differ.0)) (ends_once row move parts.1 differ.1)

added_has_once : (row moves : List Move) → HasOnce row → HasOnce (added row moves)
added_has_once row [] once = once
added_has_once row (move ∷ moves) once =
    added_has_once (with_move row move) moves (by_test (has row move) refl)
  where
    by_test : (b : Bool) → has row move ≡ b → HasOnce (if b then row else row ++ move ∷ [])
    by_test true there = once
    by_test false none = ends_once row move once none

pub followed_has_once : (row next : List Move) → HasOnce (followed row next)
followed_has_once row next = subst HasOnce (sym (followed_is row next))
    (added_has_once [] (instead row next) refl)

without_none : (move : Move) (row : List Move) → has row move ≡ false → without move row ≡ row
without_none move [] none = refl
without_none move (first ∷ row) none =
    let differ = neither (same_move first move) (has row move) none in
    ap (λ (b : Bool). if b then without move row else first ∷ without move row)
    (same_turned move first ∙ differ.0) ∙ ap (first ∷◌) (without_none move row differ.1)

once_same : (row : List Move) → HasOnce row → once row ≡ row
once_same [] is = refl
once_same (move ∷ row) is =
    let parts = first_once move row is in
    ap (λ (moves : List Move). move ∷ without move moves) (once_same row parts.1)
    ∙ ap (move ∷◌) (without_none move row parts.0)

-- such a row after others
added_less : (row moves : List Move) → HasOnce moves → added row moves ≡ row ++ less row moves
added_less row moves is = added_is row moves ∙ ap (λ (list : List Move). row ++ less row list)
    (once_same moves is)

has_append : (xs ys : List Move) (move : Move)
    → has (xs ++ ys) move ≡ (has xs move || has ys move)
has_append [] ys move = refl
has_append (x ∷ xs) ys move = ap (same_move x move ||◌) (has_append xs ys move)
    ∙ sym (or_assoc (same_move x move) (has xs move) (has ys move))

-- a move that is not in a row is among those of others that are not, where it is among the others
has_less : (row moves : List Move) (move : Move) → has row move ≡ false
    → has (less row moves) move ≡ has moves move
has_less row [] move none = refl
has_less row (first ∷ moves) move none = by_test (has row first) refl (has_less row moves move none)
  where
    same_no_more : has row first ≡ true → same_move first move ≡ false
    same_no_more there = by_same (same_move first move) refl
      where
        by_same : (b : Bool) → same_move first move ≡ b → b ≡ false
        by_same true same = absurd (true≢false (sym there
            ∙ ap (has row) (are_same first move same) ∙ none))
        by_same false differs = refl

    by_test : (b : Bool) → has row first ≡ b → has (less row moves) move ≡ has moves move
        → has (if b then less row moves else first ∷ less row moves) move
        ≡ (same_move first move || has moves move)
    by_test true there on =
        on ∙ ap (λ (b : Bool). b || has moves move) (sym (same_no_more there))
    by_test false absent on = ap (same_move first move ||◌) on

-- none of these is in a row
abbrev AreNotIn : List Move → List Move → Type 0
AreNotIn row = AllOf (λ move. has row move ≡ false)

less_disjoint : (before next after : List Move) → AreNotIn before after
    → less (before ++ less before next) after ≡ less next after
less_disjoint before next [] apart = refl
less_disjoint before next (move ∷ after) apart =
    ap₂ (λ (b : Bool) (rest : List Move). if b then rest else move ∷ rest)
    (has_append before (less before next) move
    ∙ ap (λ (b : Bool). b || has (less before next) move) apart.0
    ∙ has_less before next move apart.0)
    (less_disjoint before next after apart.1)

-- what stands before the end of such a row, and after it
record IsSplit (before after : List Move) : Type 0 where
  first : HasOnce before
  second : HasOnce after
  apart : AreNotIn before after
  end_before : has before End ≡ false
  end_after : has after End ≡ false

disjoint_before : (first : Move) (before after : List Move)
    → has (before ++ End ∷ after) first ≡ false → AreNotIn before after
    → AreNotIn (first ∷ before) after
disjoint_before first before [] none apart = tt
disjoint_before first before (move ∷ after) none apart =
    let parts = neither (has before first) (has (End ∷ move ∷ after) first)
    (sym (has_append before (End ∷ move ∷ after) first) ∙ none) in
    let later = neither (same_move End first) (has (move ∷ after) first) parts.1 in
    let differ = neither (same_move move first) (has after first) later.1 in (
      ap₂ (λ (a b : Bool). a || b) (same_turned first move ∙ differ.0) apart.0,
      disjoint_before first before after
          (has_append before (End ∷ after) first
          ∙ ap₂ (λ (a b : Bool). a || b) parts.0
          (ap₂ (λ (a b : Bool). a || b) later.0 differ.1)) apart.1,
    )

none_disjoint : (after : List Move) → AreNotIn [] after
none_disjoint [] = tt
none_disjoint (move ∷ after) = (refl, none_disjoint after)

split : (before after : List Move) → HasOnce (before ++ End ∷ after) → IsSplit before after
split [] after is =
    let parts = first_once End after is in record {
      first = refl;
      second = parts.1;
      apart = none_disjoint after;
      end_before = refl;
      end_after = parts.0;
    }
split (first ∷ before) after is =
    let parts = first_once first (before ++ End ∷ after) is in
    let rest = split before after parts.1 in
    let none = neither (has before first) (has (End ∷ after) first)
    (sym (has_append before (End ∷ after) first) ∙ parts.0) in
    let end = neither (same_move End first) (has after first) none.1 in record {
      first = begins_once first before none.0 rest.first;
      second = rest.second;
      apart = disjoint_before first before after parts.0 rest.apart;
      end_before = ap₂ (λ (a b : Bool). a || b) (same_turned first End ∙ end.0) rest.end_before;
      end_after = rest.end_after;
    }

instead_between : (before after next : List Move) → has before End ≡ false
    → has after End ≡ false → instead (before ++ End ∷ after) next ≡ before ++ (next ++ after)
instead_between before after next one other = instead_append before (End ∷ after) next
    ∙ ap₂ (λ (xs ys : List Move). xs ++ (next ++ ys)) (without_the_end before next one)
    (without_the_end after next other)

between_is : (before next after : List Move) → IsSplit before after → HasOnce next
    → added [] (before ++ (next ++ after)) ≡ between before next after
between_is before next after parts is =
    added_more [] before (next ++ after)
    ∙ ap (λ (row : List Move). added row (next ++ after))
    (added_less [] before parts.first ∙ less_nothing before)
    ∙ added_more before next after
    ∙ ap (λ (row : List Move). added row after) (added_less before next is)
    ∙ added_less (before ++ less before next) after parts.second
    ∙ ap ((before ++ less before next) ++◌) (less_disjoint before next after parts.apart)

-- a row by the place of its end
end_there : (row : List Move) (place : ℕ) → end_of row ≡ Some place
    → row ≡ take place row ++ End ∷ drop (suc place) row
end_there [] place h = absurd (none-some place h)
end_there (End ∷ row) place h =
    subst (λ (n : ℕ). End ∷ row ≡ take n (End ∷ row) ++ End ∷ drop (suc n) (End ∷ row))
    (same_Some 0 place h) refl
end_there (To number ∷ row) place h = by_rest (end_of row) refl h (end_there row)
  where
    by_rest : (o : Option ℕ) → end_of row ≡ o → option_map suc o ≡ Some place
        → ((later : ℕ) → end_of row ≡ Some later
        → row ≡ take later row ++ End ∷ drop (suc later) row)
        → To number ∷ row
        ≡ take place (To number ∷ row) ++ End ∷ drop (suc place) (To number ∷ row)
    by_rest None none h on = absurd (none-some place h)
    by_rest (Some later) found h on = subst
        (λ (n : ℕ). To number ∷ row
        ≡ take n (To number ∷ row) ++ End ∷ drop (suc n) (To number ∷ row))
        (same_Some (suc later) place h) (ap (To number ∷◌) (on later found))

no_end : (row : List Move) → end_of row ≡ None → has row End ≡ false
no_end [] h = refl
no_end (End ∷ row) h = absurd (none-some 0 (sym h))
no_end (To number ∷ row) h = no_end row (none_before (end_of row) h)
  where
    none_before : (o : Option ℕ) → option_map suc o ≡ None → o ≡ None
    none_before None h = refl
    none_before (Some n) h = absurd (none-some (suc n) (sym h))

pub without_end_followed : (row next : List Move) → HasOnce row → end_of row ≡ None
    → followed row next ≡ row
without_end_followed row next is none = followed_is row next
    ∙ ap (added []) (without_the_end row next (no_end row none))
    ∙ added_less [] row is ∙ less_nothing row

pub end_followed : (row next : List Move) (place : ℕ) → HasOnce row → HasOnce next
    → end_of row ≡ Some place
    → followed row next ≡ between (take place row) next (drop (suc place) row)
end_followed row next place is other h =
    let before = take place row in
    let after = drop (suc place) row in
    let same = end_there row place h in
    let parts = split before after (subst HasOnce same is) in
    followed_is row next
    ∙ ap (λ (moves : List Move). added [] (instead moves next)) same
    ∙ ap (added []) (instead_between before after next parts.end_before parts.end_after)
    ∙ between_is before next after parts other

-- so is what the code makes
pub made_followed : (row next made : List CodeMove) (place : ℕ) → HasOnce (plain_moves row)
    → HasOnce (plain_moves next) → end_of (plain_moves row) ≡ Some place
    → plain_moves made ≡ between (plain_moves (take place row)) (plain_moves next)
    (plain_moves (take (length row - (place + 1)) (drop (place + 1) row)))
    → plain_moves made ≡ followed (plain_moves row) (plain_moves next)
made_followed row next made place is other h made_is =
    let long = length-drop (place + 1) row in
    made_is
    ∙ ap (λ (after : List CodeMove). between (plain_moves (take place row)) (plain_moves next)
    (plain_moves after))
    (take_all (length row - (place + 1)) (drop (place + 1) row) (omega (arith, long)))
    ∙ ap₂ (λ (before after : List Move). between before (plain_moves next) after)
    (sym (take-map plain_move place row))
    (sym (drop-map plain_move (place + 1) row)
    ∙ ap (λ (n : ℕ). drop n (plain_moves row)) (sym (suc-eq-add-one place)))
    ∙ sym (end_followed (plain_moves row) (plain_moves next) place is other h)

-- a move that was not there is put at the end, or nothing is
pub put_once : (row new : List CodeMove) (one : CodeMove) (done : Bool)
    → HasOnce (plain_moves row) → has (plain_moves row) (plain_move one) ≡ false
    → new ≡ (if done then row ++ one ∷ [] else row) → HasOnce (plain_moves new)
put_once row new one true is none made = subst HasOnce
    (sym (ap plain_moves made ∙ map-append plain_move row (one ∷ [])))
    (ends_once (plain_moves row) (plain_move one) is none)
put_once row new one false is none made =
    subst (λ (moves : List CodeMove). HasOnce (plain_moves moves)) (sym made) is
