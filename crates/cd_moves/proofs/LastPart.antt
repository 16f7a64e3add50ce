-- What is made of parts from the last one on: a step to the part before those that were gone over.
use Rattle.std.proofs.Common.{◌≡◌, ◌+◌, ◌-◌, ◌<◌, ◌≤◌, ℕ, zero, suc, List, [], ◌∷◌, ◌++◌, map}
use Rattle.std.proofs.Common.{length}
use Rattle.std.proofs.Common.{reverse, get_or, drop, refl, sym, ap, ap₂, ◌∙◌, arith}
use Rattle.std.proofs.lemmas.List.{append_assoc, map-append, reverse-append}
use Rattle.cd_sets.specs.declared.node_id.NodeId.{NodeId}
use Rattle.cd_matching.specs.Pattern.{Regular, Regulars, ARegular, regulars_of}
use Rattle.cd_matching.specs.PlainPattern.{plain_regular}
use Rattle.cd_matching.specs.declared.pattern.RegPat.{RegPat as CodeRegular}
use Rattle.cd_moves.specs.Automaton.{Move, items_in, items_in_all}
use Rattle.cd_moves.specs.Inner.Rows.{plain_row, plain_rows, followed, first_moves_row, after_row}
use Rattle.cd_moves.specs.Inner.Rows.{rows_back, rows_back_in_turn, rows_back_of_one}
use Rattle.cd_moves.specs.declared.moves.Moves.{Moves as CodeMoves}
use Rattle.cd_moves.proofs.NextItem.{at_item}

abbrev pub parts_left : List CodeRegular → ℕ → Regulars NodeId
parts_left all index = regulars_of (map plain_regular (drop index all))

pub one_more_left : (all : List CodeRegular) (index : ℕ) (item : CodeRegular)
    → item ≡ get_or all (index - 1) item → 0 < index → index ≤ length all
    → parts_left all (index - 1) ≡ ARegular (plain_regular item) (parts_left all index)
one_more_left all index item is some within =
    at_item (λ left. regulars_of (map plain_regular left)) all (index - 1) item is
    (omega (arith, some, within))
    ∙ ap (λ (n : ℕ). ARegular (plain_regular item) (parts_left all n)) (back index some)
  where
    back : (index : ℕ) → 0 < index → index - 1 + 1 ≡ index
    back index some = omega (arith, some)

pub left_are_fewer : (all : List CodeRegular) (index : ℕ)
    → items_in_all (parts_left all index) ≤ items_in_all (regulars_of (map plain_regular all))
left_are_fewer all zero = omega arith
left_are_fewer [] (suc index) = omega arith
left_are_fewer (first ∷ all) (suc index) =
    let less = left_are_fewer all index in omega (arith, less)

-- the place of a part before another place
pub before_part : (at count items : ℕ) → count ≡ items → count ≤ at → at - count + items ≡ at
before_part at count items same within = omega (arith, same, within)

pub after_step : (first : Regular NodeId) (rest left : Regulars NodeId) (at less : ℕ)
    (next after first_moves new : List Move) → left ≡ ARegular first rest
    → less + items_in first ≡ at → after ≡ after_row rest at next → first_moves ≡ first_moves_row first less
    → new ≡ followed first_moves after → new ≡ after_row left less next
after_step first rest left at less next after first_moves new are sum is first_moves_are made = made
    ∙ ap₂ followed first_moves_are
    (is ∙ ap (λ (n : ℕ). after_row rest n next) (sym sum))
    ∙ sym (ap (λ (parts : Regulars NodeId). after_row parts less next) are)

pub in_turn_step : (first : Regular NodeId) (rest left : Regulars NodeId) (at less : ℕ)
    (next after : List Move) (old rows new : List (List Move)) → left ≡ ARegular first rest
    → less + items_in first ≡ at → after ≡ after_row rest at next
    → rows ≡ old ++ rows_back_in_turn rest at next
    → new ≡ rows ++ rows_back first less after → new ≡ old ++ rows_back_in_turn left less next
in_turn_step first rest left at less next after old rows new are sum is so_far made = made
    ∙ ap₂ (λ (a b : List (List Move)). a ++ b)
    (so_far ∙ ap (λ (n : ℕ). old ++ rows_back_in_turn rest n next) (sym sum))
    (ap (rows_back first less) (is ∙ ap (λ (n : ℕ). after_row rest n next) (sym sum)))
    ∙ append_assoc old (rows_back_in_turn rest (less + items_in first) next)
    (rows_back first less (after_row rest (less + items_in first) next))
    ∙ sym (ap (λ (parts : Regulars NodeId). old ++ rows_back_in_turn parts less next) are)

pub of_one_step : (first : Regular NodeId) (rest left : Regulars NodeId) (at less : ℕ)
    (next : List Move) (old rows new : List (List Move)) → left ≡ ARegular first rest
    → less + items_in first ≡ at → rows ≡ old ++ rows_back_of_one rest at next
    → new ≡ rows ++ rows_back first less next → new ≡ old ++ rows_back_of_one left less next
of_one_step first rest left at less next old rows new are sum so_far made = made
    ∙ ap (λ (all : List (List Move)). all ++ rows_back first less next)
    (so_far ∙ ap (λ (n : ℕ). old ++ rows_back_of_one rest n next) (sym sum))
    ∙ append_assoc old (rows_back_of_one rest (less + items_in first) next)
    (rows_back first less next)
    ∙ sym (ap (λ (parts : Regulars NodeId). old ++ rows_back_of_one parts less next) are)

pub rows_turned : (rows : List CodeMoves) → plain_rows (reverse rows) ≡ reverse (plain_rows rows)
rows_turned [] = refl
rows_turned (row ∷ rows) = ap plain_rows (reverse-append (row ∷ []) rows)
    ∙ map-append plain_row (reverse rows) (row ∷ [])
    ∙ ap (λ (all : List (List Move)). all ++ plain_row row ∷ []) (rows_turned rows)
    ∙ sym (reverse-append (plain_row row ∷ []) (plain_rows rows))
