-- The first moves of some expressions, from the first expression on: a step to those after it.
use Rattle.std.proofs.Common.{◌≡◌, ◌+◌, ◌<◌, ◌≤◌, ℕ, Bool, true, false, List, map, length, get_or}
use Rattle.std.proofs.Common.{drop, sym, ap, ap₂, ◌∙◌, arith}
use Rattle.std.specs.Prelude.{if◌then◌else◌}
use Rattle.cd_sets.specs.declared.node_id.NodeId.{NodeId}
use Rattle.cd_matching.specs.Pattern.{Regular, Regulars, ARegular, regulars_of}
use Rattle.cd_matching.specs.PlainPattern.{plain_regular}
use Rattle.cd_matching.specs.declared.pattern.RegPat.{RegPat as CodeRegular}
use Rattle.cd_moves.specs.Automaton.{Move, End, items_in, items_in_all}
use Rattle.cd_moves.specs.Inner.PlainMoves.{has}
use Rattle.cd_moves.specs.Inner.Rows.{followed, added, first_moves_row, first_moves_in_turn_row}
use Rattle.cd_moves.specs.Inner.Rows.{first_moves_of_one_row}
use Rattle.cd_moves.proofs.LastPart.{parts_left}
use Rattle.cd_moves.proofs.NextItem.{at_item}

pub first_left : (all : List CodeRegular) (index : ℕ) (item : CodeRegular)
    → item ≡ get_or all index item → index < length all
    → parts_left all index ≡ ARegular (plain_regular item) (parts_left all (index + 1))
first_left = at_item (λ left. regulars_of (map plain_regular left))

pub in_turn_next : (first : Regular NodeId) (rest left : Regulars NodeId) (at count : ℕ)
    (row first_moves new whole : List Move) → left ≡ ARegular first rest → count ≡ items_in first
    → first_moves ≡ first_moves_row first at → new ≡ followed row first_moves → has row End ≡ true
    → first_moves_in_turn_row row left at ≡ whole → first_moves_in_turn_row new rest (at + count) ≡ whole
in_turn_next first rest left at count row first_moves new whole are same first_moves_are made more so_far =
    ap₂ (λ (n : ℕ) (next : List Move). first_moves_in_turn_row next rest (at + n)) same
    (made ∙ ap (followed row) first_moves_are)
    ∙ sym (ap (λ (b : Bool). if b
    then first_moves_in_turn_row (followed row (first_moves_row first at)) rest (at + items_in first)
    else row) more)
    ∙ sym (ap (λ (parts : Regulars NodeId). first_moves_in_turn_row row parts at) are)
    ∙ so_far

pub in_turn_ends : (first : Regular NodeId) (rest left : Regulars NodeId) (at : ℕ)
    (row whole : List Move) → left ≡ ARegular first rest → has row End ≡ false
    → first_moves_in_turn_row row left at ≡ whole → row ≡ whole
in_turn_ends first rest left at row whole are none so_far =
    sym (ap (λ (b : Bool). if b
    then first_moves_in_turn_row (followed row (first_moves_row first at)) rest (at + items_in first)
    else row) none)
    ∙ sym (ap (λ (parts : Regulars NodeId). first_moves_in_turn_row row parts at) are)
    ∙ so_far

pub of_one_next : (first : Regular NodeId) (rest left : Regulars NodeId) (at count : ℕ)
    (row first_moves new whole : List Move) → left ≡ ARegular first rest → count ≡ items_in first
    → first_moves ≡ first_moves_row first at → new ≡ added row first_moves
    → first_moves_of_one_row row left at ≡ whole → first_moves_of_one_row new rest (at + count) ≡ whole
of_one_next first rest left at count row first_moves new whole are same first_moves_are made so_far =
    ap₂ (λ (n : ℕ) (next : List Move). first_moves_of_one_row next rest (at + n)) same
    (made ∙ ap (added row) first_moves_are)
    ∙ sym (ap (λ (parts : Regulars NodeId). first_moves_of_one_row row parts at) are)
    ∙ so_far

-- the place after one more, and what is left
pub further : (first : Regular NodeId) (rest left : Regulars NodeId) (at count total : ℕ)
    → left ≡ ARegular first rest → count ≡ items_in first → at + items_in_all left ≡ total
    → at + count + items_in_all rest ≡ total
further first rest left at count total are same sum =
    let more = ap items_in_all are in omega (arith, more, same, sum)
