-- What a word gives to a side is among what a longer one gives to it, so its way is within the longer word's.
use Rattle.std.proofs.Common.{◌≡◌, subst, ℕ, ◌==◌, Bool, true, false, List, [], ◌∷◌, map, Option, Some, None, if◌then◌else◌, true≢false, sym}
use Rattle.std.proofs.lemmas.Bool.{and_parts}
use Rattle.std.proofs.lemmas.Bool.Decides.{Decides-eqb}
use Rattle.std.specs.List.{slice_get}
use Rattle.cd_sets.specs.declared.node_id.NodeId.{NodeId}
use Rattle.cd_model.specs.BuiltIns.{ATOM, RECORD}
use Rattle.cd_rules.proofs.Among.{among_both, among_itself, among_map, among_sets}
use Rattle.cd_rules.specs.Clauses.{Clause, Ints, Chars, Atoms, Pairs, Xmls, Records, Arrows, Pair, Triple}
use Rattle.cd_rules.specs.Family.{AreAmong, IsSubsumedBy}
use Rattle.cd_rules.specs.Needs.{question, pair_way, xml_way, result_questions, to_one, to_other, to_first, to_middle, to_last}
use Rattle.cd_tasks.specs.Assignments.{Word, begins_with, given, given_in_three, to_side, to_side_of_three, way_of, way_outside}
use Rattle.cd_tasks.specs.Within.{IsWayWithin}

-- where a longer word begins with one, it begins with its side, and the rest with its rest
pub same_side : (side other : ℕ) (word longer : Word) → begins_with (side ∷ word) (other ∷ longer) ≡ true → side ≡ other
same_side side other word longer begins = (Decides-eqb side other).0 (and_parts (side == other) (begins_with word longer) begins).0

pub begins_later : (side other : ℕ) (word longer : Word) → begins_with (side ∷ word) (other ∷ longer) ≡ true → begins_with word longer ≡ true
begins_later side other word longer begins = (and_parts (side == other) (begins_with word longer) begins).1

record AreTwoAmong {X : Type 0} (sides longer : List X × List X) : Type 0 where
  one : AreAmong sides.0 longer.0
  other : AreAmong sides.1 longer.1

two_with : {X : Type 0} (x : X) (sides longer : List X × List X) (first : Bool) → AreTwoAmong sides longer
    → AreTwoAmong (if first then to_one x sides else to_other x sides) (if first then to_one x longer else to_other x longer)
two_with x sides longer true are = record { one = among_both x sides.0 longer.0 are.one; other = are.other }
two_with x sides longer false are = record { one = are.one; other = among_both x sides.1 longer.1 are.other }

given_within : {X : Type 0} (word longer : Word) (members : List X) → begins_with word longer ≡ true
    → AreTwoAmong (given word members) (given longer members)
given_within [] longer members begins = record { one = tt; other = tt }
given_within (side ∷ word) [] members begins = absurd (true≢false (sym begins))
given_within (side ∷ word) (other ∷ longer) [] begins = record { one = tt; other = tt }
given_within (side ∷ word) (other ∷ longer) (x ∷ members) begins =
    subst (λ same. AreTwoAmong (to_side side x (given word members)) (to_side same x (given longer members)))
    (same_side side other word longer begins)
    (two_with x (given word members) (given longer members) (side == 0)
    (given_within word longer members (begins_later side other word longer begins)))

record AreThreeAmong {X : Type 0} (sides longer : List X × List X × List X) : Type 0 where
  first : AreAmong sides.0 longer.0
  middle : AreAmong sides.1 longer.1
  last : AreAmong sides.2 longer.2

three_with : {X : Type 0} (x : X) (sides longer : List X × List X × List X) (is_first is_middle : Bool) → AreThreeAmong sides longer
    → AreThreeAmong (if is_first then to_first x sides else (if is_middle then to_middle x sides else to_last x sides))
    (if is_first then to_first x longer else (if is_middle then to_middle x longer else to_last x longer))
three_with x sides longer true is_middle are =
    record { first = among_both x sides.0 longer.0 are.first; middle = are.middle; last = are.last }
three_with x sides longer false true are =
    record { first = are.first; middle = among_both x sides.1 longer.1 are.middle; last = are.last }
three_with x sides longer false false are =
    record { first = are.first; middle = are.middle; last = among_both x sides.2 longer.2 are.last }

three_within : {X : Type 0} (word longer : Word) (members : List X) → begins_with word longer ≡ true
    → AreThreeAmong (given_in_three word members) (given_in_three longer members)
three_within [] longer members begins = record { first = tt; middle = tt; last = tt }
three_within (side ∷ word) [] members begins = absurd (true≢false (sym begins))
three_within (side ∷ word) (other ∷ longer) [] begins = record { first = tt; middle = tt; last = tt }
three_within (side ∷ word) (other ∷ longer) (x ∷ members) begins =
    subst (λ same. AreThreeAmong (to_side_of_three side x (given_in_three word members)) (to_side_of_three same x (given_in_three longer members)))
    (same_side side other word longer begins)
    (three_with x (given_in_three word members) (given_in_three longer members) (side == 0) (side == 1)
    (three_within word longer members (begins_later side other word longer begins)))

-- a question is subsumed where what it is made of has more
pub more_is_subsumed : (pos neg more_pos more_neg : List NodeId) → AreAmong pos more_pos → AreAmong neg more_neg
    → IsSubsumedBy (question more_pos more_neg) (question pos neg)
more_is_subsumed pos neg more_pos more_neg among_pos among_neg = (among_sets pos more_pos among_pos, among_sets neg more_neg among_neg)

-- of the parts of more members too
parts_within : {X : Type 0} (part : X → NodeId) (pos : List NodeId) (members more : List X) → AreAmong members more
    → IsSubsumedBy (question pos (map part more)) (question pos (map part members))
parts_within part pos members more among =
    more_is_subsumed pos (map part members) pos (map part more) (among_itself pos) (among_map part members more among)

pair_within : (wanted : List Pair) (sides longer : List Pair × List Pair) → AreTwoAmong sides longer
    → IsWayWithin (pair_way wanted sides) (pair_way wanted longer)
pair_within wanted sides longer are = (
  parts_within (λ parts. parts.0) (map (λ parts. parts.0) wanted) sides.0 longer.0 are.one,
  (parts_within (λ parts. parts.1) (map (λ parts. parts.1) wanted) sides.1 longer.1 are.other, tt),
)

xml_within : (wanted : List Triple) (sides longer : List Triple × List Triple × List Triple) → AreThreeAmong sides longer
    → IsWayWithin (xml_way wanted sides) (xml_way wanted longer)
xml_within wanted sides longer are = (
  parts_within (λ parts. parts.0) (ATOM ∷ map (λ parts. parts.0) wanted) sides.0 longer.0 are.first,
  (
    parts_within (λ parts. parts.1) (RECORD ∷ map (λ parts. parts.1) wanted) sides.1 longer.1 are.middle,
    (parts_within (λ parts. parts.2) (map (λ parts. parts.2) wanted) sides.2 longer.2 are.last, tt),
  ),
)

result_within : (refused : Pair) (results longer : List Pair) → AreAmong results longer
    → IsWayWithin (result_questions refused results) (result_questions refused longer)
result_within refused [] longer among = tt
result_within refused (one ∷ others) [] among = absurd among.0
result_within refused (one ∷ others) (first ∷ longer) among =
    let result : Pair → NodeId = λ parts. parts.1 in (
      more_is_subsumed (map result (one ∷ others)) (refused.1 ∷ []) (map result (first ∷ longer)) (refused.1 ∷ [])
          (among_map result (one ∷ others) (first ∷ longer) among) (among_itself (refused.1 ∷ [])),
      tt,
    )

arrow_within : (refused : Option Pair) (sides longer : List Pair × List Pair) → AreTwoAmong sides longer
    → IsWayWithin (way_outside refused sides) (way_outside refused longer)
arrow_within None sides longer are = tt
arrow_within (Some refused) sides longer are =
    (parts_within (λ parts. parts.0) (refused.0 ∷ []) sides.0 longer.0 are.one, result_within refused sides.1 longer.1 are.other)

pub way_within : (clause : Clause) (need : ℕ) (word longer : Word) → begins_with word longer ≡ true
    → IsWayWithin (way_of clause need word) (way_of clause need longer)
way_within (Ints wanted refused) need word longer begins = tt
way_within (Chars wanted refused) need word longer begins = tt
way_within (Atoms wanted refused) need word longer begins = tt
way_within (Records wanted refused) need word longer begins = tt
way_within (Pairs wanted refused) need word longer begins =
    pair_within wanted (given word refused) (given longer refused) (given_within word longer refused begins)
way_within (Xmls wanted refused) need word longer begins =
    xml_within wanted (given_in_three word refused) (given_in_three longer refused) (three_within word longer refused begins)
way_within (Arrows wanted refused) need word longer begins =
    arrow_within (slice_get refused need) (given word wanted) (given longer wanted) (given_within word longer wanted begins)
