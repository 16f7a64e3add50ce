-- What a clause needs to have a member: of each need one way, and for a way a member of each of its
-- questions.
use Rattle.std.specs.Prelude.{◌≡◌, ◌⊎◌, ℤ, ℕ, true, false, List, [], ◌∷◌, ◌++◌, map, nat_lt, nat_eq}
use Rattle.std.specs.Prelude.{if◌then◌else◌}
use Rattle.std.specs.Char.{IsScalar}
use Rattle.cd_sets.specs.declared.node_id.NodeId.{NodeId}
use Rattle.cd_sets.specs.declared.question.Question.{Question}
use Rattle.cd_sets.specs.Interval as integers
use Rattle.cd_sets.specs.Characters.{holds_character}
use Rattle.cd_sets.specs.Atoms as atoms
use Rattle.cd_syntax.specs.Integer.{IsInteger}
use Rattle.cd_syntax.specs.Name.{Name, IsLabel}
use Rattle.cd_model.specs.AllOf.{AllOf}
use Rattle.cd_model.specs.BuiltIns.{ATOM, RECORD}
use Rattle.cd_rules.specs.Clauses.{Clause, Ints, Chars, Atoms, Pairs, Xmls, Records, Arrows, Pair}
use Rattle.cd_rules.specs.Clauses.{Triple}

-- a number among those of a set, which rise
abbrev pub with_id : NodeId → List NodeId → List NodeId
with_id id [] = id ∷ []
with_id id (other ∷ rest) =
    if nat_lt id.0 other.0 then id ∷ other
    ∷ rest else (if nat_eq id.0 other.0 then other ∷ rest else other ∷ with_id id rest)

-- the set of these
abbrev pub set_of : List NodeId → List NodeId
set_of [] = []
set_of (id ∷ ids) = with_id id (set_of ids)

-- what is in each of these nodes and in none of those
abbrev pub question : (pos neg : List NodeId) → Question
question pos neg = record { pos = set_of pos; neg = set_of neg }

abbrev pub Way : Type 0
Way = List Question

abbrev pub Need : Type 0
Need = List Way

-- each of these is given to the one side or to the other, in every manner
abbrev pub to_one : {X : Type 0} → X → List X × List X → List X × List X
to_one x sides = (x ∷ sides.0, sides.1)

abbrev pub to_other : {X : Type 0} → X → List X × List X → List X × List X
to_other x sides = (sides.0, x ∷ sides.1)

abbrev pub splits : {X : Type 0} → List X → List (List X × List X)
splits [] = ([], []) ∷ []
splits (x ∷ xs) = map (to_one x) (splits xs) ++ map (to_other x) (splits xs)

-- A pair is outside a refused one by its first part or by its second: each refused one is given to
-- one of the parts
abbrev pub pair_way : (wanted : List Pair) → List Pair × List Pair → Way
pair_way wanted given = question (map (λ parts. parts.0) wanted) (map (λ parts. parts.0) given.0)
    ∷ question (map (λ parts. parts.1) wanted) (map (λ parts. parts.1) given.1) ∷ []

-- the same with three parts; the first is an atom too, and the second a record
abbrev pub xml_way : (wanted : List Triple) → List Triple × List Triple × List Triple → Way
xml_way wanted given = question (ATOM ∷ map (λ parts. parts.0) wanted)
    (map (λ parts. parts.0) given.0)
    ∷ question (RECORD ∷ map (λ parts. parts.1) wanted) (map (λ parts. parts.1) given.1)
    ∷ question (map (λ parts. parts.2) wanted) (map (λ parts. parts.2) given.2) ∷ []

abbrev pub to_last : {X : Type 0} → X → List X × List X × List X → List X × List X × List X
to_last x sides = (sides.0, sides.1, x ∷ sides.2)

abbrev pub to_first : {X : Type 0} → X → List X × List X × List X → List X × List X × List X
to_first x sides = (x ∷ sides.0, sides.1, sides.2)

abbrev pub to_middle : {X : Type 0} → X → List X × List X × List X → List X × List X × List X
to_middle x sides = (sides.0, x ∷ sides.1, sides.2)

abbrev pub splits_in_three : {X : Type 0} → List X → List (List X × List X × List X)
splits_in_three [] = ([], [], []) ∷ []
splits_in_three (x ∷ xs) =
    map (to_first x) (splits_in_three xs) ++ map (to_middle x) (splits_in_three xs)
    ++ map (to_last x) (splits_in_three xs)

-- A function is outside a refused arrow by a pair whose argument is in the argument of that arrow
-- and whose result is outside its result. The pair's argument is outside the arguments of some
-- wanted arrows, and its result is in the results of all others; where there are no others the pair
-- may fail, and have no result
abbrev pub result_questions : (refused : Pair) → (others : List Pair) → Way
result_questions refused [] = []
result_questions refused (one ∷ others) =
    question (map (λ parts. parts.1) (one ∷ others)) (refused.1 ∷ []) ∷ []

abbrev pub arrow_way : (refused : Pair) → List Pair × List Pair → Way
arrow_way refused given =
    question (refused.0 ∷ []) (map (λ parts. parts.0) given.0) ∷ result_questions refused given.1

-- a basic kind has one need without ways where no thing is in every wanted set and in no refused
-- one, and else no need; of records there are rows
abbrev pub empty_or_not : {X : Type 0} → (X → Type 0) → List Need → Type 0
empty_or_not {X} IsMember needs = (((x : X) → IsMember x → ⊥) × (needs ≡ [] ∷ []))
    ⊎ ((x : X) × IsMember x × (needs ≡ []))

abbrev pub AreNeeds : Clause → List Need → Type 0
AreNeeds (Ints wanted refused) needs = empty_or_not (λ (z : ℤ). IsInteger z
    × AllOf (λ set. integers.holds set z ≡ true) wanted
    × AllOf (λ set. integers.holds set z ≡ false) refused) needs
AreNeeds (Chars wanted refused) needs = empty_or_not (λ (c : ℕ). IsScalar c
    × AllOf (λ set. holds_character set c ≡ true) wanted
    × AllOf (λ set. holds_character set c ≡ false) refused) needs
AreNeeds (Atoms wanted refused) needs = empty_or_not (λ (name : Name). IsLabel name
    × AllOf (λ set. atoms.holds set name ≡ true) wanted
    × AllOf (λ set. atoms.holds set name ≡ false) refused) needs
AreNeeds (Pairs wanted refused) needs = needs ≡ map (pair_way wanted) (splits refused) ∷ []
AreNeeds (Xmls wanted refused) needs = needs ≡ map (xml_way wanted) (splits_in_three refused) ∷ []
AreNeeds (Arrows wanted refused) needs =
    needs ≡ map (λ one. map (arrow_way one) (splits wanted)) refused
AreNeeds (Records wanted refused) needs = ⊥
