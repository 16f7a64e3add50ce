-- Words, which give the first members of a list to sides; and what a clause asks by a word.
use Rattle.std.specs.Prelude.{ℕ, zero, suc, ◌+◌, ◌-◌, ◌==◌, Bool, true, false, not, ◌&&◌, ◌≢◌}
use Rattle.std.specs.Prelude.{List, [], ◌∷◌, ◌++◌, map, length, Option, Some, None}
use Rattle.std.specs.Prelude.{if◌then◌else◌}
use Rattle.std.specs.List.{filter, slice_get}
use Rattle.cd_syntax.specs.Name.{Name}
use Rattle.cd_model.specs.AllOf.{AllOf}
use Rattle.cd_rules.specs.Clauses.{Clause, Pairs, Xmls, Arrows, Pair, RecordType}
use Rattle.cd_rules.specs.Needs.{Way, to_one, to_other, to_first, to_middle, to_last, pair_way}
use Rattle.cd_rules.specs.Needs.{xml_way, arrow_way}
use Rattle.cd_rules.specs.Rows.{Reason, Reasons, Row, labels_of, row_of}

-- the side of each of the first members
abbrev pub Word : Type 0
Word = List ℕ

-- these words with a side before them, for each of so many sides from the first on
abbrev pub each_side : (first count : ℕ) → List Word → List Word
each_side first zero words = []
each_side first (suc count) words =
    map (λ word. first ∷ word) words ++ each_side (first + 1) count words

-- the words of at most so many members, each before those that begin with it
abbrev pub all_words : (sides members : ℕ) → List Word
all_words sides zero = [] ∷ []
all_words sides (suc members) = [] ∷ each_side 0 sides (all_words sides members)

-- the words that give a side to every member
abbrev pub full_words : (sides members : ℕ) → List Word
full_words sides members =
    filter (λ word. length word == members) (all_words sides members)

-- whether a longer word begins with this one
abbrev pub begins_with : (word longer : Word) → Bool
begins_with [] longer = true
begins_with (side ∷ word) [] = false
begins_with (side ∷ word) (other ∷ longer) = (side == other) && begins_with word longer

-- the words that do not begin with this one
abbrev pub without_those_from : Word → List Word → List Word
without_those_from word words = filter (λ longer. not (begins_with word longer)) words

-- no word stands twice among these
abbrev pub Differ : List Word → Type 0
Differ [] = Unit {0}
Differ (word ∷ words) = AllOf (λ other. word ≢ other) words × Differ words

-- side 0 of two is the one, and side 1 is the other
abbrev pub to_side : {X : Type 0} → (side : ℕ) → X → List X × List X → List X × List X
to_side side x sides = if side == 0 then to_one x sides else to_other x sides

-- what a word gives to each of two sides
abbrev pub given : {X : Type 0} → Word → List X → List X × List X
given [] members = ([], [])
given (side ∷ word) [] = ([], [])
given (side ∷ word) (x ∷ members) = to_side side x (given word members)

-- side 0 of three is the first, side 1 the middle, and side 2 the last
abbrev pub to_side_of_three : {X : Type 0} → (side : ℕ) → X
    → List X × List X × List X → List X × List X × List X
to_side_of_three side x sides = if side == 0 then to_first x sides
    else (if side == 1 then to_middle x sides else to_last x sides)

-- what a word gives to each of three sides
abbrev pub given_in_three : {X : Type 0} → Word → List X → List X × List X × List X
given_in_three [] members = ([], [], [])
given_in_three (side ∷ word) [] = ([], [], [])
given_in_three (side ∷ word) (x ∷ members) =
    to_side_of_three side x (given_in_three word members)

-- the reason of side 0 is a label that no type names, and those of the other sides are the labels
abbrev pub reason_of : List Name → (side : ℕ) → Reason
reason_of labels side = if side == 0 then None else slice_get labels (side - 1)

-- the reasons that a word gives to the first refused types
abbrev pub reasons_by : List Name → Word → (refused : List RecordType) → Reasons
reasons_by labels [] refused = []
reasons_by labels (side ∷ word) [] = []
reasons_by labels (side ∷ word) (type ∷ refused) =
    (type, reason_of labels side) ∷ reasons_by labels word refused

-- the row that a word makes
abbrev pub row_by : (wanted refused : List RecordType) → Word → Row
row_by wanted refused word = row_of (labels_of (wanted ++ refused)) wanted
    (reasons_by (labels_of (wanted ++ refused)) word refused)

-- a clause of pairs, of XML elements or of functions: its needs have ways
abbrev pub HasWays : Clause → Type 0
HasWays (Pairs wanted refused) = Unit {0}
HasWays (Xmls wanted refused) = Unit {0}
HasWays (Arrows wanted refused) = Unit {0}
HasWays clause = ⊥

-- how many needs such a clause has
abbrev pub count_needs : Clause → ℕ
count_needs (Pairs wanted refused) = 1
count_needs (Xmls wanted refused) = 1
count_needs (Arrows wanted refused) = length refused
count_needs clause = 0

-- to how many sides its members are given
abbrev pub sides_of : Clause → ℕ
sides_of (Pairs wanted refused) = 2
sides_of (Xmls wanted refused) = 3
sides_of (Arrows wanted refused) = 2
sides_of clause = 0

-- how many members are given: the refused ones, or the wanted arrows
abbrev pub members_of : Clause → ℕ
members_of (Pairs wanted refused) = length refused
members_of (Xmls wanted refused) = length refused
members_of (Arrows wanted refused) = length wanted
members_of clause = 0

-- the way of an arrow, if there is one
abbrev pub way_outside : Option Pair → List Pair × List Pair → Way
way_outside None sides = []
way_outside (Some refused) sides = arrow_way refused sides

-- the way of a need that a word makes; the needs of arrows are those of the refused ones
abbrev pub way_of : Clause → (need : ℕ) → Word → Way
way_of (Pairs wanted refused) need word = pair_way wanted (given word refused)
way_of (Xmls wanted refused) need word = xml_way wanted (given_in_three word refused)
way_of (Arrows wanted refused) need word = way_outside (slice_get refused need) (given word wanted)
way_of clause need word = []
