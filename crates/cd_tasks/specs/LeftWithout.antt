-- What is left of a task without the member at a place.
use Rattle.std.specs.Prelude.{◌≡◌, ℕ, List, [], Some, slice_get}
use Rattle.std.specs.List.{remove}
use Rattle.cd_model.specs.AllOf.{AnyOf}
use Rattle.cd_rules.specs.Clauses.{Clause, Pairs, Xmls, Records, Arrows, Pair, Triple}
use Rattle.cd_rules.specs.Tasks.{Task, PairTask, XmlTask, ArrowTask, RecordTask, TakesAll}

-- the members that were given to none but the one at this place of them, as a clause that refuses
-- them
abbrev pub left_without : (place : ℕ) → Task → Clause
left_without place (PairTask wanted refused given left) = Pairs [] (remove left place)
left_without place (XmlTask wanted refused given left) = Xmls [] (remove left place)
left_without place (ArrowTask refused wanted given left) = Arrows [] (remove left place)
left_without place (RecordTask wanted refused given left) = Records [] (remove left place)

-- the one at a place is taken out of a list, alone or with others
abbrev pub IsTakenAt : {X : Type 0} → (all : List X) → (place : ℕ) → (rest : List X) → Type 0
IsTakenAt {X} all place rest = (group : List X) × TakesAll group all rest
    × AnyOf (λ one. slice_get all place ≡ Some one) group

-- the members that were given to none without the group of the one at this place of them, as a
-- clause that refuses them; of record types that one is without a group
abbrev pub IsLeftWithout : (place : ℕ) → Task → Clause → Type 0
IsLeftWithout place (PairTask wanted refused given left) clause =
    (rest : List Pair) × (clause ≡ Pairs [] rest) × IsTakenAt left place rest
IsLeftWithout place (XmlTask wanted refused given left) clause =
    (rest : List Triple) × (clause ≡ Xmls [] rest) × IsTakenAt left place rest
IsLeftWithout place (ArrowTask refused wanted given left) clause =
    (rest : List Pair) × (clause ≡ Arrows [] rest) × IsTakenAt left place rest
IsLeftWithout place (RecordTask wanted refused given left) clause =
    clause ≡ Records [] (remove left place)
