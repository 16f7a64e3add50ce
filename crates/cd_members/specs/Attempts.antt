-- What an attempt at a task gives.
use Rattle.std.specs.Prelude.{◌≡◌, List, [], ◌∷◌}
use Rattle.cd_model.specs.Formula.{Graph}
use Rattle.cd_model.specs.Kinds.{kind_of}
use Rattle.cd_model.specs.Membership.{reader}
use Rattle.cd_model.specs.Thing.{Thing, Pairs, IsElement}
use Rattle.cd_rules.specs.Clauses.{Clause, Arrows, Pair, IsInClause}
use Rattle.cd_rules.specs.MadeForTasks.{IsFunctionBut, arrows_of}
use Rattle.cd_rules.specs.Tasks.{Task, IsTaskOf}
use Rattle.cd_elements.specs.Table.{Names, IsResult, element_at, result_at, pair_before}
use Rattle.cd_members.specs.Held.{IsHeldAt}
use Rattle.cd_members.specs.declared.attempt.Attempt.{Attempt}
use Rattle.cd_members.specs.declared.attempt.Attempt.TheVariants.{Held, Made, Maps}

-- an element is in each clause that a task is of
abbrev pub IsElementFor : Graph → Task → Thing → Type 0
IsElementFor graph task e = IsElement e
    × ((clause : Clause) → IsTaskOf clause task → IsInClause (kind_of e) (reader graph e) clause)

-- where this task and later ones are left for a function, with one more pair the later ones are
abbrev pub IsPairFor : Graph → Task → (pair : Pairs → Pairs) → Type 0
IsPairFor graph task pair = (wanted refused : List Pair) (later : List Task) (pairs : Pairs)
    → IsTaskOf (Arrows wanted refused) task
    → IsFunctionBut graph wanted refused (arrows_of (task ∷ later)) pairs
    → IsFunctionBut graph wanted refused (arrows_of later) (pair pairs)

-- a task is for a refused arrow
abbrev pub IsForArrow : Task → Type 0
IsForArrow task = (arrow : Pair) × (arrows_of (task ∷ []) ≡ arrow ∷ [])

-- what is made of parts for a task
abbrev pub IsAttempt : Graph → (table : List Thing) → Task → (parts : List Thing) → Attempt
    → Type 0
IsAttempt graph table task parts (Held place) = IsHeldAt graph parts task place
IsAttempt graph table task parts (Made id) =
    Names table id × IsElementFor graph task (element_at table id)
IsAttempt graph table task parts (Maps from to) =
    Names table from × IsResult table to × IsForArrow task
    × IsPairFor graph task (pair_before (element_at table from) (result_at table to))
