-- Functions that are made for the tasks of a clause of arrows: a pair for each refused arrow.
use Rattle.std.specs.Prelude.{◌≡◌, ◌⊎◌, true, false, List, [], ◌∷◌}
use Rattle.cd_model.specs.AllOf.{AllOf, AnyOf}
use Rattle.cd_model.specs.Formula.{Graph}
use Rattle.cd_model.specs.Membership.{answers, mapping}
use Rattle.cd_model.specs.Thing.{Thing, Pairs, ArePairs}
use Rattle.cd_rules.specs.Clauses.{Pair}
use Rattle.cd_rules.specs.Tasks.{Task, ArrowTask}

-- a pair is right for an arrow where its argument is outside the arrow's, or its result inside
abbrev pub IsRightPair : Graph → (argument result : Thing) → Pair → Type 0
IsRightPair graph argument result arrow =
    answers graph argument arrow.0 false ⊎ answers graph result arrow.1 true

-- a function is in each wanted arrow, and outside each refused one that is not left
abbrev pub IsFunctionBut : Graph → (wanted refused left : List Pair) → Pairs → Type 0
IsFunctionBut graph wanted refused left pairs = ArePairs pairs
    × AllOf (λ arrow. mapping graph pairs arrow.0 arrow.1 true) wanted
    × AllOf (λ arrow. mapping graph pairs arrow.0 arrow.1 false
    ⊎ AnyOf (λ other. other ≡ arrow) left) refused

-- the refused arrows that these tasks are for
abbrev pub arrows_of : List Task → List Pair
arrows_of [] = []
arrows_of (ArrowTask refused wanted given left ∷ tasks) = refused ∷ arrows_of tasks
arrows_of (task ∷ tasks) = arrows_of tasks
