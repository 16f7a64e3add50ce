-- A variable around an expression gathers nothing inside of it, where no variable gathers inside of
-- what it gathers.
use Rattle.std.proofs.Common.{◌≡◌, Bool, true, false, ◌||◌, List, [], ◌∷◌, ◌++◌, map, Option, Some}
use Rattle.std.proofs.Common.{None, refl, sym, ap, ap₂, ◌∙◌, if◌then◌else◌, bytes_eq, true≢false}
use Rattle.std.specs.List.{list_any}
use Rattle.std.proofs.lemmas.Bool.{false_from_ne_true}
use Rattle.std.proofs.lemmas.Map.Steps.{list_any_congr}
use Rattle.cd_syntax.specs.Name.{Name}
use Rattle.cd_syntax.specs.ComparingNames.{names_equiv}
use Rattle.cd_model.specs.AllOf.{AllOf}
use Rattle.cd_model.specs.Thing.{Thing}
use Rattle.cd_matching.specs.Captures.{Captures}
use Rattle.cd_matching.specs.Naming.{GathersDisjoint, GatherDisjoint}
use Rattle.cd_matching.specs.Pattern as pattern
use Rattle.cd_matching.specs.Pattern.{Regular, Regulars, NoRegular, ARegular}
use Rattle.cd_matching.specs.Take.{Taking, take, ways_taking, ways_of_item, ways, ways_in_turn}
use Rattle.cd_matching.specs.Take.{ways_of_one}
use Rattle.cd_matching.specs.Ways.{Way, still, followed, gathers}
use Rattle.cd_model.proofs.Covered.{each_both}
use Rattle.cd_kernel.proofs.WaysKeep.{OfWay, Keep, then_keep, repeated_keep}

-- a variable is one of those around
abbrev pub IsAround : List Name → Name → Type 0
IsAround around variable = list_any (bytes_eq variable) around ≡ true

abbrev pub HasNothing : Name → OfWay
HasNothing variable things way = way.gathered variable ≡ []

still_has_nothing : (variable : Name) (things : List Thing)
    → HasNothing variable things (still things)
still_has_nothing variable things = refl

followed_has_nothing : (variable : Name) (things : List Thing) (one next : Way)
    → HasNothing variable things one → HasNothing variable one.rest next
    → HasNothing variable things (followed one next)
followed_has_nothing variable things one next none_one none_next =
    ap₂ (λ (a b : List Thing). a ++ b) none_one none_next

gathers_has_nothing : (variable other : Name) (things : List Thing) (ways : List Way)
    → bytes_eq other variable ≡ false → AllOf (HasNothing variable things) ways
    → AllOf (HasNothing variable things) (map (gathers other) ways)
gathers_has_nothing variable other things [] differs each = tt
gathers_has_nothing variable other things (way ∷ ways) differs each = (
  ap (λ (b : Bool). if b then way.gathered variable ++ way.taken else way.gathered variable)
      differs ∙ each.0,
  gathers_has_nothing variable other things ways differs each.1,
)

differ : (around : List Name) (name variable : Name)
    → list_any (bytes_eq name) around ≡ false → IsAround around variable
    → bytes_eq name variable ≡ false
differ around name variable apart is_around = false_from_ne_true (bytes_eq name variable)
    (λ same. true≢false (sym is_around
    ∙ sym (list_any_congr names_equiv name variable around same) ∙ apart))

further_around : (around : List Name) (name variable : Name) → IsAround around variable
    → IsAround (name ∷ around) variable
further_around around name variable is_around = by_test (bytes_eq variable name)
  where
    by_test : (b : Bool) → (b || list_any (bytes_eq variable) around) ≡ true
    by_test true = refl
    by_test false = is_around

item_has_nothing : (variable : Name) (take : Taking)
    → Keep (HasNothing variable) (ways_of_item take)
item_has_nothing variable take [] = tt
item_has_nothing variable take (d ∷ rest) = by_take (take d)
  where
    by_take : (captures : Option (Captures Name))
        → AllOf (HasNothing variable (d ∷ rest)) (ways_taking d rest captures)
    by_take None = tt
    by_take (Some captures) = (refl, tt)

module _ (T : Type 0) (test : T → Thing → Bool) (variable : Name) where
  mutual
    pub has_nothing : (around : List Name) → IsAround around variable → (r : Regular T)
        → GathersDisjoint around r → Keep (HasNothing variable) (ways T test r)
    has_nothing around is_around pattern.Nothing apart = λ things. (refl, tt)
    has_nothing around is_around (pattern.Item p) apart =
        item_has_nothing variable (take T test p)
    has_nothing around is_around (pattern.Seq all) apart =
        turn_has_nothing around is_around all apart
    has_nothing around is_around (pattern.Alt all) apart =
        one_has_nothing around is_around all apart
    has_nothing around is_around (pattern.Repeat r how) apart =
        repeated_keep (HasNothing variable) (still_has_nothing variable)
        (followed_has_nothing variable) how (ways T test r) (has_nothing around is_around r apart)
    has_nothing around is_around (pattern.Capture name r) apart = λ things.
        gathers_has_nothing variable name things (ways T test r things)
        (differ around name variable apart.0 is_around)
        (has_nothing (name ∷ around) (further_around around name variable is_around) r apart.1
        things)

    turn_has_nothing : (around : List Name) → IsAround around variable → (all : Regulars T)
        → GatherDisjoint around all → Keep (HasNothing variable) (ways_in_turn T test all)
    turn_has_nothing around is_around NoRegular apart = λ things. (refl, tt)
    turn_has_nothing around is_around (ARegular first rest) apart = λ things.
        then_keep (HasNothing variable) (still_has_nothing variable)
        (followed_has_nothing variable) things (ways T test first things)
        (ways_in_turn T test rest) (has_nothing around is_around first apart.0 things)
        (turn_has_nothing around is_around rest apart.1)

    one_has_nothing : (around : List Name) → IsAround around variable → (all : Regulars T)
        → GatherDisjoint around all → Keep (HasNothing variable) (ways_of_one T test all)
    one_has_nothing around is_around NoRegular apart = λ things. tt
    one_has_nothing around is_around (ARegular first rest) apart = λ things.
        each_both (HasNothing variable things) (ways T test first things)
        (ways_of_one T test rest things)
        (has_nothing around is_around first apart.0 things)
        (one_has_nothing around is_around rest apart.1 things)
