-- The places and steps of the code as those of a table.
use Rattle.std.specs.Prelude.{◌≡◌, List, [], ◌∷◌, map, None, Some}
use Rattle.std.specs.List.{slice_get, flat_map}
use Rattle.cd_filter.specs.Table.{Place, Step, Takes, Puts, Leads, Gathers, Table}
use Rattle.cd_explored.specs.declared.lead.Lead.{Lead}
use Rattle.cd_explored.specs.declared.lead.Lead.TheVariants as lead
use Rattle.cd_explored.specs.declared.place.Place.{Place as CodePlace}
use Rattle.cd_explored.specs.declared.step.Step.{Step as CodeStep}
use Rattle.cd_explored.specs.declared.step.Step.TheVariants as step

abbrev pub plain_place : CodePlace → Place
plain_place place = record { number = place.number; question = place.question }

abbrev pub plain_places : List CodePlace → List Place
plain_places = map plain_place

-- the steps that are one of the code with its places
abbrev pub steps_of : Lead → List Step
steps_of (lead.Takes variable) = Takes variable ∷ []
steps_of (lead.Puts variable constant) = Puts variable constant.now ∷ []
steps_of (lead.Leads next) = Leads None (plain_place next) ∷ []
steps_of (lead.Gathers variable item next) = Leads None (plain_place item)
    ∷ Leads (Some variable) (plain_place next)
    ∷ Gathers variable item.question (plain_place next) ∷ []

abbrev pub all_steps : List Lead → List Step
all_steps = flat_map steps_of

-- a step of the code is this one, where places have these numbers
abbrev pub IsStep : List Place → CodeStep → Step → Type 0
IsStep places (step.Takes variable) is = is ≡ Takes variable
IsStep places (step.Puts variable constant) is = is ≡ Puts variable constant.now
IsStep places (step.Leads but number) is =
    (next : Place) × (slice_get places number ≡ Some next) × (is ≡ Leads but next)
IsStep places (step.Gathers variable item number) is = (first next : Place)
    × (slice_get places item ≡ Some first) × (slice_get places number ≡ Some next)
    × (is ≡ Gathers variable first.question next)

abbrev pub AreSteps : List Place → List CodeStep → List Step → Type 0
AreSteps places [] steps = steps ≡ []
AreSteps places (first ∷ rest) [] = ⊥
AreSteps places (first ∷ rest) (step ∷ steps) =
    IsStep places first step × AreSteps places rest steps

-- the table of places and their steps
abbrev pub AreEntries : List Place → List (List CodeStep) → Table → Type 0
AreEntries places [] table = table ≡ []
AreEntries places (first ∷ rest) [] = ⊥
AreEntries places (first ∷ rest) (entry ∷ table) =
    AreSteps places first entry.1 × AreEntries places rest table
