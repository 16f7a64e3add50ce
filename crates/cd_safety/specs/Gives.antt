-- What an operator gives for elements: an element of a set, or data that is raised; never stuck.
use Rattle.cd_model.specs.BuiltIns.{DATA}
use Rattle.cd_meaning.specs.Sets.{Set}
use Rattle.cd_typing.specs.Typ.{BuiltIn}
use Rattle.cd_evaluation.specs.Runs.{Outcome, Done, Raised, Overflow, Spent, Stuck}

abbrev pub Gives : Set → Outcome → Type 0
Gives set (Done e) = set e
Gives set (Raised e) = BuiltIn DATA e
Gives set Overflow = Unit {0}
Gives set Spent = Unit {0}
Gives set Stuck = ⊥
