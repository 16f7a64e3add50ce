-- Facts on whether elements of a table are in nodes of a graph.
use Rattle.std.specs.Prelude.{◌≡◌, ◌<◌, ◌++◌, Bool, List, length}
use Rattle.cd_model.specs.Thing.{Thing}
use Rattle.cd_model.specs.AllOf.{AllOf}
use Rattle.cd_model.specs.Formula.{Graph}
use Rattle.cd_model.specs.Membership.{answers}
use Rattle.cd_elements.specs.Table.{Names, element_at}
use Rattle.cd_facts.specs.declared.membership.Membership.{Membership}

-- a membership and whether it holds
abbrev pub Fact : Type 0
Fact = Membership × Bool

-- a membership names an element of the table and a node of the graph
abbrev pub IsNamed : Graph → List Thing → Membership → Type 0
IsNamed graph table asked = Names table asked.id × (asked.node.0 < length graph)

-- each fact is of such, and right
abbrev pub IsRight : Graph → List Thing → Fact → Type 0
IsRight graph table fact = IsNamed graph table fact.0
    × answers graph (element_at table fact.0.id) fact.0.node fact.1

abbrev pub AreRight : Graph → List Thing → List Fact → Type 0
AreRight graph table facts = AllOf (IsRight graph table) facts

-- facts are only added
abbrev pub Grows : (old new : List Fact) → Type 0
Grows old new = (more : List Fact) × (new ≡ old ++ more)
