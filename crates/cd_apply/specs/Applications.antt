-- What is answered where what is in one node of a graph is applied to what is in another.
use Rattle.std.specs.Prelude.{◌<◌, List, length}
use Rattle.cd_sets.specs.declared.node_id.NodeId.{NodeId}
use Rattle.cd_model.specs.Formula.{Graph}
use Rattle.cd_model.specs.Thing.{Thing, IsElement}
use Rattle.cd_elements.specs.Table.{Names, element_at}
use Rattle.cd_meaning.specs.Sets.{Set, ◌⊆◌, elements_of}
use Rattle.cd_meaning.specs.Functions.{IsFunction, IsGiven, IsOutsideDomain, AllMapInto}
use Rattle.cd_apply.specs.declared.application.Applied.{Applied}
use Rattle.cd_apply.specs.declared.application.Applied.TheVariants.{Results, NotFunction}
use Rattle.cd_apply.specs.declared.application.Applied.TheVariants.{OutsideDomain}

-- the node of the results is one of a graph
abbrev pub IsResultNode : Graph → Applied → Type 0
IsResultNode after (Results id) = id.0 < length after
IsResultNode after applied = Unit {0}

module _ (graph : Graph) (function argument : NodeId) where
  abbrev functions : Set
  functions = elements_of graph function

  abbrev arguments : Set
  arguments = elements_of graph argument

  -- all are functions, and each maps the arguments into the node of the results
  abbrev pub AreMappedInto : (after : Graph) → Applied → Type 0
  AreMappedInto after (Results id) = AllMapInto functions arguments (elements_of after id)
  AreMappedInto after applied = Unit {0}

  -- nothing else is in that node
  abbrev pub AreResultsAlone : (after : Graph) → Applied → Type 0
  AreResultsAlone after (Results id) = elements_of after id ⊆ IsGiven functions arguments
  AreResultsAlone after applied = Unit {0}

  -- all are functions, and one of them fails at the element of the table that is named, which is an
  -- argument
  abbrev pub NamesOutside : (table : List Thing) → Applied → Type 0
  NamesOutside table (OutsideDomain id) = (functions ⊆ IsFunction)
      × Names table id × IsElement (element_at table id) × arguments (element_at table id)
      × IsOutsideDomain functions (element_at table id)
  NamesOutside table applied = Unit {0}

-- the element of the table that is named is in the node, and is no function
abbrev pub NamesNoFunction : Graph → (function : NodeId) → (table : List Thing) → Applied → Type 0
NamesNoFunction graph function table (NotFunction id) = Names table id
    × IsElement (element_at table id) × elements_of graph function (element_at table id)
    × (IsFunction (element_at table id) → ⊥)
NamesNoFunction graph function table applied = Unit {0}
