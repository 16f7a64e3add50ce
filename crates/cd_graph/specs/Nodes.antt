-- What a contract sees of a graph.
use Rattle.std.specs.Prelude.{map}
use Rattle.cd_model.specs.Formula.{Graph as PlainGraph}
use Rattle.cd_graph.specs.PlainFormula.{plain}
use Rattle.cd_graph.specs.declared.graph.Graph.{Graph}

-- the formulas of its nodes, in the order of their numbers
abbrev pub nodes : Graph → PlainGraph
nodes graph = map plain graph.formulas.items
