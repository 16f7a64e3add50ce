-- What a contract sees of a world.
use Rattle.std.specs.Prelude.{List, refl}
use Rattle.std.specs.Coded.{Coded, code_by, coded×, coded_list}
use Rattle.cd_sets.specs.contracts.question.Question as question
use Rattle.cd_sets.specs.declared.question.Question.{Question}
use Rattle.cd_model.specs.Thing.{Thing}
use Rattle.cd_model.specs.Formula.{Graph}
use Rattle.cd_graph.specs.contracts.graph.Graph as graph
use Rattle.cd_graph.specs.declared.graph.Graph.{Graph as AGraph}
use Rattle.cd_graph.specs.Nodes.{nodes}
use Rattle.cd_elements.specs.contracts.elements.Elements as elements
use Rattle.cd_elements.specs.declared.elements.Elements.{Elements}
use Rattle.cd_elements.specs.Elements.{table}
use Rattle.cd_verdicts.specs.contracts.verdict.Verdict as verdict
use Rattle.cd_verdicts.specs.declared.verdict.Verdict.{Verdict}

-- a graph, a table of elements, and the questions that are settled, with their verdicts
pub record Seen : Type 0 where
  pub graph : AGraph
  pub elements : Elements
  pub verdicts : List (Question × Verdict)

-- it is stored as the triple of its fields
abbrev pub seen_code : Coded Seen
seen_code = code_by (AGraph × (Elements × List (Question × Verdict)))
    (coded× graph.the_row.coded (coded× elements.the_row.coded
    (coded_list (coded× question.the_row.coded verdict.the_row.coded))))
    (λ seen. (seen.graph, (seen.elements, seen.verdicts)))
    (λ fields. record { graph = fields.0; elements = fields.1.0; verdicts = fields.1.1 })
    (λ seen. refl)

-- the nodes of the graph, and the elements of the table
abbrev pub graph_of : Seen → Graph
graph_of seen = nodes seen.graph

abbrev pub table_of : Seen → List Thing
table_of seen = table seen.elements

abbrev pub kept : Seen → List (Question × Verdict)
kept seen = seen.verdicts
