-- Formulas that hold what is in one question, or in a node.
use Rattle.std.specs.Prelude.{◌↔◌, true, length}
use Rattle.cd_sets.specs.declared.node_id.NodeId.{NodeId}
use Rattle.cd_sets.specs.declared.question.Question.{Question}
use Rattle.cd_model.specs.Formula.{Graph, Formula, IsFormula, asked, in_node}
use Rattle.cd_model.specs.Membership.{holds, reader, answers}
use Rattle.cd_model.specs.Thing.{Thing, IsElement}

-- a formula of a graph holds what is in a question
pub record IsMember (graph : Graph) (question : Question) (f : Formula) : Type 0 where
  pub elements : (e : Thing) → IsElement e
      → asked (in_node graph e) question true ↔ holds (reader graph e) f true
  pub sound : IsFormula (length graph) f

-- a formula of a graph holds the same elements as a node
pub record IsOfSame (graph : Graph) (id : NodeId) (f : Formula) : Type 0 where
  pub elements : (e : Thing) → IsElement e
      → answers graph e id true ↔ holds (reader graph e) f true
  pub sound : IsFormula (length graph) f
