-- What is kept where a formula, or a node, takes the place of another one.
use Rattle.std.specs.Prelude.{◌↔◌, ◌++◌, true, length}
use Rattle.cd_sets.specs.declared.node_id.NodeId.{NodeId}
use Rattle.cd_sets.specs.declared.question.Question.{Question}
use Rattle.cd_model.specs.Formula.{Graph, Formula, IsFormula, IsGraph}
use Rattle.cd_model.specs.Interfaces.{Interfaces}
use Rattle.cd_model.specs.Membership.{asked, holds, answers, reader, value_answers, value_reader}
use Rattle.cd_model.specs.Thing.{Thing, IsElement, IsValue}
use Rattle.cd_products.specs.Products.{AreInterfacesOf}

module _ (graph : Graph) where
  -- a formula of the graph holds just what a question asks
  pub record IsFormulaOfQuestion (question : Question) (f : Formula) : Type 0 where
    pub elements : (e : Thing) → IsElement e
        → asked (answers graph e) question true ↔ holds (reader graph e) f true
    pub values : (interfaces : Interfaces) (v : Thing) → IsValue v
        → asked (value_answers graph interfaces v) question true
        ↔ holds (value_reader graph interfaces v) f true
    pub sound : IsFormula (length graph) f

  -- two nodes hold the same elements and, in each longer graph under its interfaces, the same
  -- values
  pub record HoldSame (one other : NodeId) : Type 0 where
    pub elements : (e : Thing) → IsElement e → answers graph e one true ↔ answers graph e other true
    pub values : (more : Graph) (interfaces : Interfaces) (v : Thing) → IsGraph (graph ++ more)
        → AreInterfacesOf (graph ++ more) interfaces → IsValue v
        → value_answers (graph ++ more) interfaces v one true
        ↔ value_answers (graph ++ more) interfaces v other true

-- each value of the one node is in the other, in each longer graph under its interfaces
abbrev pub AreValuesWithin : Graph → (one other : NodeId) → Type 0
AreValuesWithin graph one other = (more : Graph) (interfaces : Interfaces) (v : Thing)
    → IsGraph (graph ++ more) → AreInterfacesOf (graph ++ more) interfaces → IsValue v
    → value_answers (graph ++ more) interfaces v one true
    → value_answers (graph ++ more) interfaces v other true
