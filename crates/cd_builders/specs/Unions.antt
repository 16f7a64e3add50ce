-- Nodes and formulas that hold what is in one of some questions.
use Rattle.std.specs.Prelude.{◌<◌, ◌↔◌, ◌++◌, true, List, length}
use Rattle.cd_sets.specs.declared.node_id.NodeId.{NodeId}
use Rattle.cd_sets.specs.declared.question.Question.{Question}
use Rattle.cd_model.specs.AllOf.{AllOf, AnyOf}
use Rattle.cd_model.specs.BuiltIns.{built_ins}
use Rattle.cd_model.specs.Formula.{Graph, Formula, IsFormula, IsIn, asked, in_node}
use Rattle.cd_model.specs.Membership.{holds, reader}
use Rattle.cd_model.specs.Thing.{Thing, IsElement}
use Rattle.cd_rules.specs.Family.{AsksNodes}

-- a thing is in one of some questions
abbrev pub IsInOne : Graph → List Question → Thing → Type 0
IsInOne graph questions e = AnyOf (λ question. asked (in_node graph e) question true) questions

-- a node of a graph holds what is in one of some questions of another one
pub record HoldsUnion (graph : Graph) (questions : List Question) (after : Graph) (id : NodeId)
    : Type 0 where
  pub exact : (e : Thing) → IsElement e → IsIn after e id ↔ IsInOne graph questions e
  pub node : id.0 < length after

-- a formula of a graph does so
pub record IsFormulaOfUnion (graph : Graph) (questions : List Question) (f : Formula)
    : Type 0 where
  pub elements : (e : Thing) → IsElement e
      → IsInOne graph questions e ↔ holds (reader graph e) f true
  pub sound : IsFormula (length graph) f

-- a node does so in each graph of which the questions are
pub record IsNodeOfUnion (questions : List Question) (id : NodeId) : Type 0 where
  pub exact : (more : Graph) (e : Thing)
      → IsIn (built_ins ++ more) e id ↔ IsInOne (built_ins ++ more) questions e
  pub node : (more : Graph) → AllOf (AsksNodes (length (built_ins ++ more))) questions
      → id.0 < length (built_ins ++ more)
