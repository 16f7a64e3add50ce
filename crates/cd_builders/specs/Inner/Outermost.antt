-- Questions that are within others.
use Rattle.std.specs.Prelude.{◌↔◌, ◌⊎◌, true, List, length}
use Rattle.cd_sets.specs.declared.node_id.NodeId.{NodeId}
use Rattle.cd_sets.specs.declared.question.Question.{Question}
use Rattle.cd_model.specs.AllOf.{AllOf}
use Rattle.cd_model.specs.Formula.{Graph, IsIn, asked, in_node}
use Rattle.cd_model.specs.Thing.{Thing, IsElement}
use Rattle.cd_rules.specs.Family.{AsksNodes}
use Rattle.cd_builders.specs.Unions.{IsInOne}

module _ (graph : Graph) where
  -- what is in a question is in a node, in another question, or in one of some
  abbrev pub IsWithinNode : Question → NodeId → Type 0
  IsWithinNode question id = (e : Thing) → IsElement e
      → asked (in_node graph e) question true → IsIn graph e id

  abbrev pub IsWithin : Question → Question → Type 0
  IsWithin question other = (e : Thing) → IsElement e
      → asked (in_node graph e) question true → asked (in_node graph e) other true

  abbrev pub IsWithinOne : Question → List Question → Type 0
  IsWithinOne question others = (e : Thing) → IsElement e
      → asked (in_node graph e) question true → IsInOne graph others e

  -- what is in one of some questions is what is in one of some others, which are of the graph too
  pub record AskSame (questions others : List Question) : Type 0 where
    pub exact : (e : Thing) → IsElement e → IsInOne graph questions e ↔ IsInOne graph others e
    pub asks : AllOf (AsksNodes (length graph)) others

  -- the same with one question more
  pub record IsKept (question : Question) (old new : List Question) : Type 0 where
    pub exact : (e : Thing) → IsElement e → IsInOne graph new e
        ↔ (IsInOne graph old e ⊎ asked (in_node graph e) question true)
    pub asks : AllOf (AsksNodes (length graph)) new
