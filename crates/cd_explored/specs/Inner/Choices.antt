-- A node that holds what is in one of two nodes, and questions with another node in its place.
use Rattle.std.specs.Prelude.{◌≡◌, ◌<◌, ◌++◌, true, false, length, map, nat_eq}
use Rattle.std.specs.Prelude.{if◌then◌else◌}
use Rattle.cd_sets.specs.declared.node_id.NodeId.{NodeId}
use Rattle.cd_sets.specs.declared.question.Question.{Question}
use Rattle.cd_sets.specs.IdSet.{holds}
use Rattle.cd_model.specs.Formula.{Graph, IsGraph, in_node}
use Rattle.cd_model.specs.Interfaces.{Interfaces, value_in_node}
use Rattle.cd_model.specs.Thing.{Thing, IsElement, IsValue}
use Rattle.cd_model.specs.Types.{Answers}
use Rattle.cd_products.specs.Products.{AreInterfacesOf}
use Rattle.cd_verdicts.specs.Verdicts.{HasNoElement, HasNoValue}

-- what is in one of the two nodes is in `own`, and what is in `own` is in the first or else in the
-- second
pub record IsUnion (answers : Thing → Answers NodeId) (Sort : Thing → Type 0)
    (own first second : NodeId) : Type 0 where
  pub by_first : (d : Thing) → Sort d → answers d first true → answers d own true
  pub by_second : (d : Thing) → Sort d → answers d second true → answers d own true
  pub else_second : (d : Thing) → Sort d → answers d own true → answers d first false
      → answers d second true

-- of elements, and of values in each longer graph
pub record IsChoice (graph : Graph) (own first second : NodeId) : Type 0 where
  pub elements : IsUnion (in_node graph) IsElement own first second
  pub values : (more : Graph) (interfaces : Interfaces) → IsGraph (graph ++ more)
      → AreInterfacesOf (graph ++ more) interfaces
      → IsUnion (value_in_node (graph ++ more) interfaces) IsValue own first second
  pub first_within : first.0 < length graph
  pub second_within : second.0 < length graph

-- another number in the place of one
abbrev pub in_place : (own id one : NodeId) → NodeId
in_place own id one = if nat_eq one.0 own.0 then id else one

-- the question wants `id` where the other one wants `own`, and else what that wants
pub record IsSwapped (own id : NodeId) (question swapped : Question) : Type 0 where
  pub wanted : (one : NodeId)
      → holds swapped.pos one ≡ holds (map (in_place own id) question.pos) one
  pub refused : swapped.neg ≡ question.neg

-- no element is in a question, and no value
abbrev pub HasNothing : Graph → Question → Type 0
HasNothing graph question = HasNoElement graph question × HasNoValue graph question
