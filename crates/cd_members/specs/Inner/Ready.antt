-- What is given for an attempt at a task.
use Rattle.std.specs.Prelude.{List, map, length}
use Rattle.cd_model.specs.AllOf.{AllOf}
use Rattle.cd_model.specs.Formula.{Graph}
use Rattle.cd_model.specs.Membership.{answers}
use Rattle.cd_model.specs.Thing.{Thing}
use Rattle.cd_rules.specs.InWay.{AreInWay}
use Rattle.cd_rules.specs.Tasks.{Task, IsTaskOfNodes, questions_of}
use Rattle.cd_elements.specs.declared.shape.ElementId.{ElementId}
use Rattle.cd_elements.specs.Table.{Names, element_at}

-- a task of nodes of the graph, and an element of the table in each of its questions
pub record IsReady (graph : Graph) (table : List Thing) (task : Task) (ids : List ElementId)
    : Type 0 where
  pub sound : IsTaskOfNodes (length graph) task
  pub named : AllOf (Names table) ids
  pub parts : AreInWay (map (λ id. answers graph (element_at table id)) ids) (questions_of task)
