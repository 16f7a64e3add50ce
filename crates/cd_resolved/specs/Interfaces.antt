-- Nodes of an interface: of its arrows, and of the functions that are in all of them.
use Rattle.std.specs.Prelude.{List}
use Rattle.cd_sets.specs.declared.node_id.NodeId.{NodeId}
use Rattle.cd_model.specs.Formula.{Graph}
use Rattle.cd_model.specs.Scope.{Scope}
use Rattle.cd_meet.specs.Meets.{IsMeet}
use Rattle.cd_program.specs.Expr.{Signature}
use Rattle.cd_names.specs.Arrows.{AreArrows}

-- the arrows stand for those of the interface, and the whole is their meet
pub record HasInterface (scope : Scope) (graph : Graph) (interface : List Signature)
    (arrows : List (NodeId × NodeId)) (whole : NodeId) : Type 0 where
  pub arrows_stand : AreArrows scope graph interface arrows
  pub is_meet : IsMeet graph arrows whole
