-- What follows an operand: arguments of a function, and operators.
use Rattle.cd_sets.specs.declared.node_id.NodeId.{NodeId}
use Rattle.cd_model.specs.Formula.{Graph}
use Rattle.cd_typing.specs.Typ.{Typ, typ, IsType, Types}
use Rattle.cd_check.specs.Inner.Environment.{Nodes, AreOfTypes}

-- In the new graph a node is the type of what one more gives for the node of the old one
pub record Follows {A : Type 0} (have : Types → (self : Typ) → A → Typ → Type 0) (old : Graph)
    (nodes : Nodes) (new : Graph) (self : NodeId) (left rest : A) (id : NodeId) : Type 0 where
  pub is_type : IsType (typ new id)
  pub follows : (types : Types) → AreOfTypes old nodes types → (t : Typ)
      → have types (typ new id) rest t → have types (typ old self) left t
