-- What is known within a walk over a list of operands: what is left, typed so, makes the whole.
use Rattle.std.specs.Prelude.{◌++◌, List, [], ◌∷◌, map, Option, Some, None}
use Rattle.cd_sets.specs.declared.node_id.NodeId.{NodeId}
use Rattle.cd_model.specs.Formula.{Graph}
use Rattle.cd_typing.specs.Later.{IsLater}
use Rattle.cd_typing.specs.Typ.{Typ, typ, IsType, Types}
use Rattle.cd_check.specs.Inner.Environment.{Nodes, AreOfTypes, AreNodes}

-- a node, or none
abbrev pub listed : Option NodeId → List NodeId
listed None = []
listed (Some id) = id ∷ []

-- In the new graph these nodes are types for what stands in front of the rest
pub record Steps {A : Type 0} (have : Types → A → List Typ → Type 0) (old : Graph) (nodes : Nodes)
    (new : Graph) (left rest : A) (ids : List NodeId) : Type 0 where
  pub are_nodes : AreNodes new ids
  pub steps : (later : Graph) → IsLater new later → (types : Types) → AreOfTypes old nodes types
      → (more : List Typ) → have types rest more → have types left (map (typ later) ids ++ more)

-- Operands that have types one by one, where these nodes are there for those before
pub record GoesOn {A : Type 0} (have : Types → A → List Typ → Type 0) (old : Graph) (nodes : Nodes)
    (graph : Graph) (all left : A) (done : List NodeId) : Type 0 where
  pub done_nodes : AreNodes graph done
  pub goes : (later : Graph) → IsLater graph later → (types : Types)
      → AreOfTypes old nodes types → (more : List Typ) → have types left more
      → have types all (map (typ later) done ++ more)

-- Operands after one another, each on what those before give, where that is this node
pub record LeadsOn {A : Type 0} (have : Types → (self : Typ) → A → Typ → Type 0) (old : Graph)
    (nodes : Nodes) (start : Typ) (graph : Graph) (all left : A) (id : NodeId) : Type 0 where
  pub is_type : IsType (typ graph id)
  pub leads : (types : Types) → AreOfTypes old nodes types → (t : Typ)
      → have types (typ graph id) left t → have types start all t
