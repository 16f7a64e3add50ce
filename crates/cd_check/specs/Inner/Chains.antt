-- Chains of arguments and of operators: how each goes on from what stands before it.
use Rattle.std.specs.Prelude.{◌≡◌, ℕ}
use Rattle.cd_sets.specs.declared.node_id.NodeId.{NodeId}
use Rattle.cd_model.specs.Formula.{Graph}
use Rattle.cd_model.specs.Scope.{Scope}
use Rattle.cd_model.specs.Thing.{Thing}
use Rattle.cd_program.specs.Expr.{Expr}
use Rattle.cd_meaning.specs.Sets.{◌⊆◌, elements_of}
use Rattle.cd_typing.specs.Typ.{Typ, In, IsType, Types}
use Rattle.cd_typing.specs.declared.rule.Rule.{Rule}
use Rattle.cd_least.specs.Misses.{place_of}
use Rattle.cd_check.specs.Inner.Environment.{Nodes, AreOfTypes}
use Rattle.cd_check.specs.Inner.Known.{IsKnown}

-- Each type of the whole, where what it starts with has a wider type than this, is one of what is
-- left, where that starts with a type that holds this node
pub record NarrowsOn {A : Type 0} (have : Types → (self : Typ) → A → Typ → Type 0) (old : Graph)
    (nodes : Nodes) (start : Typ) (graph : Graph) (all left : A) (id : NodeId) : Type 0 where
  pub narrows : (types : Types) → AreOfTypes old nodes types → (wider : Typ) → IsType wider
      → In start ⊆ In wider → (t : Typ) → have types wider all t
      → (middle : Typ) × IsType middle × (elements_of graph id ⊆ In middle)
      × have types middle left t

-- What stands before what is left is an expression whose least type is this node; a fault of what
-- is left is one of the whole, which starts with the expression `f`
pub record FaultsOn {A : Type 0} (scope : Scope)
    (fault : Types → Expr → A → (at : ℕ) → Rule → Thing → Type 0) (old : Graph) (nodes : Nodes)
    (f : Expr) (graph : Graph) (all left : A) (id : NodeId) (place : ℕ) : Type 0 where
  pub before : Expr
  pub known : IsKnown old nodes scope graph before id
  pub stands : place_of before ≡ place
  pub faults : (types : Types) (at : ℕ) (reported : Rule) (d : Thing)
      → fault types before left at reported d
      → fault types f all at reported d
