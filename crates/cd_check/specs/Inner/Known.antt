-- Least types and faults, whatever types the nodes of the names are of.
use Rattle.std.specs.Prelude.{◌≡◌, ℕ, List}
use Rattle.cd_sets.specs.declared.node_id.NodeId.{NodeId}
use Rattle.cd_model.specs.Formula.{Graph}
use Rattle.cd_model.specs.Scope.{Scope}
use Rattle.cd_model.specs.Thing.{Thing, IsElement}
use Rattle.cd_program.specs.Expr.{Expr}
use Rattle.cd_meaning.specs.Sets.{◌⊆◌, elements_of}
use Rattle.cd_typing.specs.Typ.{Typ, typ, In, IsType, Types}
use Rattle.cd_typing.specs.declared.rule.Rule.{Rule}
use Rattle.cd_least.specs.Least.{IsLeast}
use Rattle.cd_check.specs.declared.fault.CheckError.{CheckError}
use Rattle.cd_check.specs.Faults.{Reports}
use Rattle.cd_check.specs.Inner.Environment.{Nodes, AreOfTypes}

module _ (old : Graph) (nodes : Nodes) where
  -- in the new graph the node is within each type that has this fact
  abbrev pub IsBelow : (new : Graph) → (fact : Types → Typ → Type 0) → NodeId → Type 0
  IsBelow new fact id = (types : Types) → AreOfTypes old nodes types → (t : Typ) → IsType t
      → fact types t → elements_of new id ⊆ In t

  -- in the new graph the node is the least type of the expression
  abbrev pub IsKnown : Scope → (new : Graph) → Expr → NodeId → Type 0
  IsKnown scope new e id =
      (types : Types) → AreOfTypes old nodes types → IsLeast scope types e (typ new id)

  -- the error reports a fault
  abbrev pub Fails : List Thing → (fault : Types → (at : ℕ) → Rule → Thing → Type 0) → CheckError
      → Type 0
  Fails table fault = Reports table
      (λ at reported d. (types : Types) → AreOfTypes old nodes types → fault types at reported d)

-- the error reports an element of a node that is not in another one, at this place by this rule
abbrev pub IsOutside : Graph → List Thing → (id needed : NodeId) → (at : ℕ) → Rule → CheckError
    → Type 0
IsOutside graph table id needed at rule =
    Reports table (λ place reported d. (place ≡ at) × (reported ≡ rule)
    × IsElement d × elements_of graph id d × (elements_of graph needed d → ⊥))
