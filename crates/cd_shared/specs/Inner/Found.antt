-- Classes as they are found: one for each node, and a leader for each class, which is a node of it
-- that is no name.
use Rattle.std.specs.Prelude.{◌≡◌, ℕ, ◌-◌, ◌<◌, ◌≤◌, ◌⊎◌, List, length, Option, Some}
use Rattle.std.specs.List.{slice_get}
use Rattle.cd_sets.specs.declared.node_id.NodeId.{NodeId}
use Rattle.cd_syntax.specs.Name.{Name}
use Rattle.cd_model.specs.Formula.{Field}
use Rattle.cd_graph.specs.PlainFormula.{plain_field}
use Rattle.cd_graph.specs.declared.fields.Field.{Field as CodeField}
use Rattle.cd_shared.specs.Equation.{Equation, Equations, Same}
use Rattle.cd_shared.specs.Shared.{class_of, classed}

-- a field of the code
abbrev pub plain_pair : Name × CodeField → Name × Field
plain_pair field = (field.0, plain_field field.1)

-- two nodes have the same equation, but for the classes of the nodes in it
abbrev pub HasSame : (NodeId → NodeId) → Equations → ℕ → Equation → Type 0
HasSame class equations number equation = (other : Equation)
    × (slice_get equations number ≡ Some (Some other))
    × (classed class equation ≡ classed class other)

module _ (first : ℕ) (ids : List NodeId) (leaders : List ℕ) (equations : Equations) where
  -- the leader of this class has the same equation
  abbrev pub HasLeader : Equation → NodeId → Type 0
  HasLeader equation class = (first ≤ class.0) × ((leader : ℕ)
      × (slice_get leaders (class.0 - first) ≡ Some leader)
      × HasSame (class_of first ids) equations leader equation)

  -- the class of a node with this equation is right
  abbrev pub FitsClass : Option (Option Equation) → NodeId → Type 0
  FitsClass (Some (Some (Same id))) class = class_of first ids id ≡ class
  FitsClass (Some (Some equation)) class = HasLeader equation class
  FitsClass equation class = ⊥

  -- a class is a node, and a class of its own
  abbrev pub IsClass : NodeId → Type 0
  IsClass class = (class_of first ids class ≡ class)
      × ((class.0 < first) ⊎ (class.0 - first < length equations))

  abbrev pub IsClassified : ℕ → Type 0
  IsClassified number = (class : NodeId) × (slice_get ids number ≡ Some class) × IsClass class
      × FitsClass (slice_get equations number) class

-- all nodes are classified
pub record AreClassified (first : ℕ) (ids : List NodeId) (leaders : List ℕ) (equations : Equations)
    : Type 0 where
  pub as_many : length ids ≡ length equations
  pub each : (number : ℕ) → number < length equations
      → IsClassified first ids leaders equations number
