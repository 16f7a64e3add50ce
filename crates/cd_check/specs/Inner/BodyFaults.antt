-- Least types and faults of the bodies of branches, for what comes to each.
use Rattle.std.specs.Prelude.{◌≡◌, ◌⊎◌, ℕ, ◌++◌, List, [], ◌∷◌, Option, Some, None, option_map, map}
use Rattle.cd_sets.specs.declared.node_id.NodeId.{NodeId}
use Rattle.cd_syntax.specs.Name.{Name}
use Rattle.cd_syntax.specs.TypeTree.{Tree}
use Rattle.cd_model.specs.Formula.{Graph}
use Rattle.cd_model.specs.Scope.{Scope}
use Rattle.cd_model.specs.Thing.{Thing}
use Rattle.cd_matching.specs.Captures.{Captures}
use Rattle.cd_program.specs.Expr.{Expr, Branches}
use Rattle.cd_meaning.specs.Sets.{Set, ◌⊆◌, elements_of}
use Rattle.cd_typing.specs.Branches.{IsFirst}
use Rattle.cd_typing.specs.Typ.{Typ, typ, Types}
use Rattle.cd_typing.specs.declared.rule.Rule.{Rule}
use Rattle.cd_least.specs.Faults.{Fault, BranchFault, Breaks, Owed, Nothing}
use Rattle.cd_least.specs.Least.{InOne, IsBodyLeast, AreBodiesLeast}
use Rattle.cd_least.specs.Misses.{AreCaptured, IsUncovered}
use Rattle.cd_check.specs.declared.bodies.Limit.{Limit}
use Rattle.cd_check.specs.Inner.Environment.{Nodes, AreOfTypes}

-- those that are there
abbrev pub those : {X : Type 0} → List (Option X) → List X
those [] = []
those (None ∷ found) = those found
those (Some x ∷ found) = x ∷ those found

module _ (scope : Scope) where
  -- what a body owes where there is a limit
  abbrev pub Owes : Graph → Option Limit → Owed scope
  Owes graph None = Nothing scope
  Owes graph (Some limit) = λ types e at reported d.
      Breaks scope types e (elements_of graph limit.node) limit.rule at reported d

  -- of a body that some element is the first to come to, or what it owes
  abbrev pub BodyFault : Types → Tree → (matched : Set) → Owed scope → Expr → (at : ℕ) → Rule
      → Thing
      → Type 0
  BodyFault types pattern matched owed body at reported d = (e : Thing) × (captures : Captures Name)
      × IsFirst scope [] pattern matched e captures × (own : Types)
      × AreCaptured scope own [] pattern matched
      × (Fault scope (own ++ types) body at reported d ⊎ owed (own ++ types) body at reported d)

  -- of branches that have to take all that is matched by the form that begins here
  abbrev pub CoveringFault : Types → (here : ℕ) → (matched : Set) → Owed scope → Branches → (at : ℕ)
      → Rule → Thing → Type 0
  CoveringFault types here matched owed branches at reported d =
      IsUncovered scope here branches matched at reported d
      ⊎ BranchFault scope types [] matched owed branches at reported d

  module _ (old : Graph) (nodes : Nodes) (new : Graph) where
    -- the node is the least type of the body, or nothing comes to it
    abbrev pub BodyLeast : (matched : Set) → Tree → Expr → Option NodeId → Type 0
    BodyLeast matched pattern body found = (types : Types) → AreOfTypes old nodes types
        → IsBodyLeast scope types [] pattern matched body (option_map (typ new) found)

    -- the nodes are the least types of the bodies that something comes to
    pub record BodiesLeast (branches : Branches) (matched : Set) (results : List NodeId) : Type 0
      where
        pub found : List (Option NodeId)
        pub are : those found ≡ results
        pub least : (types : Types) → AreOfTypes old nodes types
            → AreBodiesLeast scope types [] matched branches (map (option_map (typ new)) found)

    -- what is in the node is in one of these
    abbrev pub BranchesLeast : Branches → (matched : Set) → NodeId → Type 0
    BranchesLeast branches matched id = (types : Types) → AreOfTypes old nodes types
        → (found : List (Option Typ)) × AreBodiesLeast scope types [] matched branches found
        × (elements_of new id ⊆ InOne found)
