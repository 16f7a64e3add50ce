-- What comes to branches, and the types of their bodies.
use Rattle.std.specs.Prelude.{◌⊎◌, ◌++◌, List, [], Option, Some, None}
use Rattle.cd_sets.specs.declared.node_id.NodeId.{NodeId}
use Rattle.cd_syntax.specs.Name.{Name}
use Rattle.cd_syntax.specs.TypeTree.{Tree}
use Rattle.cd_model.specs.AllOf.{AllOf}
use Rattle.cd_model.specs.Formula.{Graph}
use Rattle.cd_model.specs.Scope.{Scope}
use Rattle.cd_model.specs.Thing.{Thing, IsElement}
use Rattle.cd_matching.specs.Captures.{Captures}
use Rattle.cd_matching.specs.Takes.{WrittenTakes}
use Rattle.cd_program.specs.Expr.{Expr, Branches}
use Rattle.cd_meaning.specs.Sets.{Set, ◌⊆◌, elements_of}
use Rattle.cd_typing.specs.Typ.{Typ, typ, In, IsType, Types, AreTypes}
use Rattle.cd_typing.specs.Branches.{IsFirst, HoldCaptured}
use Rattle.cd_typing.specs.Typing.{Has, BodiesHave}
use Rattle.cd_check.specs.Inner.Environment.{Nodes, AreOfTypes, AreNodes}
use Rattle.cd_typing.specs.Later.{IsLater}

module _ (scope : Scope) where
  -- it takes each element, or fails
  abbrev pub Decides : Tree → Type 0
  Decides pattern = (e : Thing) → IsElement e
      → ((captures : Captures Name) × WrittenTakes scope pattern e (Some captures))
      ⊎ WrittenTakes scope pattern e None

  -- what it leaves of the one set is in the other
  abbrev pub Leaves : Tree → (left next : Set) → Type 0
  Leaves pattern left next = (e : Thing) → IsElement e → left e → WrittenTakes scope pattern e None
      → next e

  -- and nothing else is
  abbrev pub LeavesNoMore : Tree → (left next : Set) → Type 0
  LeavesNoMore pattern left next = (e : Thing) → IsElement e → next e
      → left e × WrittenTakes scope pattern e None

  -- In the new graph the node is the type of a body, where its variables have types that hold what
  -- they capture from the set; or no element of the set comes to the body
  abbrev pub BodyGives : (old : Graph) → Nodes → (new : Graph) → (matched : Set) → Tree → Expr
      → Option NodeId → Type 0
  BodyGives old nodes new matched pattern body None = (e : Thing) (captures : Captures Name)
      → IsFirst scope [] pattern matched e captures → ⊥
  BodyGives old nodes new matched pattern body (Some id) = IsType (typ new id)
      × ((types : Types) → AreOfTypes old nodes types → (own : Types) × AreTypes own
      × HoldCaptured scope own [] pattern matched × Has scope (own ++ types) body (typ new id))

  -- Branches whose bodies have types within any type that holds what these nodes do, where those
  -- that are left have so for what is left
  pub record BodiesGoOn (old : Graph) (nodes : Nodes) (start : Typ) (graph : Graph)
      (all left : Branches) (matched : Typ) (results : List NodeId) : Type 0 where
    pub are_nodes : AreNodes graph results
    pub goes : (later : Graph) → IsLater graph later → (types : Types)
        → AreOfTypes old nodes types → (t : Typ)
        → AllOf (λ id. elements_of later id ⊆ In t) results
        → BodiesHave scope types [] (In matched) left (In t)
        → BodiesHave scope types [] (In start) all (In t)
