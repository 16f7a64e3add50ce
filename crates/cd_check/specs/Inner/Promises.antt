-- What functions promise by their interfaces, and when their branches keep it.
use Rattle.std.specs.Prelude.{◌<◌, List, [], map, length, Option}
use Rattle.cd_sets.specs.declared.node_id.NodeId.{NodeId}
use Rattle.cd_syntax.specs.Name.{Name}
use Rattle.cd_model.specs.AllOf.{AllOf}
use Rattle.cd_model.specs.Formula.{Graph}
use Rattle.cd_model.specs.Scope.{Scope}
use Rattle.cd_program.specs.Expr.{Branches, Signature, FunctionTree, function}
use Rattle.cd_meaning.specs.Sets.{Set, elements_of}
use Rattle.cd_typing.specs.Typ.{Typ, typ, In, Types, with_type}
use Rattle.cd_typing.specs.Interfaces.{Arrow, AreWritten, IsIntersection}
use Rattle.cd_typing.specs.Branches.{Cover}
use Rattle.cd_typing.specs.Typing.{BodiesHave}
use Rattle.cd_resolved.specs.Resolved.{function_of}
use Rattle.cd_resolved.specs.declared.function_nodes.FunctionNodes.{FunctionNodes}
use Rattle.cd_check.specs.Inner.Environment.{Nodes, AreOfTypes, AreSame}

-- arrows between nodes, as arrows between types
abbrev pub arrow_in : Graph → NodeId × NodeId → Arrow
arrow_in graph arrow = record { argument = typ graph arrow.0; result = typ graph arrow.1 }

abbrev pub arrows_in : Graph → List (NodeId × NodeId) → List Arrow
arrows_in graph arrows = map (arrow_in graph) arrows

-- the nodes are of the graph
abbrev pub ArePairs : Graph → List (NodeId × NodeId) → Type 0
ArePairs graph arrows = AllOf (λ arrow. (arrow.0.0 < length graph) × (arrow.1.0 < length graph))
    arrows

-- the arrows of an interface, and what is in all of them
pub record IsPromise (scope : Scope) (graph : Graph) (interface : List Signature)
    (arrows : List (NodeId × NodeId)) (whole : NodeId) : Type 0 where
  pub written : AreWritten scope interface (arrows_in graph arrows)
  pub is_whole : IsIntersection (arrows_in graph arrows) (typ graph whole)

-- branches take each argument of an arrow, and their bodies are of its result
pub record Keep (scope : Scope) (types : Types) (branches : Branches) (argument result : Set)
    : Type 0 where
  pub cover : Cover scope branches argument
  pub bodies : BodiesHave scope types [] argument branches result

-- so for each arrow, where the function's own name has its type
abbrev pub KeepAll : Scope → (old : Graph) → Nodes → Option Name → (whole : NodeId) → Branches
    → List (NodeId × NodeId) → Type 0
KeepAll scope old nodes name whole branches arrows = (types : Types) (self : Typ)
    → AreOfTypes old nodes types → AreSame (elements_of old whole) (In self)
    → AllOf (λ arrow. Keep scope (with_type name self types) branches
    (elements_of old arrow.0) (elements_of old arrow.1)) arrows

-- of a function
abbrev pub HasPromise : Scope → Graph → FunctionTree → List (NodeId × NodeId) → (whole : NodeId)
    → Type 0
HasPromise scope graph (function at name name_at interface branches) arrows whole =
    IsPromise scope graph interface arrows whole

-- of one with its nodes
abbrev pub IsPromised : Scope → Graph → FunctionNodes → Type 0
IsPromised scope graph one =
    HasPromise scope graph (function_of one) one.arrows.items one.whole

abbrev pub KeepsPromise : Scope → Graph → Nodes → FunctionTree → List (NodeId × NodeId)
    → (whole : NodeId) → Type 0
KeepsPromise scope graph nodes (function at name name_at interface branches) arrows whole =
    KeepAll scope graph nodes name whole branches arrows
