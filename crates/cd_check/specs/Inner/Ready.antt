-- What a check goes by, and when a graph is ready for it.
use Rattle.std.specs.Prelude.{◌≡◌, ◌<◌, ◌++◌, Bool, true, false, [], ◌∷◌, map, length}
use Rattle.cd_sets.specs.declared.node_id.NodeId.{NodeId}
use Rattle.cd_model.specs.AllOf.{AllOf}
use Rattle.cd_model.specs.BuiltIns.{built_ins}
use Rattle.cd_model.specs.Formula.{Graph, IsGraph}
use Rattle.cd_model.specs.Scope.{Scope}
use Rattle.cd_program.specs.Expr.{Program}
use Rattle.cd_meaning.specs.Sets.{◌⊆◌, elements_of}
use Rattle.cd_typing.specs.Later.{IsLater}
use Rattle.cd_typing.specs.Operators.{truth}
use Rattle.cd_empty.specs.Growth.{Grows}
use Rattle.cd_empty.specs.Seen.{Seen as World, graph_of}
use Rattle.cd_operators.specs.Tools.{AreTools}
use Rattle.cd_names.specs.ProgramFaults.{Seen}
use Rattle.cd_placed.specs.Patterns.{all_patterns}
use Rattle.cd_resolved.specs.Resolved.{IsResolved, function_nodes, program_of as program_in}
use Rattle.cd_check.specs.declared.base.Base.{Base}
use Rattle.cd_check.specs.Inner.Divided.{AreSited, sited_pattern}
use Rattle.cd_check.specs.Inner.Environment.{Nodes, AreNodesOf, declared}
use Rattle.cd_check.specs.Inner.Promises.{IsPromised}

abbrev pub program_of : Base → Program
program_of base = program_in base.resolved.now

abbrev pub scope_of : Base → Scope
scope_of base = (program_of base).types ∷ []

-- the variables that are seen, and then the functions
abbrev pub seen_by : Base → Nodes → Nodes
seen_by base locals = locals ++ declared base.functions.now base.interfaces.now

abbrev pub names_seen : Base → Nodes → Seen
names_seen base locals = map (λ node. node.0) (seen_by base locals)

-- a node of a truth value alone
pub record IsTruth (graph : Graph) (value : Bool) (id : NodeId) : Type 0 where
  pub is_node : id.0 < length graph
  pub only : elements_of graph id ⊆ (λ d. d ≡ truth value)
  pub has : (λ d. d ≡ truth value) ⊆ elements_of graph id

pub record IsReady (base : Base) (graph : Graph) (locals : Nodes) : Type 0 where
  pub more : Graph
  pub begins : graph ≡ built_ins ++ more
  pub sound : IsGraph graph
  pub nodes : AreNodesOf graph (seen_by base locals)
  -- the program is resolved: each of its patterns has its site in the graph, and each of its functions
  -- promises what its nodes say
  pub resolved : IsResolved base.resolved.now
  pub patterns : map sited_pattern base.sites.now ≡ all_patterns (program_of base)
  pub sited : AreSited graph (scope_of base) base.sites.now
  pub promised : AllOf (IsPromised (scope_of base) graph) (function_nodes base.resolved.now)
  pub tools : AreTools graph base.tools
  pub yes : IsTruth graph true base.yes
  pub no : IsTruth graph false base.no

-- a later world whose graph is ready
pub record IsAfter (base : Base) (locals : Nodes) (old new : World) : Type 0 where
  pub grows : Grows old new
  pub later : IsLater (graph_of old) (graph_of new)
  pub ready : IsReady base (graph_of new) locals
