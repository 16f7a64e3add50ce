-- What a contract sees of a program that is resolved: each written type of it has a node.
use Rattle.std.specs.Prelude.{◌≡◌, ◌++◌, List, map}
use Rattle.cd_syntax.specs.PlainTree.{plain}
use Rattle.cd_syntax.specs.TypeTree.{Tree}
use Rattle.cd_model.specs.AllOf.{AllOf}
use Rattle.cd_model.specs.Formula.{Graph, IsGraph}
use Rattle.cd_model.specs.Scope.{Scope}
use Rattle.cd_matching.specs.PlainKernel.{plain_kernel}
use Rattle.cd_program.specs.Expr.{FunctionTree, Program}
use Rattle.cd_program.specs.PlainExpr.{plain_function}
use Rattle.cd_program.specs.PlainProgram.{plain_program}
use Rattle.cd_program.specs.WellMade.{IsWellMadeProgram}
use Rattle.cd_resolve.specs.Faults.{Fault}
use Rattle.cd_names.specs.ProgramFaults.{IsFaultOfProgram}
use Rattle.cd_graph.specs.Nodes.{nodes}
use Rattle.cd_typing.specs.Sites.{all_sites}
use Rattle.cd_typing.specs.Typed.{scope_of}
use Rattle.cd_evaluation.specs.ProgramFunctions.{all_functions, PlacesDiffer}
use Rattle.cd_evaluation.specs.ProgramInterfaces.{interface_of}
use Rattle.cd_placed.specs.Patterns.{all_patterns, start_of, StartsDiffer}
use Rattle.cd_resolved.specs.Interfaces.{HasInterface}
use Rattle.cd_resolved.specs.Kernels.{IsKernelOf}
use Rattle.cd_resolved.specs.PlainSite.{plain_site}
use Rattle.cd_resolved.specs.Inner.Numbers.{AreNumbers}
use Rattle.cd_resolved.specs.declared.function_nodes.FunctionNodes.{FunctionNodes}
use Rattle.cd_resolved.specs.declared.pattern_kernel.PatternKernel.{PatternKernel}
use Rattle.cd_resolved.specs.declared.resolved.Resolved.{Resolved}
use Rattle.cd_resolved.specs.declared.site_tree.SiteTree.{SiteTree}

-- the program, its patterns with their kernels, its functions with the nodes of their interfaces,
-- and its sites
abbrev pub program_of : Resolved → Program
program_of resolved = plain_program resolved.functions

abbrev pub kernels_of : Resolved → List PatternKernel
kernels_of resolved = resolved.kernels.items

abbrev pub function_nodes : Resolved → List FunctionNodes
function_nodes resolved = resolved.interfaces.items

abbrev pub site_trees : Resolved → List SiteTree
site_trees resolved = resolved.sites.items

-- the graph of the declared names and of the types in patterns, and the one with the nodes of
-- interfaces after these
abbrev pub asked_graph : Resolved → Graph
asked_graph resolved = nodes resolved.asked

abbrev pub program_graph : Resolved → Graph
program_graph resolved = nodes resolved.graph

abbrev pub pattern_of : PatternKernel → Tree
pattern_of one = plain one.pattern.now

abbrev pub function_of : FunctionNodes → FunctionTree
function_of one = plain_function one.function.now

abbrev pub HasKernel : Scope → Graph → PatternKernel → Type 0
HasKernel scope graph one = IsKernelOf graph scope (pattern_of one) (plain_kernel one.kernel)

abbrev pub HasNodes : Scope → Graph → FunctionNodes → Type 0
HasNodes scope graph one =
    HasInterface scope graph (interface_of (function_of one)) one.arrows.items one.whole

pub record IsResolved (resolved : Resolved) : Type 0 where
  -- its names are sound, and no two of its functions, nor of its patterns, begin at one place
  pub well_made : IsWellMadeProgram (program_of resolved)
  pub sound : (fault : Fault) → IsFaultOfProgram (program_of resolved) fault → ⊥
  pub places_differ : PlacesDiffer (all_functions (program_of resolved))
  pub starts_differ : StartsDiffer (all_patterns (program_of resolved))
  -- each of its patterns has a kernel
  pub patterns : map pattern_of (kernels_of resolved) ≡ all_patterns (program_of resolved)
  pub kernels : AllOf (HasKernel (scope_of (program_of resolved)) (asked_graph resolved))
      (kernels_of resolved)
  pub starts : AreNumbers (map start_of (all_patterns (program_of resolved))) resolved.starts
  -- and each of its functions the nodes of its interface
  pub functions : map function_of (function_nodes resolved) ≡ all_functions (program_of resolved)
  pub interfaces : AllOf (HasNodes (scope_of (program_of resolved)) (program_graph resolved))
      (function_nodes resolved)
  -- its sites are in the order of the text
  pub sites : map plain_site (site_trees resolved) ≡ all_sites (program_of resolved)
  -- both graphs are sound, and the one begins with the other
  pub asked_sound : IsGraph (asked_graph resolved)
  pub graph_sound : IsGraph (program_graph resolved)
  pub grown : (more : Graph) × (program_graph resolved ≡ asked_graph resolved ++ more)

-- a graph that begins with the nodes of the program
abbrev pub Extends : Resolved → Graph → Type 0
Extends resolved graph = (more : Graph) × (graph ≡ program_graph resolved ++ more)
