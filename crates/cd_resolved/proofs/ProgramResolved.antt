-- A program that is resolved, by what is known of its parts.
use Rattle.std.proofs.Common.{◌≡◌, ◌++◌, map, sym, subst}
use Rattle.cd_model.specs.AllOf.{AllOf}
use Rattle.cd_model.specs.Formula.{Graph, IsGraph}
use Rattle.cd_program.specs.Expr.{Program}
use Rattle.cd_program.specs.WellMade.{IsWellMadeProgram}
use Rattle.cd_resolve.specs.Faults.{Fault}
use Rattle.cd_names.specs.ProgramFaults.{IsFaultOfProgram}
use Rattle.cd_typing.specs.Sites.{all_sites}
use Rattle.cd_typing.specs.Typed.{scope_of}
use Rattle.cd_evaluation.specs.ProgramFunctions.{all_functions, PlacesDiffer}
use Rattle.cd_placed.specs.Patterns.{all_patterns, start_of, StartsDiffer}
use Rattle.cd_resolved.specs.Inner.Numbers.{AreNumbers}
use Rattle.cd_resolved.specs.PlainSite.{plain_site}
use Rattle.cd_resolved.specs.Resolved.{program_of, kernels_of, function_nodes, site_trees, asked_graph, program_graph}
use Rattle.cd_resolved.specs.Resolved.{pattern_of, function_of, HasKernel, HasNodes, IsResolved}
use Rattle.cd_resolved.specs.declared.resolved.Resolved.{Resolved}

-- what is known of the parts, where this is the program
pub record IsMadeOf (program : Program) (resolved : Resolved) : Type 0 where
  pub well_made : IsWellMadeProgram program
  pub sound : (fault : Fault) → IsFaultOfProgram program fault → ⊥
  pub places_differ : PlacesDiffer (all_functions program)
  pub starts_differ : StartsDiffer (all_patterns program)
  pub patterns : map pattern_of (kernels_of resolved) ≡ all_patterns program
  pub kernels : AllOf (HasKernel (scope_of program) (asked_graph resolved)) (kernels_of resolved)
  pub starts : AreNumbers (map start_of (all_patterns program)) resolved.starts
  pub functions : map function_of (function_nodes resolved) ≡ all_functions program
  pub interfaces : AllOf (HasNodes (scope_of program) (program_graph resolved)) (function_nodes resolved)
  pub sites : map plain_site (site_trees resolved) ≡ all_sites program
  pub asked_sound : IsGraph (asked_graph resolved)
  pub graph_sound : IsGraph (program_graph resolved)
  pub grown : (more : Graph) × (program_graph resolved ≡ asked_graph resolved ++ more)

of_its_own : (resolved : Resolved) → IsMadeOf (program_of resolved) resolved → IsResolved resolved
of_its_own resolved made = record {
  well_made = made.well_made;
  sound = made.sound;
  places_differ = made.places_differ;
  starts_differ = made.starts_differ;
  patterns = made.patterns;
  kernels = made.kernels;
  starts = made.starts;
  functions = made.functions;
  interfaces = made.interfaces;
  sites = made.sites;
  asked_sound = made.asked_sound;
  graph_sound = made.graph_sound;
  grown = made.grown;
}

pub is_resolved : (program : Program) (resolved : Resolved) → program_of resolved ≡ program → IsMadeOf program resolved → IsResolved resolved
is_resolved program resolved own made = of_its_own resolved (subst (λ p. IsMadeOf p resolved) (sym own) made)
