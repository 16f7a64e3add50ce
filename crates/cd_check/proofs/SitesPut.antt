-- The sites of all patterns of a program.
use Rattle.std.proofs.Common.{◌++◌, List, ap, sym, subst, ◌∙◌, append_assoc}
use Rattle.cd_syntax.specs.TypeTree.{Tree}
use Rattle.cd_model.specs.AllOf.{AllOf}
use Rattle.cd_model.specs.Formula.{Graph}
use Rattle.cd_names.proofs.ArrowsResolved.{all_of_map}
use Rattle.cd_typing.specs.Typed.{scope_of}
use Rattle.cd_resolved.specs.Inner.SoundPatterns.{IsSoundPattern}
use Rattle.cd_resolved.specs.Resolved.{IsResolved, Extends, HasKernel, program_of, kernels_of, asked_graph, pattern_of}
use Rattle.cd_resolved.specs.declared.resolved.Resolved.{Resolved}
use Rattle.cd_resolved.proofs.KernelsStay.{kernels_grown}
use Rattle.cd_resolved.proofs.SoundParts.{sound_patterns}

module _ (program : Resolved) (is : IsResolved program) where
  -- their kernels, in each graph that begins with the nodes of the program
  pub kernels_in : (graph : Graph) → Extends program graph → AllOf (HasKernel (scope_of (program_of program)) graph) (kernels_of program)
  kernels_in graph extends = kernels_grown (scope_of (program_of program)) (asked_graph program) graph is.asked_sound (
    is.grown.0 ++ extends.0,
    extends.1 ∙ ap (λ (g : Graph). g ++ extends.0) is.grown.1
        ∙ append_assoc (asked_graph program) is.grown.0 extends.0,
  ) (kernels_of program) is.kernels

  pub patterns_faultless : AllOf (λ one. IsSoundPattern (program_of program).types (pattern_of one)) (kernels_of program)
  patterns_faultless = all_of_map pattern_of (IsSoundPattern (program_of program).types) (kernels_of program)
      (subst (λ (all : List Tree). AllOf (IsSoundPattern (program_of program).types) all) (sym is.patterns)
      (sound_patterns (program_of program) is.well_made is.sound))
