-- What the code of a pattern takes of a value is what the code of the program takes.
use Rattle.std.proofs.Common.{◌≡◌, ℕ, Bool, inl, List, Option, Some, None, Vec, Global, option_map, refl, sym, ap}
use Rattle.std.proofs.Common.{◌∙◌}
use Rattle.cd_sets.specs.declared.node_id.NodeId.{NodeId}
use Rattle.cd_syntax.specs.Name.{Name}
use Rattle.cd_syntax.specs.TypeTree.{Tree}
use Rattle.cd_model.specs.Formula.{Graph}
use Rattle.cd_model.specs.Interfaces.{Interfaces}
use Rattle.cd_model.specs.Scope.{Scope}
use Rattle.cd_model.specs.Thing.{Thing, IsValue}
use Rattle.cd_model.proofs.Closures.{every_closure}
use Rattle.cd_matching.specs.Captures.{Captures}
use Rattle.cd_matching.specs.Kernel.{Kernel, by_name}
use Rattle.cd_matching.specs.PlainKernel.{plain_kernel}
use Rattle.cd_matching.proofs.ResolvedPatterns.{resolved_stands}
use Rattle.cd_names.specs.ProgramFaults.{names_of}
use Rattle.cd_asking.specs.MappedArrows.{MapsRight}
use Rattle.cd_asking.specs.Mappings.{Mappings}
use Rattle.cd_evaluation.specs.Environment.{Env}
use Rattle.cd_evaluation.specs.ProgramCode.{answer_of, TakesAs}
use Rattle.cd_resolved.specs.Resolved.{pattern_of, HasKernel}
use Rattle.cd_resolved.specs.declared.pattern_kernel.PatternKernel.{PatternKernel}
use Rattle.cd_code.specs.Tested.{AreTested}
use Rattle.cd_code.specs.Compiled.{if_taken}
use Rattle.cd_code.specs.Inner.Bindings.{all_named, AreBindingsOf}
use Rattle.cd_code.specs.Inner.Numbered.{numbered, env_by}
use Rattle.cd_code.specs.Inner.Taking.{TakesWith}
use Rattle.cd_code.specs.declared.binding.Binding.{Binding}
use Rattle.cd_code.proofs.EnvironmentsCaptured.{captured_by_number}
use Rattle.cd_code.proofs.KernelTakes.{TakesByTests, written_takes}

module _ (graph : Graph) (interfaces : Interfaces) (maps : Mappings) (tested : AreTested graph interfaces maps) where
  by_tests : (kernel : Kernel NodeId) (v : Thing) (bound : List (ℕ × Name)) (answer : Bool) (env : Env)
      → (takes : TakesWith graph maps kernel v bound answer env) → TakesByTests graph interfaces kernel v takes.result
  by_tests kernel v bound answer env takes test right =
      takes.taken interfaces test (every_closure (MapsRight graph interfaces maps) tested.maps_right v) (λ id below. right id)

  -- in the place of captures by numbers stand those by names
  same_answer : (pattern : Tree) (variables : List Name) (bound : List (ℕ × Name)) → bound ≡ numbered variables (names_of pattern)
      → (result : Option (Captures ℕ))
      → option_map (env_by bound) result ≡ answer_of pattern (option_map (by_name variables) result)
  same_answer pattern variables bound same None = refl
  same_answer pattern variables bound same (Some captures) =
      ap (λ bound. Some (env_by bound captures)) same ∙ ap Some (sym (captured_by_number variables (names_of pattern) captures))

  pub code_takes : (scope : Scope) (names : List Name) (one : PatternKernel) (bindings : Vec Binding Global) → HasKernel scope graph one
      → AreBindingsOf names one bindings → (v : Thing) → IsValue v → (answer : Bool) (env : Env)
      → TakesWith graph maps (plain_kernel one.kernel) v (all_named names bindings.items) answer env
      → TakesAs interfaces scope (pattern_of one) v (if_taken answer env)
  code_takes scope names one bindings is are v value answer env takes =
      let pattern = pattern_of one in
      let kernel = plain_kernel one.kernel in
      let bound = all_named names bindings.items in
      inl (
        value,
        option_map (by_name kernel.variables) takes.result,
        written_takes graph interfaces maps tested scope pattern is.p kernel
            (resolved_stands graph is.p scope pattern is.resolved is.named) is.alike v value takes.result
            (by_tests kernel v bound answer env takes),
        takes.same ∙ same_answer pattern kernel.variables bound are.bound takes.result,
      )
