-- Going on from one pattern to the next while names are bound.
use Rattle.std.proofs.Common.{◌≡◌, ◌<◌, ◌+◌, ◌++◌, ℕ, List, [], ◌∷◌, Vec, Global, get_or, length, map, take, sym, ap, subst, ◌∙◌}
use Rattle.std.proofs.lemmas.List.{take_more}
use Rattle.cd_syntax.specs.Name.{Name}
use Rattle.cd_syntax.specs.WellMadePattern.{IsWellMadePattern}
use Rattle.cd_model.specs.AllOf.{AllOf}
use Rattle.cd_model.proofs.ByNumber.{zip_pushed}
use Rattle.cd_model.proofs.Ones.{each_weaker}
use Rattle.cd_placed.specs.Patterns.{all_patterns}
use Rattle.cd_resolved.specs.Resolved.{program_of, kernels_of, pattern_of, IsResolved}
use Rattle.cd_resolved.specs.Inner.SoundPatterns.{IsSoundPattern}
use Rattle.cd_resolved.specs.declared.pattern_kernel.PatternKernel.{PatternKernel}
use Rattle.cd_resolved.specs.declared.resolved.Resolved.{Resolved}
use Rattle.cd_resolved.proofs.SoundParts.{sound_patterns}
use Rattle.cd_code.specs.Inner.Bindings.{AreBindingsOf, AreAllBound}
use Rattle.cd_code.specs.declared.binding.Binding.{Binding}
use Rattle.cd_code.proofs.BindingsStay.{bound_in_grown}

of_mapped : {X Y : Type 0} (Fact : Y → Type 0) (f : X → Y) (xs : List X) → AllOf Fact (map f xs) → AllOf (λ x. Fact (f x)) xs
of_mapped Fact f [] each = tt
of_mapped Fact f (x ∷ xs) each = (each.0, of_mapped Fact f xs each.1)

-- the patterns of a program are well made
pub patterns_made : (program : Resolved) → IsResolved program → AllOf (λ one. IsWellMadePattern (pattern_of one)) (kernels_of program)
patterns_made program is = of_mapped IsWellMadePattern pattern_of (kernels_of program)
    (subst (AllOf IsWellMadePattern) (sym is.patterns)
    (each_weaker (IsSoundPattern (program_of program).types) IsWellMadePattern (λ pattern sound. sound.well_made) (all_patterns (program_of program))
    (sound_patterns (program_of program) is.well_made is.sound)))

module _ (kernels : List PatternKernel) where
  pub one_more_bound : (old new : List Name) → (more : List Name) × (new ≡ old ++ more) → (index : ℕ) (one : PatternKernel) → index < length kernels
      → one ≡ get_or kernels index one → (all longer : List (Vec Binding Global)) (bindings : Vec Binding Global) → longer ≡ all ++ bindings ∷ []
      → AreBindingsOf new one bindings → AreAllBound old (take index kernels) all → AreAllBound new (take (index + 1) kernels) longer
  one_more_bound old new grown index one within is all longer bindings added are before =
      subst (λ (taken : List PatternKernel). AreAllBound new taken longer)
      (ap (λ last. take index kernels ++ last ∷ []) is ∙ sym (take_more kernels index one within))
      (subst (AreAllBound new (take index kernels ++ one ∷ [])) (sym added)
      (zip_pushed (AreBindingsOf new) (take index kernels) all one bindings
      (bound_in_grown old new grown (take index kernels) all before) are))
