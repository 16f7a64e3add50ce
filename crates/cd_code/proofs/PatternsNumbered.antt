-- What code has under the number of a pattern is of that pattern.
use Rattle.std.proofs.Common.{◌≡◌, ◌<◌, ℕ, zero, suc, List, [], ◌∷◌, Some, Vec, Global, get_or, length, map, sym, ap, subst, ◌∙◌, arith}
use Rattle.std.proofs.lemmas.Option.{none-some, same_Some}
use Rattle.std.proofs.lemmas.Slice.Zip.{AllZip-long}
use Rattle.std.specs.List.{slice_get, AllZip}
use Rattle.cd_syntax.specs.Name.{Name}
use Rattle.cd_syntax.specs.TypeTree.{Tree}
use Rattle.cd_model.specs.AllOf.{AllOf}
use Rattle.cd_model.specs.Formula.{Graph}
use Rattle.cd_graph.specs.Nodes.{nodes}
use Rattle.cd_typing.specs.Typed.{scope_of}
use Rattle.cd_placed.specs.Patterns.{all_patterns}
use Rattle.cd_resolved.specs.Resolved.{kernels_of, asked_graph, pattern_of, HasKernel}
use Rattle.cd_resolved.specs.declared.pattern_kernel.PatternKernel.{PatternKernel}
use Rattle.cd_code.specs.Compiled.{program_of, IsReady}
use Rattle.cd_code.specs.Inner.Bindings.{AreBindingsOf}
use Rattle.cd_code.specs.declared.binding.Binding.{Binding}
use Rattle.cd_code.specs.declared.code.Code.{Code}

-- things of a list by what they are mapped to
module _ {X Y : Type 0} where
  mapped_within : (f : X → Y) (xs : List X) (number : ℕ) (y : Y) → slice_get (map f xs) number ≡ Some y → number < length xs
  mapped_within f [] number y is = absurd (none-some y is)
  mapped_within f (x ∷ xs) zero y is = omega arith
  mapped_within f (x ∷ xs) (suc number) y is = let rest : _ = mapped_within f xs number y is in omega (arith, rest)

  mapped_is : (f : X → Y) (xs : List X) (number : ℕ) (y : Y) (one : X) → slice_get (map f xs) number ≡ Some y → f (get_or xs number one) ≡ y
  mapped_is f [] number y one is = absurd (none-some y is)
  mapped_is f (x ∷ xs) zero y one is = same_Some (f x) y is
  mapped_is f (x ∷ xs) (suc number) y one is = mapped_is f xs number y one is

  -- and things of two lists
  zip_at : (Fact : X → Y → Type 0) (xs : List X) (ys : List Y) (number : ℕ) (one : X) (other : Y) → AllZip Fact xs ys → number < length xs
      → Fact (get_or xs number one) (get_or ys number other)
  zip_at Fact [] ys number one other all within = absurd (omega (arith, within))
  zip_at Fact (x ∷ xs) [] number one other all within = absurd all
  zip_at Fact (x ∷ xs) (y ∷ ys) zero one other all within = all.0
  zip_at Fact (x ∷ xs) (y ∷ ys) (suc number) one other all within = zip_at Fact xs ys number one other all.1 (omega (arith, within))

each_at : {X : Type 0} (Fact : X → Type 0) (xs : List X) (number : ℕ) (one : X) → AllOf Fact xs → number < length xs → Fact (get_or xs number one)
each_at Fact [] number one all within = absurd (omega (arith, within))
each_at Fact (x ∷ xs) zero one all within = all.0
each_at Fact (x ∷ xs) (suc number) one all within = each_at Fact xs number one all.1 (omega (arith, within))

module _ (labels : List Name) (code : Code) (ready : IsReady labels code) (pattern : Tree) (number : ℕ)
    (is : slice_get (all_patterns (program_of code)) number ≡ Some pattern) where
  abbrev kernels : List PatternKernel
  kernels = kernels_of code.program

  there : slice_get (map pattern_of kernels) number ≡ Some pattern
  there = subst (λ (all : List Tree). slice_get all number ≡ Some pattern) (sym ready.resolved.patterns) is

  within : number < length kernels
  within = mapped_within pattern_of kernels number pattern there

  pub bindings_within : (slice : List (Vec Binding Global)) → slice ≡ code.bindings.items → number < length slice
  bindings_within slice same = subst (λ (count : ℕ). number < count)
      (sym (ap length same ∙ AllZip-long (AreBindingsOf labels) kernels code.bindings.items ready.bound)) within

  module _ (seen : List PatternKernel) (same : seen ≡ kernels) (one : PatternKernel) (found : one ≡ get_or seen number one) where
    is_there : one ≡ get_or kernels number one
    is_there = found ∙ ap (λ (all : List PatternKernel). get_or all number one) same

    pub pattern_there : pattern_of one ≡ pattern
    pattern_there = ap pattern_of is_there ∙ mapped_is pattern_of kernels number pattern one there

    pub kernel_there : HasKernel (scope_of (program_of code)) (nodes code.tests.graph) one
    kernel_there = subst (λ (g : Graph). HasKernel (scope_of (program_of code)) g one) (sym ready.graph)
        (subst (HasKernel (scope_of (program_of code)) (asked_graph code.program)) (sym is_there)
        (each_at (HasKernel (scope_of (program_of code)) (asked_graph code.program)) kernels number one ready.resolved.kernels within))

    pub bindings_there : (slice : List (Vec Binding Global)) → slice ≡ code.bindings.items → (bindings : Vec Binding Global)
        → bindings ≡ get_or slice number bindings → AreBindingsOf labels one bindings
    bindings_there slice same_slice bindings found_there = subst (λ (own : PatternKernel). AreBindingsOf labels own bindings) (sym is_there)
        (subst (AreBindingsOf labels (get_or kernels number one))
        (sym (found_there ∙ ap (λ (all : List (Vec Binding Global)). get_or all number bindings) same_slice))
        (zip_at (AreBindingsOf labels) kernels code.bindings.items number one bindings ready.bound within))
