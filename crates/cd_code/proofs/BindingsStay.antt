-- The names that a pattern binds keep their numbers where a table of names grows.
use Rattle.std.proofs.Common.{◌≡◌, List, [], ◌∷◌, ◌++◌, Vec, Global, refl, sym, ap, ap₂, subst, ◌∙◌}
use Rattle.std.proofs.lemmas.List.{map_push}
use Rattle.cd_syntax.specs.Name.{Name, IsLabel}
use Rattle.cd_model.proofs.ByNumber.{zip_weaker}
use Rattle.cd_model.proofs.Covered.{each_both}
use Rattle.cd_cells.specs.Cells.{name_at}
use Rattle.cd_cells.proofs.InGrown.{name_in_grown}
use Rattle.cd_resolved.specs.declared.pattern_kernel.PatternKernel.{PatternKernel}
use Rattle.cd_code.specs.declared.binding.Binding.{Binding}
use Rattle.cd_code.specs.Inner.Bindings.{named_by, all_named, HaveLabels, AreBindingsOf, AreAllBound}

pub still_named : (names more : List Name) (bindings : List Binding) → HaveLabels names bindings
    → all_named (names ++ more) bindings ≡ all_named names bindings
still_named names more [] labels = refl
still_named names more (binding ∷ rest) labels =
    ap₂ (λ name others. (binding.variable, name) ∷ others) (name_in_grown names more binding.label labels.0)
    (still_named names more rest labels.1)

pub still_labels : (names more : List Name) (bindings : List Binding) → HaveLabels names bindings → HaveLabels (names ++ more) bindings
still_labels names more [] labels = tt
still_labels names more (binding ∷ rest) labels = (
  subst IsLabel (sym (name_in_grown names more binding.label labels.0)) labels.0,
  still_labels names more rest labels.1,
)

-- the same of names that grew
module _ (old new : List Name) (grown : (more : List Name) × (new ≡ old ++ more)) (bindings : List Binding) (labels : HaveLabels old bindings) where
  pub named_in_grown : all_named new bindings ≡ all_named old bindings
  named_in_grown = ap (λ names. all_named names bindings) grown.1 ∙ still_named old grown.0 bindings labels

  pub labels_in_grown : HaveLabels new bindings
  labels_in_grown = subst (λ names. HaveLabels names bindings) (sym grown.1) (still_labels old grown.0 bindings labels)

  -- with one more name
  pub one_more_named : (after : List Binding) (binding : Binding) (name : Name) → after ≡ bindings ++ binding ∷ []
      → name_at new binding.label ≡ name → all_named new after ≡ all_named old bindings ++ (binding.variable, name) ∷ []
  one_more_named after binding name is named =
      ap (all_named new) is ∙ map_push (named_by new) bindings binding
      ∙ ap₂ (λ before name. before ++ (binding.variable, name) ∷ []) named_in_grown named

  pub one_more_label : (after : List Binding) (binding : Binding) (name : Name) → after ≡ bindings ++ binding ∷ []
      → name_at new binding.label ≡ name → IsLabel name → HaveLabels new after
  one_more_label after binding name is named label =
      subst (HaveLabels new) (sym is)
      (each_both (λ one. IsLabel (name_at new one.label)) bindings (binding ∷ []) labels_in_grown (subst IsLabel (sym named) label, tt))

-- the names that each of some patterns binds
pub still_bound : (names more : List Name) (kernels : List PatternKernel) (all : List (Vec Binding Global)) → AreAllBound names kernels all
    → AreAllBound (names ++ more) kernels all
still_bound names more = zip_weaker (AreBindingsOf names) (AreBindingsOf (names ++ more)) (λ one bindings are. record {
  bound = still_named names more bindings.items are.labels ∙ are.bound;
  labels = still_labels names more bindings.items are.labels;
})

pub bound_in_grown : (old new : List Name) → (more : List Name) × (new ≡ old ++ more) → (kernels : List PatternKernel) (all : List (Vec Binding Global))
    → AreAllBound old kernels all → AreAllBound new kernels all
bound_in_grown old new grown kernels all are =
    subst (λ names. AreAllBound names kernels all) (sym grown.1) (still_bound old grown.0 kernels all are)
