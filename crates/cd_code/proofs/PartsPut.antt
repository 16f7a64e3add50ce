-- Going on from one name to the next while parts are put.
use Rattle.std.proofs.Common.{◌≡◌, ◌<◌, ◌+◌, ℕ, List, [], ◌∷◌, drop, sym, ap, subst, ◌∙◌}
use Rattle.cd_syntax.specs.Name.{Name, IsLabel}
use Rattle.cd_model.specs.AllOf.{AllOf}
use Rattle.cd_model.specs.Thing.{Thing}
use Rattle.cd_cells.specs.Cells.{name_at, fields_of, IsPart}
use Rattle.cd_cells.specs.declared.cell.Part.{Part}
use Rattle.cd_evaluation.specs.Environment.{Env, with_all}
use Rattle.cd_code.specs.Inner.Bindings.{all_named, named_by, HaveLabels}
use Rattle.cd_code.specs.Inner.Numbered.{env_by}
use Rattle.cd_taking.specs.Taken.{captured}
use Rattle.cd_code.specs.declared.binding.Binding.{Binding}
use Rattle.cd_taking.specs.declared.capture.Capture.{Capture}
use Rattle.cd_code.proofs.EnvironmentsJoined.{grouped, one_before}

module _ (bindings : List Binding) (captures : List Capture) (index : ℕ) (binding : Binding)
    (is : drop index bindings ≡ binding ∷ drop (index + 1) bindings) (old new : List Part) where
  pub env_goes_on : (names : List Name) (table : List Thing) (whole : Env)
      → fields_of names table new
      ≡ with_all (fields_of names table old) (env_by (all_named names (binding ∷ [])) (captured table captures))
      → with_all (fields_of names table old) (env_by (all_named names (drop index bindings)) (captured table captures)) ≡ whole
      → with_all (fields_of names table new) (env_by (all_named names (drop (index + 1) bindings)) (captured table captures)) ≡ whole
  env_goes_on names table whole one before =
      let rest = all_named names (drop (index + 1) bindings) in
      let first = named_by names binding in
      let taken = captured table captures in
      ap (λ env. with_all env (env_by rest taken)) one
      ∙ grouped (fields_of names table old) (env_by (first ∷ []) taken) (env_by rest taken)
      ∙ ap (with_all (fields_of names table old)) (sym (one_before first rest taken))
      ∙ ap (λ left. with_all (fields_of names table old) (env_by (all_named names left) taken)) (sym is)
      ∙ before

  pub parts_go_on : (names : List Name) (bound : ℕ) → AllOf (λ capture. capture.value.0 < bound) captures
      → (AllOf (IsPart names bound) old → IsLabel (name_at names binding.label)
      → AllOf (λ capture. capture.value.0 < bound) captures → AllOf (IsPart names bound) new)
      → HaveLabels names (drop index bindings) × AllOf (IsPart names bound) old
      → HaveLabels names (drop (index + 1) bindings) × AllOf (IsPart names bound) new
  parts_go_on names bound within one before =
      let labels = subst (HaveLabels names) is before.0 in (labels.1, one before.1 labels.0 within)
