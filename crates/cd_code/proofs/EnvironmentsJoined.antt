-- Names before others, as environments.
use Rattle.std.proofs.Common.{◌≡◌, ℕ, List, [], ◌∷◌, ◌++◌, Option, Some, None, refl, sym, ap, subst, ◌∙◌, ◌<◌}
use Rattle.cd_syntax.specs.Name.{Name, IsLabel}
use Rattle.cd_model.specs.AllOf.{AllOf}
use Rattle.cd_model.proofs.Covered.{each_both}
use Rattle.cd_model.specs.Thing.{Thing, NoField, Field}
use Rattle.cd_matching.specs.Captures.{Captures}
use Rattle.cd_cells.specs.Cells.{name_at, thing_at, fields_of, IsPart}
use Rattle.cd_cells.specs.declared.cell.Part.{Part}
use Rattle.cd_evaluation.specs.Environment.{Env, with_all, with_capture}
use Rattle.cd_code.specs.Inner.Numbered.{env_by}

pub grouped : (one other last : Env) → with_all (with_all one other) last ≡ with_all one (with_all other last)
grouped NoField other last = refl
grouped (Field name v rest) other last = ap (Field name v) (grouped rest other last)

pub with_none : (env : Env) → with_all env NoField ≡ env
with_none NoField = refl
with_none (Field name v rest) = ap (Field name v) (with_none rest)

-- one more part at the end
pub part_after : (names : List Name) (table : List Thing) (parts : List Part) (part : Part)
    → fields_of names table (parts ++ part ∷ []) ≡ with_all (fields_of names table parts) (fields_of names table (part ∷ []))
part_after names table [] part = refl
part_after names table (first ∷ parts) part =
    ap (Field (name_at names first.label) (thing_at table first.value)) (part_after names table parts part)

-- one before others
pub one_before : (one : ℕ × Name) (rest : List (ℕ × Name)) (captures : Captures ℕ)
    → env_by (one ∷ rest) captures ≡ with_all (env_by (one ∷ []) captures) (env_by rest captures)
one_before one rest captures = by (captures one.0)
  where
    by : (found : Option Thing) → with_capture one.1 found (env_by rest captures)
        ≡ with_all (with_capture one.1 found NoField) (env_by rest captures)
    by None = refl
    by (Some v) = refl

-- a part of what is captured
module _ (part : Part) (label value : ℕ) (is_label : part.label ≡ label) (is_value : part.value ≡ value) where
  pub one_part : (names : List Name) (table : List Thing) (found : Option Thing) → Some (thing_at table value) ≡ found
      → fields_of names table (part ∷ []) ≡ with_capture (name_at names label) found NoField
  one_part names table found is =
      ap (λ at. Field (name_at names at) (thing_at table part.value) NoField) is_label
      ∙ ap (λ at. Field (name_at names label) (thing_at table at) NoField) is_value
      ∙ ap (λ found. with_capture (name_at names label) found NoField) is

  pub part_is : (names : List Name) (bound : ℕ) → IsLabel (name_at names label) → value < bound → IsPart names bound part
  part_is names bound labelled within =
      (subst (λ at. IsLabel (name_at names at)) (sym is_label) labelled, subst (λ at. at < bound) (sym is_value) within)

  pub parts_with : (names : List Name) (bound : ℕ) (old new : List Part) → new ≡ old ++ part ∷ [] → AllOf (IsPart names bound) old
      → IsLabel (name_at names label) → value < bound → AllOf (IsPart names bound) new
  parts_with names bound old new is before labelled within =
      subst (AllOf (IsPart names bound)) (sym is)
      (each_both (IsPart names bound) old (part ∷ []) before (part_is names bound labelled within, tt))
