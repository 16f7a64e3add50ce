-- Where labels rise, a record has nothing more at a label that it has passed.
use Rattle.std.proofs.Common.{◌≡◌, Bool, false, Some, sym, ◌∙◌, ap}
use Rattle.std.specs.Prelude.{bytes_eq}
use Rattle.std.specs.Ordering.{nat_cmp, is_eq, ordering_reverse}
use Rattle.std.specs.Cmp.Lexicographic.{slice_cmp}
use Rattle.std.specs.declared.cmp.Ordering.TheVariants.{Less}
use Rattle.std.proofs.lemmas.Cmp.{nat_list_cmp_total}
use Rattle.std.proofs.lemmas.Map.Text.{is_eq-slice_cmp}
use Rattle.cd_syntax.specs.Name.{Name}
use Rattle.std.proofs.Common.{ℕ}
use Rattle.cd_model.specs.Thing.{Fields, NoField, Field, LabelsRise}
use Rattle.cd_model.specs.Types.{FieldOf, Presentation, Mapping, absent, labelled}
use Rattle.cd_model.proofs.EachLabel.{passed_over}

-- no label above this one is the name
abbrev IsPassed : (name before : Name) → Type 0
IsPassed name before = (label : Name) → slice_cmp nat_cmp before label ≡ Less → bytes_eq label name ≡ false

passed_itself : (name : Name) → IsPassed name name
passed_itself name = λ label above.
    sym (is_eq-slice_cmp label name) ∙ ap is_eq (nat_list_cmp_total.antisymm label name ∙ ap ordering_reverse above)

passed_later : (name before label : Name)
    → slice_cmp nat_cmp before label ≡ Less → IsPassed name before → IsPassed name label
passed_later name before label above passed = λ other higher.
    passed other (nat_list_cmp_total.trans before label other above higher)

module _ {X : Type 0} (at : Presentation X) (closed : ℕ → Mapping X) where
  nothing_passed : (fields : Fields) (name before : Name) (field : FieldOf X) (answer : Bool)
      → IsPassed name before → LabelsRise (Some before) fields → absent field answer
      → labelled at closed fields name field answer
  nothing_passed NoField name before field answer passed rise is = is
  nothing_passed (Field label value rest) name before field answer passed rise is =
      let later = passed_later name before label rise.0 passed in
      passed_over (bytes_eq label name) _ _ (passed label rise.0)
      (nothing_passed rest name label field answer later rise.1 is)

  pub nothing_more : (fields : Fields) (name : Name) (field : FieldOf X) (answer : Bool)
      → LabelsRise (Some name) fields → absent field answer → labelled at closed fields name field answer
  nothing_more fields name field answer = nothing_passed fields name name field answer (passed_itself name)
