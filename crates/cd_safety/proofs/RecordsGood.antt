-- Records of things of a sort that is known by parts, and what is made of them: labels rise after fields are put, merged and taken
-- away.
use Rattle.std.proofs.Common.{◌≡◌, ◌∙◌, Bool, true, false, Option, Some, None, refl, sym, ap, subst, bytes_eq, if◌then◌else◌}
use Rattle.std.specs.Cmp.Lexicographic.{slice_cmp}
use Rattle.std.specs.Ordering.{nat_cmp, is_eq, ordering_reverse}
use Rattle.std.specs.declared.cmp.Ordering.{Ordering}
use Rattle.std.specs.declared.cmp.Ordering.TheVariants.{Less, Equal, Greater}
use Rattle.std.proofs.lemmas.Cmp.{nat_list_cmp_total}
use Rattle.std.proofs.lemmas.Map.Text.{is_eq-slice_cmp}
use Rattle.std.proofs.lemmas.Slice.Eq.{bytes_eq-Decides}
use Rattle.cd_syntax.specs.Name.{Name, IsLabel, IsAbove}
use Rattle.cd_model.specs.Thing.{Thing, Fields, NoField, Field, Record, LabelsRise}
use Rattle.cd_rules.specs.InRow.{thing_at}
use Rattle.cd_evaluation.specs.RecordFields.{placed, put, merged, without}
use Rattle.cd_safety.specs.ByParts.{IsByParts}

-- what the order of two labels says of them
pub same_label : (label other : Name) → slice_cmp nat_cmp label other ≡ Equal → label ≡ other
same_label label other equal = (bytes_eq-Decides label other).0 (sym (is_eq-slice_cmp label other) ∙ ap is_eq equal)

pub turned : (label other : Name) → slice_cmp nat_cmp label other ≡ Greater → slice_cmp nat_cmp other label ≡ Less
turned label other greater = nat_list_cmp_total.antisymm other label ∙ ap ordering_reverse greater

above_later : (before : Option Name) (label other : Name) → IsAbove before label → IsAbove (Some label) other → IsAbove before other
above_later None label other above later = tt
above_later (Some name) label other above later = nat_list_cmp_total.trans name label other above later

put_rises : (before : Option Name) (label : Name) (v : Thing) (fields : Fields) → IsAbove before label → LabelsRise before fields
    → LabelsRise before (put label v fields)
put_rises before label v NoField above rise = (above, tt)
put_rises before label v (Field other w rest) above rise =
    by_order (slice_cmp nat_cmp label other) refl (λ less. put_rises (Some other) label v rest less rise.1)
  where
    by_order : (order : Ordering) → slice_cmp nat_cmp label other ≡ order
        → (slice_cmp nat_cmp other label ≡ Less → LabelsRise (Some other) (put label v rest))
        → LabelsRise before (placed order label v other w rest (put label v rest))
    by_order Less is later = (above, (is, rise.1))
    by_order Equal is later = (above, subst (λ (name : Name). LabelsRise (Some name) rest) (sym (same_label label other is)) rise.1)
    by_order Greater is later = (rise.0, later (turned label other is))

without_rises : (before : Option Name) (label : Name) (fields : Fields) → LabelsRise before fields
    → LabelsRise before (without label fields)
without_rises before label NoField rise = tt
without_rises before label (Field other v rest) rise = by_test (bytes_eq other label) (without_rises (Some other) label rest rise.1)
  where
    lower : (fields : Fields) → LabelsRise (Some other) fields → LabelsRise before fields
    lower NoField higher = tt
    lower (Field name w last) higher = (above_later before other name rise.0 higher.0, higher.1)

    by_test : (same : Bool) → LabelsRise (Some other) (without label rest)
        → LabelsRise before (if same then rest else Field other v (without label rest))
    by_test true later = lower rest rise.1
    by_test false later = (rise.0, later)

module _ (Of : Thing → Type 0) (OfFields : Fields → Type 0) (by_parts : IsByParts Of OfFields) where
  put_are : (label : Name) (v : Thing) (fields : Fields) → IsLabel label → Of v → OfFields fields → OfFields (put label v fields)
  put_are label v NoField is_label is are = (by_parts.field label v NoField).1 (is_label, is, by_parts.no_field)
  put_are label v (Field other w rest) is_label is are =
      let parts = (by_parts.field other w rest).0 are in
      by_order (slice_cmp nat_cmp label other) parts.0 parts.1 parts.2 (put_are label v rest is_label is parts.2)
    where
      by_order : (order : Ordering) → IsLabel other → Of w → OfFields rest → OfFields (put label v rest)
          → OfFields (placed order label v other w rest (put label v rest))
      by_order Less other_is own last later = (by_parts.field label v (Field other w rest)).1 (is_label, is, are)
      by_order Equal other_is own last later = (by_parts.field label v rest).1 (is_label, is, last)
      by_order Greater other_is own last later = (by_parts.field other w (put label v rest)).1 (other_is, own, later)

  pub put_good : (label : Name) (v : Thing) (fields : Fields) → IsLabel label → Of v → Of (Record fields) → Of (Record (put label v fields))
  put_good label v fields is_label is are =
      let all = (by_parts.fields fields).0 are in
      (by_parts.fields (put label v fields)).1
      (put_rises None label v fields tt all.0, put_are label v fields is_label is all.1)

  merged_are : (fields others : Fields) → Of (Record fields) → OfFields others → Of (Record (merged fields others))
  merged_are fields NoField are those = are
  merged_are fields (Field label v rest) are those =
      let parts = (by_parts.field label v rest).0 those in
      put_good label v (merged fields rest) parts.0 parts.1 (merged_are fields rest are parts.2)

  pub merged_good : (fields others : Fields) → Of (Record fields) → Of (Record others) → Of (Record (merged fields others))
  merged_good fields others are those = merged_are fields others are ((by_parts.fields others).0 those).1

  without_are : (label : Name) (fields : Fields) → OfFields fields → OfFields (without label fields)
  without_are label NoField are = are
  without_are label (Field other v rest) are =
      let parts = (by_parts.field other v rest).0 are in
      by_test (bytes_eq other label) parts.0 parts.1 parts.2 (without_are label rest parts.2)
    where
      by_test : (same : Bool) → IsLabel other → Of v → OfFields rest → OfFields (without label rest)
          → OfFields (if same then rest else Field other v (without label rest))
      by_test true is_label own last later = last
      by_test false is_label own last later = (by_parts.field other v (without label rest)).1 (is_label, own, later)

  pub without_good : (label : Name) (fields : Fields) → Of (Record fields) → Of (Record (without label fields))
  without_good label fields are =
      let all = (by_parts.fields fields).0 are in
      (by_parts.fields (without label fields)).1 (without_rises None label fields all.0, without_are label fields all.1)

  -- what a record has at a label, if it has something there
  abbrev pub OneOf : Option Thing → Type 0
  OneOf None = Unit {0}
  OneOf (Some v) = Of v

  pub at_of : (fields : Fields) → OfFields fields → (label : Name) → OneOf (thing_at fields label)
  at_of NoField are label = tt
  at_of (Field name v rest) are label =
      let parts = (by_parts.field name v rest).0 are in
      by_test (bytes_eq name label) parts.1 (at_of rest parts.2 label)
    where
      by_test : (same : Bool) → Of v → OneOf (thing_at rest label) → OneOf (if same then Some v else thing_at rest label)
      by_test true own later = own
      by_test false own later = later

  pub at_good : (fields : Fields) (label : Name) → Of (Record fields) → OneOf (thing_at fields label)
  at_good fields label are = at_of fields ((by_parts.fields fields).0 are).1 label
