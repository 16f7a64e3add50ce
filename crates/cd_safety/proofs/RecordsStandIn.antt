-- Where elements stand in for values, so do records of them in which fields are put, merged and taken away, and what is at a label.
use Rattle.std.proofs.Common.{Bool, true, false, Some, bytes_eq, if◌then◌else◌}
use Rattle.std.specs.Cmp.Lexicographic.{slice_cmp}
use Rattle.std.specs.Ordering.{nat_cmp}
use Rattle.std.specs.declared.cmp.Ordering.{Ordering}
use Rattle.std.specs.declared.cmp.Ordering.TheVariants.{Less, Equal, Greater}
use Rattle.cd_syntax.specs.Name.{Name}
use Rattle.cd_model.specs.Formula.{Graph}
use Rattle.cd_model.specs.Interfaces.{Interfaces}
use Rattle.cd_model.specs.Thing.{Thing, Fields, NoField, Field}
use Rattle.cd_rules.specs.InRow.{thing_at}
use Rattle.cd_evaluation.specs.RecordFields.{placed, put, merged, without}
use Rattle.cd_safety.specs.StandsIn as stand
use Rattle.cd_safety.specs.StandsIn.{StandsIn, FieldsStandIn}
use Rattle.cd_safety.specs.OutcomesStandIn.{OneStandsIn}

module _ (graph : Graph) (interfaces : Interfaces) where
  abbrev Stands : (v e : Thing) → Type 0
  Stands v e = StandsIn graph interfaces v e

  abbrev FieldsStand : (fields others : Fields) → Type 0
  FieldsStand fields others = FieldsStandIn graph interfaces fields others

  pub put_stands : (label : Name) (v e : Thing) (fields others : Fields) → Stands v e → FieldsStand fields others
      → FieldsStand (put label v fields) (put label e others)
  put_stands label v e _ _ stands stand.no_field = stand.field label v e NoField NoField stands stand.no_field
  put_stands label v e _ _ stands (stand.field other w d rest last own more) =
      by_order (slice_cmp nat_cmp label other) (put_stands label v e rest last stands more)
    where
      by_order : (order : Ordering) → FieldsStand (put label v rest) (put label e last)
          → FieldsStand (placed order label v other w rest (put label v rest)) (placed order label e other d last (put label e last))
      by_order Less later =
          stand.field label v e (Field other w rest) (Field other d last) stands (stand.field other w d rest last own more)
      by_order Equal later = stand.field label v e rest last stands more
      by_order Greater later = stand.field other w d (put label v rest) (put label e last) own later

  pub merged_stand : (fields others second those : Fields) → FieldsStand fields others → FieldsStand second those
      → FieldsStand (merged fields second) (merged others those)
  merged_stand fields others _ _ are stand.no_field = are
  merged_stand fields others _ _ are (stand.field label v e rest last own more) =
      put_stands label v e (merged fields rest) (merged others last) own (merged_stand fields others rest last are more)

  pub without_stands : (label : Name) (fields others : Fields) → FieldsStand fields others
      → FieldsStand (without label fields) (without label others)
  without_stands label _ _ stand.no_field = stand.no_field
  without_stands label _ _ (stand.field other v e rest last own more) =
      by_test (bytes_eq other label) (without_stands label rest last more)
    where
      by_test : (same : Bool) → FieldsStand (without label rest) (without label last)
          → FieldsStand (if same then rest else Field other v (without label rest))
          (if same then last else Field other e (without label last))
      by_test true later = more
      by_test false later = stand.field other v e (without label rest) (without label last) own later

  pub at_stands : (fields others : Fields) (label : Name) → FieldsStand fields others
      → OneStandsIn graph interfaces (thing_at fields label) (thing_at others label)
  at_stands _ _ label stand.no_field = tt
  at_stands _ _ label (stand.field name v e rest last own more) = by_test (bytes_eq name label) (at_stands rest last label more)
    where
      by_test : (same : Bool) → OneStandsIn graph interfaces (thing_at rest label) (thing_at last label)
          → OneStandsIn graph interfaces (if same then Some v else thing_at rest label) (if same then Some e else thing_at last label)
      by_test true later = own
      by_test false later = later
