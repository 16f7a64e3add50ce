-- A completed pattern has alternatives. Its labels are labels, and it is well made, where the
-- pattern is such.
use Rattle.cd_matching.specs.Pattern as pattern
use Rattle.cd_matching.specs.Pattern.{Pattern, Patterns, NoPattern, APattern, Fields, NoField}
use Rattle.cd_matching.specs.Pattern.{Present, Optional, Regular, Regulars, NoRegular, ARegular}
use Rattle.cd_kernel.specs.Alternatives.{HasAlternatives, HaveAlternatives}
use Rattle.cd_kernel.specs.Alternatives.{FieldsHaveAlternatives, RegularHasAlternatives}
use Rattle.cd_kernel.specs.Alternatives.{RegularsHaveAlternatives}
use Rattle.cd_kernel.specs.Labelled.{HasLabels, HaveLabels, FieldsHaveLabels, RegularHasLabels}
use Rattle.cd_kernel.specs.Labelled.{RegularsHaveLabels}
use Rattle.cd_kernel.specs.WellMade.{IsWellMade, AreWellMade, AreWellMadeFields}
use Rattle.cd_kernel.specs.WellMade.{IsWellMadeRegular, AreWellMadeRegulars}
use Rattle.cd_kernel.specs.Inner.Completed.{choice, completed, completed_all, completed_fields}
use Rattle.cd_kernel.specs.Inner.Completed.{completed_regular, completed_regulars}

module _ {T : Type 0} where
  choice_has : (all : Regulars T) → RegularsHaveAlternatives all
      → RegularHasAlternatives (choice all)
  choice_has NoRegular have = tt
  choice_has (ARegular first rest) have = (tt, have)

  mutual
    pub completed_has : (p : Pattern T) → HasAlternatives (completed p)
    completed_has (pattern.OfType type) = tt
    completed_has (pattern.Bind name) = tt
    completed_has (pattern.Default name constant) = tt
    completed_has (pattern.Pair p q) = (completed_has p, completed_has q)
    completed_has (pattern.Xml p q r) = (completed_has p, completed_has q, completed_has r)
    completed_has (pattern.Record fields more) = fields_have fields
    completed_has (pattern.Both all) = all_have all
    completed_has (pattern.First all) = all_have all
    completed_has (pattern.Sequence r) = regular_has r

    all_have : (all : Patterns T) → HaveAlternatives (completed_all all)
    all_have NoPattern = tt
    all_have (APattern first rest) = (completed_has first, all_have rest)

    fields_have : (fields : Fields T) → FieldsHaveAlternatives (completed_fields fields)
    fields_have NoField = tt
    fields_have (Present label p rest) = (completed_has p, fields_have rest)
    fields_have (Optional label type rest) = fields_have rest

    regular_has : (r : Regular T) → RegularHasAlternatives (completed_regular r)
    regular_has pattern.Nothing = tt
    regular_has (pattern.Item p) = completed_has p
    regular_has (pattern.Seq all) = regulars_have all
    regular_has (pattern.Alt all) = choice_has (completed_regulars all) (regulars_have all)
    regular_has (pattern.Repeat r post) = regular_has r
    regular_has (pattern.Capture name r) = regular_has r

    regulars_have : (all : Regulars T) → RegularsHaveAlternatives (completed_regulars all)
    regulars_have NoRegular = tt
    regulars_have (ARegular first rest) = (regular_has first, regulars_have rest)

  choice_labels : (all : Regulars T) → RegularsHaveLabels all → RegularHasLabels (choice all)
  choice_labels NoRegular labels = tt
  choice_labels (ARegular first rest) labels = labels

  mutual
    pub completed_labels : (p : Pattern T) → HasLabels p → HasLabels (completed p)
    completed_labels (pattern.OfType type) labels = tt
    completed_labels (pattern.Bind name) labels = tt
    completed_labels (pattern.Default name constant) labels = tt
    completed_labels (pattern.Pair p q) labels =
        (completed_labels p labels.0, completed_labels q labels.1)
    completed_labels (pattern.Xml p q r) labels =
        (completed_labels p labels.0, completed_labels q labels.1, completed_labels r labels.2)
    completed_labels (pattern.Record fields more) labels = field_labels fields labels
    completed_labels (pattern.Both all) labels = all_labels all labels
    completed_labels (pattern.First all) labels = all_labels all labels
    completed_labels (pattern.Sequence r) labels = regular_labels r labels

    all_labels : (all : Patterns T) → HaveLabels all → HaveLabels (completed_all all)
    all_labels NoPattern labels = tt
    all_labels (APattern first rest) labels =
        (completed_labels first labels.0, all_labels rest labels.1)

    field_labels : (fields : Fields T) → FieldsHaveLabels fields
        → FieldsHaveLabels (completed_fields fields)
    field_labels NoField labels = tt
    field_labels (Present label p rest) labels =
        (labels.0, completed_labels p labels.1, field_labels rest labels.2)
    field_labels (Optional label type rest) labels = (labels.0, field_labels rest labels.1)

    regular_labels : (r : Regular T) → RegularHasLabels r
        → RegularHasLabels (completed_regular r)
    regular_labels pattern.Nothing labels = tt
    regular_labels (pattern.Item p) labels = completed_labels p labels
    regular_labels (pattern.Seq all) labels = all_regular_labels all labels
    regular_labels (pattern.Alt all) labels =
        choice_labels (completed_regulars all) (all_regular_labels all labels)
    regular_labels (pattern.Repeat r post) labels = regular_labels r labels
    regular_labels (pattern.Capture name r) labels = regular_labels r labels

    all_regular_labels : (all : Regulars T) → RegularsHaveLabels all
        → RegularsHaveLabels (completed_regulars all)
    all_regular_labels NoRegular labels = tt
    all_regular_labels (ARegular first rest) labels =
        (regular_labels first labels.0, all_regular_labels rest labels.1)

  module _ (IsType : T → Type 0) where
    choice_made : (all : Regulars T) → AreWellMadeRegulars IsType all
        → IsWellMadeRegular IsType (choice all)
    choice_made NoRegular well = tt
    choice_made (ARegular first rest) well = well

    mutual
      pub completed_made : (p : Pattern T) → IsWellMade IsType p → IsWellMade IsType (completed p)
      completed_made (pattern.OfType type) well = well
      completed_made (pattern.Bind name) well = tt
      completed_made (pattern.Default name constant) well = well
      completed_made (pattern.Pair p q) well = (completed_made p well.0, completed_made q well.1)
      completed_made (pattern.Xml p q r) well =
          (completed_made p well.0, completed_made q well.1, completed_made r well.2)
      completed_made (pattern.Record fields more) well = fields_made fields well
      completed_made (pattern.Both all) well = all_made all well
      completed_made (pattern.First all) well = all_made all well
      completed_made (pattern.Sequence r) well = regular_made r well

      all_made : (all : Patterns T) → AreWellMade IsType all
          → AreWellMade IsType (completed_all all)
      all_made NoPattern well = tt
      all_made (APattern first rest) well = (completed_made first well.0, all_made rest well.1)

      fields_made : (fields : Fields T) → AreWellMadeFields IsType fields
          → AreWellMadeFields IsType (completed_fields fields)
      fields_made NoField well = tt
      fields_made (Present label p rest) well = (completed_made p well.0, fields_made rest well.1)
      fields_made (Optional label type rest) well = (well.0, fields_made rest well.1)

      regular_made : (r : Regular T) → IsWellMadeRegular IsType r
          → IsWellMadeRegular IsType (completed_regular r)
      regular_made pattern.Nothing well = tt
      regular_made (pattern.Item p) well = completed_made p well
      regular_made (pattern.Seq all) well = regulars_made all well
      regular_made (pattern.Alt all) well =
          choice_made (completed_regulars all) (regulars_made all well)
      regular_made (pattern.Repeat r post) well = regular_made r well
      regular_made (pattern.Capture name r) well = regular_made r well

      regulars_made : (all : Regulars T) → AreWellMadeRegulars IsType all
          → AreWellMadeRegulars IsType (completed_regulars all)
      regulars_made NoRegular well = tt
      regulars_made (ARegular first rest) well =
          (regular_made first well.0, regulars_made rest well.1)
