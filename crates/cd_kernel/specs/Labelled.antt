-- Patterns whose labels are labels.
use Rattle.cd_syntax.specs.Name.{IsLabel}
use Rattle.cd_matching.specs.Pattern as pattern
use Rattle.cd_matching.specs.Pattern.{Pattern, Patterns, NoPattern, APattern, Fields, NoField}
use Rattle.cd_matching.specs.Pattern.{Present, Optional, Regular, Regulars, NoRegular, ARegular}

abbrev mutual
  pub HasLabels : {T : Type 0} → Pattern T → Type 0
  HasLabels (pattern.Pair p q) = HasLabels p × HasLabels q
  HasLabels (pattern.Xml p q r) = HasLabels p × HasLabels q × HasLabels r
  HasLabels (pattern.Record fields more) = FieldsHaveLabels fields
  HasLabels (pattern.Both all) = HaveLabels all
  HasLabels (pattern.First all) = HaveLabels all
  HasLabels (pattern.Sequence r) = RegularHasLabels r
  HasLabels p = Unit {0}

  pub HaveLabels : {T : Type 0} → Patterns T → Type 0
  HaveLabels NoPattern = Unit {0}
  HaveLabels (APattern first rest) = HasLabels first × HaveLabels rest

  pub FieldsHaveLabels : {T : Type 0} → Fields T → Type 0
  FieldsHaveLabels NoField = Unit {0}
  FieldsHaveLabels (Present label p rest) = IsLabel label × HasLabels p × FieldsHaveLabels rest
  FieldsHaveLabels (Optional label type rest) = IsLabel label × FieldsHaveLabels rest

  pub RegularHasLabels : {T : Type 0} → Regular T → Type 0
  RegularHasLabels pattern.Nothing = Unit {0}
  RegularHasLabels (pattern.Item p) = HasLabels p
  RegularHasLabels (pattern.Seq all) = RegularsHaveLabels all
  RegularHasLabels (pattern.Alt all) = RegularsHaveLabels all
  RegularHasLabels (pattern.Repeat r post) = RegularHasLabels r
  RegularHasLabels (pattern.Capture name r) = RegularHasLabels r

  pub RegularsHaveLabels : {T : Type 0} → Regulars T → Type 0
  RegularsHaveLabels NoRegular = Unit {0}
  RegularsHaveLabels (ARegular first rest) = RegularHasLabels first × RegularsHaveLabels rest
