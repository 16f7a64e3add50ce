-- Patterns each of whose choices in a sequence has an alternative.
use Rattle.cd_matching.specs.Pattern as pattern
use Rattle.cd_matching.specs.Pattern.{Pattern, Patterns, NoPattern, APattern, Fields, NoField}
use Rattle.cd_matching.specs.Pattern.{Present, Optional, Regular, Regulars, NoRegular, ARegular}

abbrev pub HasAlternative : {T : Type 0} → Regulars T → Type 0
HasAlternative NoRegular = ⊥
HasAlternative (ARegular first rest) = Unit {0}

abbrev mutual
  pub HasAlternatives : {T : Type 0} → Pattern T → Type 0
  HasAlternatives (pattern.Pair p q) = HasAlternatives p × HasAlternatives q
  HasAlternatives (pattern.Xml p q r) = HasAlternatives p × HasAlternatives q × HasAlternatives r
  HasAlternatives (pattern.Record fields more) = FieldsHaveAlternatives fields
  HasAlternatives (pattern.Both all) = HaveAlternatives all
  HasAlternatives (pattern.First all) = HaveAlternatives all
  HasAlternatives (pattern.Sequence r) = RegularHasAlternatives r
  HasAlternatives p = Unit {0}

  pub HaveAlternatives : {T : Type 0} → Patterns T → Type 0
  HaveAlternatives NoPattern = Unit {0}
  HaveAlternatives (APattern first rest) = HasAlternatives first × HaveAlternatives rest

  pub FieldsHaveAlternatives : {T : Type 0} → Fields T → Type 0
  FieldsHaveAlternatives NoField = Unit {0}
  FieldsHaveAlternatives (Present label p rest) = HasAlternatives p × FieldsHaveAlternatives rest
  FieldsHaveAlternatives (Optional label type rest) = FieldsHaveAlternatives rest

  pub RegularHasAlternatives : {T : Type 0} → Regular T → Type 0
  RegularHasAlternatives pattern.Nothing = Unit {0}
  RegularHasAlternatives (pattern.Item p) = HasAlternatives p
  RegularHasAlternatives (pattern.Seq all) = RegularsHaveAlternatives all
  RegularHasAlternatives (pattern.Alt all) = HasAlternative all × RegularsHaveAlternatives all
  RegularHasAlternatives (pattern.Repeat r post) = RegularHasAlternatives r
  RegularHasAlternatives (pattern.Capture name r) = RegularHasAlternatives r

  pub RegularsHaveAlternatives : {T : Type 0} → Regulars T → Type 0
  RegularsHaveAlternatives NoRegular = Unit {0}
  RegularsHaveAlternatives (ARegular first rest) = RegularHasAlternatives first
      × RegularsHaveAlternatives rest
