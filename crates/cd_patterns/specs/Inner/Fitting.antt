-- Patterns whose constants fit: each is an element, where an atom is a label.
use Rattle.cd_syntax.specs.declared.constant.Constant.{Constant}
use Rattle.cd_syntax.specs.declared.constant.Constant.TheVariants as constant
use Rattle.cd_model.specs.Thing.{IsElement}
use Rattle.cd_matching.specs.Pattern as pattern
use Rattle.cd_matching.specs.Pattern.{Pattern, Patterns, NoPattern, APattern, Fields, NoField}
use Rattle.cd_matching.specs.Pattern.{Present, Optional, Regular, Regulars, NoRegular, ARegular}
use Rattle.cd_matching.specs.Sequences.{thing_of}

abbrev pub Fits : Constant → Type 0
Fits (constant.Atom name) = Unit {0}
Fits other = IsElement (thing_of other)

abbrev mutual
  pub ConstantsFit : {T : Type 0} → Pattern T → Type 0
  ConstantsFit (pattern.Default name constant) = Fits constant
  ConstantsFit (pattern.Pair p q) = ConstantsFit p × ConstantsFit q
  ConstantsFit (pattern.Xml p q r) = ConstantsFit p × ConstantsFit q × ConstantsFit r
  ConstantsFit (pattern.Record fields more) = ConstantsOfFieldsFit fields
  ConstantsFit (pattern.Both all) = ConstantsOfAllFit all
  ConstantsFit (pattern.First all) = ConstantsOfAllFit all
  ConstantsFit (pattern.Sequence r) = ConstantsOfItemsFit r
  ConstantsFit p = Unit {0}

  pub ConstantsOfAllFit : {T : Type 0} → Patterns T → Type 0
  ConstantsOfAllFit NoPattern = Unit {0}
  ConstantsOfAllFit (APattern first rest) = ConstantsFit first × ConstantsOfAllFit rest

  pub ConstantsOfFieldsFit : {T : Type 0} → Fields T → Type 0
  ConstantsOfFieldsFit NoField = Unit {0}
  ConstantsOfFieldsFit (Present label p rest) = ConstantsFit p × ConstantsOfFieldsFit rest
  ConstantsOfFieldsFit (Optional label type rest) = ConstantsOfFieldsFit rest

  pub ConstantsOfItemsFit : {T : Type 0} → Regular T → Type 0
  ConstantsOfItemsFit pattern.Nothing = Unit {0}
  ConstantsOfItemsFit (pattern.Item p) = ConstantsFit p
  ConstantsOfItemsFit (pattern.Seq all) = ConstantsOfPartsFit all
  ConstantsOfItemsFit (pattern.Alt all) = ConstantsOfPartsFit all
  ConstantsOfItemsFit (pattern.Repeat r post) = ConstantsOfItemsFit r
  ConstantsOfItemsFit (pattern.Capture name r) = ConstantsOfItemsFit r

  pub ConstantsOfPartsFit : {T : Type 0} → Regulars T → Type 0
  ConstantsOfPartsFit NoRegular = Unit {0}
  ConstantsOfPartsFit (ARegular first rest) = ConstantsOfItemsFit first
      × ConstantsOfPartsFit rest
