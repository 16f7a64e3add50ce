-- A fact of each constant in a pattern.
use Rattle.cd_syntax.specs.declared.constant.Constant.{Constant}
use Rattle.cd_model.specs.Thing.{IsValue}
use Rattle.cd_matching.specs.Pattern as pattern
use Rattle.cd_matching.specs.Pattern.{Pattern, Patterns, NoPattern, APattern, Fields, NoField}
use Rattle.cd_matching.specs.Pattern.{Present, Optional, Regular, Regulars, NoRegular, ARegular}
use Rattle.cd_matching.specs.Sequences.{thing_of}

abbrev mutual
  pub EachConstant : {T : Type 0} → (Constant → Type 0) → Pattern T → Type 0
  EachConstant Fact (pattern.OfType type) = Unit {0}
  EachConstant Fact (pattern.Bind variable) = Unit {0}
  EachConstant Fact (pattern.Default variable constant) = Fact constant
  EachConstant Fact (pattern.Pair first second) = EachConstant Fact first × EachConstant Fact second
  EachConstant Fact (pattern.Xml tag attributes content) =
      EachConstant Fact tag × EachConstant Fact attributes × EachConstant Fact content
  EachConstant Fact (pattern.Record fields more) = EachOfFields Fact fields
  EachConstant Fact (pattern.Both all) = EachOfAll Fact all
  EachConstant Fact (pattern.First all) = EachOfAll Fact all
  EachConstant Fact (pattern.Sequence r) = EachOfRegular Fact r

  pub EachOfAll : {T : Type 0} → (Constant → Type 0) → Patterns T → Type 0
  EachOfAll Fact NoPattern = Unit {0}
  EachOfAll Fact (APattern first rest) = EachConstant Fact first × EachOfAll Fact rest

  pub EachOfFields : {T : Type 0} → (Constant → Type 0) → Fields T → Type 0
  EachOfFields Fact NoField = Unit {0}
  EachOfFields Fact (Present label first rest) = EachConstant Fact first × EachOfFields Fact rest
  EachOfFields Fact (Optional label type rest) = EachOfFields Fact rest

  pub EachOfRegular : {T : Type 0} → (Constant → Type 0) → Regular T → Type 0
  EachOfRegular Fact pattern.Nothing = Unit {0}
  EachOfRegular Fact (pattern.Item is) = EachConstant Fact is
  EachOfRegular Fact (pattern.Seq all) = EachOfRegulars Fact all
  EachOfRegular Fact (pattern.Alt all) = EachOfRegulars Fact all
  EachOfRegular Fact (pattern.Repeat is post) = EachOfRegular Fact is
  EachOfRegular Fact (pattern.Capture name is) = EachOfRegular Fact is

  pub EachOfRegulars : {T : Type 0} → (Constant → Type 0) → Regulars T → Type 0
  EachOfRegulars Fact NoRegular = Unit {0}
  EachOfRegulars Fact (ARegular first rest) = EachOfRegular Fact first × EachOfRegulars Fact rest

-- a constant is a value
abbrev pub IsSoundConstant : Constant → Type 0
IsSoundConstant constant = IsValue (thing_of constant)
