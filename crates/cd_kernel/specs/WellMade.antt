-- Patterns that are well made: their types are such, and their constants are elements.
use Rattle.cd_model.specs.Thing.{IsElement}
use Rattle.cd_matching.specs.Pattern as pattern
use Rattle.cd_matching.specs.Pattern.{Pattern, Patterns, NoPattern, APattern, Fields, NoField}
use Rattle.cd_matching.specs.Pattern.{Present, Optional, Regular, Regulars, NoRegular, ARegular}
use Rattle.cd_matching.specs.Sequences.{thing_of}

module _ {T : Type 0} (IsType : T → Type 0) where
  abbrev mutual
    pub IsWellMade : Pattern T → Type 0
    IsWellMade (pattern.OfType type) = IsType type
    IsWellMade (pattern.Bind variable) = Unit {0}
    IsWellMade (pattern.Default variable constant) = IsElement (thing_of constant)
    IsWellMade (pattern.Pair p q) = IsWellMade p × IsWellMade q
    IsWellMade (pattern.Xml p q r) = IsWellMade p × IsWellMade q × IsWellMade r
    IsWellMade (pattern.Record fields more) = AreWellMadeFields fields
    IsWellMade (pattern.Both all) = AreWellMade all
    IsWellMade (pattern.First all) = AreWellMade all
    IsWellMade (pattern.Sequence r) = IsWellMadeRegular r

    pub AreWellMade : Patterns T → Type 0
    AreWellMade NoPattern = Unit {0}
    AreWellMade (APattern first rest) = IsWellMade first × AreWellMade rest

    pub AreWellMadeFields : Fields T → Type 0
    AreWellMadeFields NoField = Unit {0}
    AreWellMadeFields (Present label p rest) = IsWellMade p × AreWellMadeFields rest
    AreWellMadeFields (Optional label type rest) = IsType type × AreWellMadeFields rest

    pub IsWellMadeRegular : Regular T → Type 0
    IsWellMadeRegular pattern.Nothing = Unit {0}
    IsWellMadeRegular (pattern.Item p) = IsWellMade p
    IsWellMadeRegular (pattern.Seq all) = AreWellMadeRegulars all
    IsWellMadeRegular (pattern.Alt all) = AreWellMadeRegulars all
    IsWellMadeRegular (pattern.Repeat r post) = IsWellMadeRegular r
    IsWellMadeRegular (pattern.Capture variable r) = IsWellMadeRegular r

    pub AreWellMadeRegulars : Regulars T → Type 0
    AreWellMadeRegulars NoRegular = Unit {0}
    AreWellMadeRegulars (ARegular first rest) = IsWellMadeRegular first × AreWellMadeRegulars rest
