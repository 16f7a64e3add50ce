-- Patterns that are complete: they are well made, and each choice in a sequence has an alternative.
use Rattle.cd_model.specs.Thing.{IsElement}
use Rattle.cd_matching.specs.Pattern as pattern
use Rattle.cd_matching.specs.Pattern.{Pattern, Patterns, NoPattern, APattern, Fields, NoField}
use Rattle.cd_matching.specs.Pattern.{Present, Optional, Regular, Regulars, NoRegular, ARegular}
use Rattle.cd_matching.specs.Sequences.{thing_of}
use Rattle.cd_kernel.specs.Alternatives.{HasAlternative, HasAlternatives, HaveAlternatives}
use Rattle.cd_kernel.specs.Alternatives.{FieldsHaveAlternatives, RegularHasAlternatives}
use Rattle.cd_kernel.specs.Alternatives.{RegularsHaveAlternatives}
use Rattle.cd_kernel.specs.WellMade.{IsWellMade, AreWellMade, AreWellMadeFields}
use Rattle.cd_kernel.specs.WellMade.{IsWellMadeRegular, AreWellMadeRegulars}

module _ {T : Type 0} (IsType : T → Type 0) where
  abbrev mutual
    pub IsComplete : Pattern T → Type 0
    IsComplete (pattern.OfType type) = IsType type
    IsComplete (pattern.Bind variable) = Unit {0}
    IsComplete (pattern.Default variable constant) = IsElement (thing_of constant)
    IsComplete (pattern.Pair p q) = IsComplete p × IsComplete q
    IsComplete (pattern.Xml p q r) = IsComplete p × IsComplete q × IsComplete r
    IsComplete (pattern.Record fields more) = AreCompleteFields fields
    IsComplete (pattern.Both all) = AreComplete all
    IsComplete (pattern.First all) = AreComplete all
    IsComplete (pattern.Sequence r) = IsCompleteRegular r

    pub AreComplete : Patterns T → Type 0
    AreComplete NoPattern = Unit {0}
    AreComplete (APattern first rest) = IsComplete first × AreComplete rest

    pub AreCompleteFields : Fields T → Type 0
    AreCompleteFields NoField = Unit {0}
    AreCompleteFields (Present label p rest) = IsComplete p × AreCompleteFields rest
    AreCompleteFields (Optional label type rest) = IsType type × AreCompleteFields rest

    pub IsCompleteRegular : Regular T → Type 0
    IsCompleteRegular pattern.Nothing = Unit {0}
    IsCompleteRegular (pattern.Item p) = IsComplete p
    IsCompleteRegular (pattern.Seq all) = AreCompleteRegulars all
    IsCompleteRegular (pattern.Alt all) = HasAlternative all × AreCompleteRegulars all
    IsCompleteRegular (pattern.Repeat r post) = IsCompleteRegular r
    IsCompleteRegular (pattern.Capture variable r) = IsCompleteRegular r

    pub AreCompleteRegulars : Regulars T → Type 0
    AreCompleteRegulars NoRegular = Unit {0}
    AreCompleteRegulars (ARegular first rest) = IsCompleteRegular first × AreCompleteRegulars rest

  -- a pattern that is well made and has alternatives
  mutual
    pub complete : (p : Pattern T) → IsWellMade IsType p → HasAlternatives p → IsComplete p
    complete (pattern.OfType type) well others = well
    complete (pattern.Bind variable) well others = tt
    complete (pattern.Default variable constant) well others = well
    complete (pattern.Pair p q) well others =
        (complete p well.0 others.0, complete q well.1 others.1)
    complete (pattern.Xml p q r) well others =
        (complete p well.0 others.0, complete q well.1 others.1, complete r well.2 others.2)
    complete (pattern.Record fields more) well others = all_fields fields well others
    complete (pattern.Both all) well others = all_complete all well others
    complete (pattern.First all) well others = all_complete all well others
    complete (pattern.Sequence r) well others = regular_complete r well others

    all_complete : (all : Patterns T) → AreWellMade IsType all → HaveAlternatives all
        → AreComplete all
    all_complete NoPattern well others = tt
    all_complete (APattern first rest) well others =
        (complete first well.0 others.0, all_complete rest well.1 others.1)

    all_fields : (fields : Fields T) → AreWellMadeFields IsType fields
        → FieldsHaveAlternatives fields → AreCompleteFields fields
    all_fields NoField well others = tt
    all_fields (Present label p rest) well others =
        (complete p well.0 others.0, all_fields rest well.1 others.1)
    all_fields (Optional label type rest) well others = (well.0, all_fields rest well.1 others)

    regular_complete : (r : Regular T) → IsWellMadeRegular IsType r → RegularHasAlternatives r
        → IsCompleteRegular r
    regular_complete pattern.Nothing well others = tt
    regular_complete (pattern.Item p) well others = complete p well others
    regular_complete (pattern.Seq all) well others = all_regulars all well others
    regular_complete (pattern.Alt all) well others = (others.0, all_regulars all well others.1)
    regular_complete (pattern.Repeat r post) well others = regular_complete r well others
    regular_complete (pattern.Capture variable r) well others = regular_complete r well others

    all_regulars : (all : Regulars T) → AreWellMadeRegulars IsType all
        → RegularsHaveAlternatives all → AreCompleteRegulars all
    all_regulars NoRegular well others = tt
    all_regulars (ARegular first rest) well others =
        (regular_complete first well.0 others.0, all_regulars rest well.1 others.1)
