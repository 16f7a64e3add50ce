-- What making a kernel asks of a pattern. It follows where no variable is at fault and labels are
-- labels.
use Rattle.std.proofs.Common.{Bool, []}
use Rattle.cd_sets.specs.declared.node_id.NodeId.{NodeId}
use Rattle.cd_syntax.specs.Name.{Name, IsLabel}
use Rattle.cd_kernel.specs.Labelled.{HasLabels, HaveLabels, FieldsHaveLabels, RegularHasLabels}
use Rattle.cd_kernel.specs.Labelled.{RegularsHaveLabels}
use Rattle.cd_matching.specs.Naming.{AreDisjointNames, GathersDisjoint, FieldsDisjoint, LabelsDiffer, IsNamed}
use Rattle.cd_matching.specs.Naming.{AreNamedDisjoint, AreNamedSame, AreNamedAs, AreNamedFields}
use Rattle.cd_matching.specs.Naming.{IsNamedRegular, AreNamedInTurn, AreNamedEither, AreNamedLike}
use Rattle.cd_matching.specs.Pattern as pattern
use Rattle.cd_matching.specs.Pattern.{Pattern, Patterns, NoPattern, APattern, Fields, NoField}
use Rattle.cd_matching.specs.Pattern.{Present, Optional, Regular, Regulars, NoRegular, ARegular}
use Rattle.cd_matching.specs.Variables.{binds, is_gathered, is_plain}

abbrev mutual
  pub IsGood : Pattern NodeId → Type 0
  IsGood (pattern.Pair p q) = IsGood p × IsGood q
  IsGood (pattern.Xml p q r) = IsGood p × IsGood q × IsGood r
  IsGood (pattern.Record fields more) = LabelsDiffer fields × FieldsDisjoint fields
      × AreGoodFields fields
  IsGood (pattern.Both all) = AreGood all
  IsGood (pattern.First all) = AreGood all
  IsGood (pattern.Sequence r) = GathersDisjoint [] r × AreDisjointNames (is_gathered r) (is_plain r)
      × IsGoodRegular r
  IsGood p = Unit {0}

  pub AreGood : Patterns NodeId → Type 0
  AreGood NoPattern = Unit {0}
  AreGood (APattern first rest) = IsGood first × AreGood rest

  pub AreGoodFields : Fields NodeId → Type 0
  AreGoodFields NoField = Unit {0}
  AreGoodFields (Present label p rest) = IsLabel label × IsGood p × AreGoodFields rest
  AreGoodFields (Optional label type rest) = IsLabel label × AreGoodFields rest

  pub IsGoodRegular : Regular NodeId → Type 0
  IsGoodRegular pattern.Nothing = Unit {0}
  IsGoodRegular (pattern.Item p) = IsGood p
  IsGoodRegular (pattern.Seq all) = AreGoodRegulars all
  IsGoodRegular (pattern.Alt all) = AreGoodRegulars all
  IsGoodRegular (pattern.Repeat r post) = IsGoodRegular r
  IsGoodRegular (pattern.Capture name r) = IsGoodRegular r

  pub AreGoodRegulars : Regulars NodeId → Type 0
  AreGoodRegulars NoRegular = Unit {0}
  AreGoodRegulars (ARegular first rest) = IsGoodRegular first × AreGoodRegulars rest

mutual
  pub good : (p : Pattern NodeId) → IsNamed p → HasLabels p → IsGood p
  good (pattern.OfType type) named labels = tt
  good (pattern.Bind name) named labels = tt
  good (pattern.Default name constant) named labels = tt
  good (pattern.Pair p q) named labels = (good p named.1 labels.0, good q named.2 labels.1)
  good (pattern.Xml p q r) named labels =
      (good p named.2 labels.0, good q named.3 labels.1, good r named.4 labels.2)
  good (pattern.Record fields more) named labels =
      (named.0, named.1, good_fields fields named.2 labels)
  good (pattern.Both all) named labels = good_disjoint all named labels
  good (pattern.First all) named labels = good_same all named labels
  good (pattern.Sequence r) named labels = (named.0, named.1, good_regular r named.2 labels)

  good_disjoint : (all : Patterns NodeId) → AreNamedDisjoint all → HaveLabels all → AreGood all
  good_disjoint NoPattern named labels = tt
  good_disjoint (APattern first rest) named labels =
      (good first named.1 labels.0, good_disjoint rest named.2 labels.1)

  good_same : (all : Patterns NodeId) → AreNamedSame all → HaveLabels all → AreGood all
  good_same NoPattern named labels = tt
  good_same (APattern first rest) named labels =
      (good first named.0 labels.0, good_as rest (binds first) named.1 labels.1)

  good_as : (all : Patterns NodeId) (bound : Name → Bool) → AreNamedAs bound all → HaveLabels all
      → AreGood all
  good_as NoPattern bound named labels = tt
  good_as (APattern first rest) bound named labels =
      (good first named.1 labels.0, good_as rest bound named.2 labels.1)

  good_fields : (fields : Fields NodeId) → AreNamedFields fields → FieldsHaveLabels fields
      → AreGoodFields fields
  good_fields NoField named labels = tt
  good_fields (Present label p rest) named labels =
      (labels.0, good p named.0 labels.1, good_fields rest named.1 labels.2)
  good_fields (Optional label type rest) named labels =
      (labels.0, good_fields rest named labels.1)

  good_regular : (r : Regular NodeId) → IsNamedRegular r → RegularHasLabels r → IsGoodRegular r
  good_regular pattern.Nothing named labels = tt
  good_regular (pattern.Item p) named labels = good p named labels
  good_regular (pattern.Seq all) named labels = good_in_turn all named labels
  good_regular (pattern.Alt all) named labels = good_either all named labels
  good_regular (pattern.Repeat r post) named labels = good_regular r named.1 labels
  good_regular (pattern.Capture name r) named labels = good_regular r named labels

  good_in_turn : (all : Regulars NodeId) → AreNamedInTurn all → RegularsHaveLabels all
      → AreGoodRegulars all
  good_in_turn NoRegular named labels = tt
  good_in_turn (ARegular first rest) named labels =
      (good_regular first named.1 labels.0, good_in_turn rest named.2 labels.1)

  good_either : (all : Regulars NodeId) → AreNamedEither all → RegularsHaveLabels all
      → AreGoodRegulars all
  good_either NoRegular named labels = tt
  good_either (ARegular first rest) named labels =
      (good_regular first named.0 labels.0, good_like rest (is_plain first) named.1 labels.1)

  good_like : (all : Regulars NodeId) (plain : Name → Bool) → AreNamedLike plain all
      → RegularsHaveLabels all → AreGoodRegulars all
  good_like NoRegular plain named labels = tt
  good_like (ARegular first rest) plain named labels =
      (good_regular first named.1 labels.0, good_like rest plain named.2 labels.1)
