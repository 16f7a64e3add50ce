-- Patterns that are the same but for their types, each of which is as the other's at its place.
use Rattle.std.specs.Prelude.{◌≡◌}
use Rattle.cd_matching.specs.Pattern as pattern
use Rattle.cd_matching.specs.Pattern.{Pattern, Patterns, NoPattern, APattern, Fields, NoField}
use Rattle.cd_matching.specs.Pattern.{Present, Optional, Regular, Regulars, NoRegular, ARegular}

abbrev mutual
  pub Alike : {T U : Type 0} → (T → U → Type 0) → Pattern T → Pattern U → Type 0
  Alike Are (pattern.OfType type) (pattern.OfType other) = Are type other
  Alike Are (pattern.Bind variable) (pattern.Bind other) = variable ≡ other
  Alike Are (pattern.Default variable constant) (pattern.Default other same) =
      (variable ≡ other) × (constant ≡ same)
  Alike Are (pattern.Pair first second) (pattern.Pair one other) =
      Alike Are first one × Alike Are second other
  Alike Are (pattern.Xml tag attributes content) (pattern.Xml one other last) =
      Alike Are tag one × Alike Are attributes other × Alike Are content last
  Alike Are (pattern.Record fields more) (pattern.Record others same) =
      AlikeFields Are fields others × (more ≡ same)
  Alike Are (pattern.Both all) (pattern.Both others) = AlikeAll Are all others
  Alike Are (pattern.First all) (pattern.First others) = AlikeAll Are all others
  Alike Are (pattern.Sequence regular) (pattern.Sequence other) = AlikeRegular Are regular other
  Alike Are _ _ = ⊥

  pub AlikeAll : {T U : Type 0} → (T → U → Type 0) → Patterns T → Patterns U → Type 0
  AlikeAll Are NoPattern NoPattern = Unit {0}
  AlikeAll Are (APattern first rest) (APattern one others) =
      Alike Are first one × AlikeAll Are rest others
  AlikeAll Are _ _ = ⊥

  pub AlikeFields : {T U : Type 0} → (T → U → Type 0) → Fields T → Fields U → Type 0
  AlikeFields Are NoField NoField = Unit {0}
  AlikeFields Are (Present label is rest) (Present name one others) =
      (label ≡ name) × Alike Are is one × AlikeFields Are rest others
  AlikeFields Are (Optional label type rest) (Optional name other others) =
      (label ≡ name) × Are type other × AlikeFields Are rest others
  AlikeFields Are _ _ = ⊥

  pub AlikeRegular : {T U : Type 0} → (T → U → Type 0) → Regular T → Regular U → Type 0
  AlikeRegular Are pattern.Nothing pattern.Nothing = Unit {0}
  AlikeRegular Are (pattern.Item is) (pattern.Item other) = Alike Are is other
  AlikeRegular Are (pattern.Seq all) (pattern.Seq others) = AlikeRegulars Are all others
  AlikeRegular Are (pattern.Alt all) (pattern.Alt others) = AlikeRegulars Are all others
  AlikeRegular Are (pattern.Repeat is post) (pattern.Repeat other same) =
      AlikeRegular Are is other × (post ≡ same)
  AlikeRegular Are (pattern.Capture name is) (pattern.Capture same other) =
      (name ≡ same) × AlikeRegular Are is other
  AlikeRegular Are _ _ = ⊥

  pub AlikeRegulars : {T U : Type 0} → (T → U → Type 0) → Regulars T → Regulars U
      → Type 0
  AlikeRegulars Are NoRegular NoRegular = Unit {0}
  AlikeRegulars Are (ARegular first rest) (ARegular one others) =
      AlikeRegular Are first one × AlikeRegulars Are rest others
  AlikeRegulars Are _ _ = ⊥
