-- Patterns without a fault of their variables: the same variables on each side of a union, no
-- variable twice where both bind, and no plain variable in a repeat.
use Rattle.std.specs.Prelude.{◌≡◌, Bool, true, false, ◌||◌, List, [], ◌∷◌, bytes_eq}
use Rattle.std.specs.List.{list_any}
use Rattle.cd_syntax.specs.Name.{Name}
use Rattle.cd_matching.specs.Pattern as pattern
use Rattle.cd_matching.specs.Pattern.{Pattern, Patterns, NoPattern, APattern, Fields, NoField}
use Rattle.cd_matching.specs.Pattern.{Present, Optional, Regular, Regulars, NoRegular, ARegular}
use Rattle.cd_matching.specs.Variables.{binds, all_bind, fields_bind, is_gathered, is_plain}
use Rattle.cd_matching.specs.Variables.{one_is_plain, names_label}

abbrev pub AreDisjointNames : (one other : Name → Bool) → Type 0
AreDisjointNames one other = (name : Name) → one name ≡ true → other name ≡ false

abbrev pub AreSame : (one other : Name → Bool) → Type 0
AreSame one other = (name : Name) → one name ≡ other name

-- no variable gathers items inside of a part that it gathers
abbrev mutual
  pub GathersDisjoint : {T : Type 0} → List Name → Regular T → Type 0
  GathersDisjoint around pattern.Nothing = Unit {0}
  GathersDisjoint around (pattern.Item is) = Unit {0}
  GathersDisjoint around (pattern.Seq all) = GatherDisjoint around all
  GathersDisjoint around (pattern.Alt all) = GatherDisjoint around all
  GathersDisjoint around (pattern.Repeat is post) = GathersDisjoint around is
  GathersDisjoint around (pattern.Capture name is) = (list_any (bytes_eq name) around ≡ false)
      × GathersDisjoint (name ∷ around) is

  pub GatherDisjoint : {T : Type 0} → List Name → Regulars T → Type 0
  GatherDisjoint around NoRegular = Unit {0}
  GatherDisjoint around (ARegular first rest) = GathersDisjoint around first
      × GatherDisjoint around rest

-- no variable stands in two fields
abbrev pub FieldsDisjoint : {T : Type 0} → Fields T → Type 0
FieldsDisjoint NoField = Unit {0}
FieldsDisjoint (Present label is rest) = AreDisjointNames (binds is) (fields_bind rest)
    × FieldsDisjoint rest
FieldsDisjoint (Optional label type rest) = FieldsDisjoint rest

-- no label stands twice
abbrev pub LabelsDiffer : {T : Type 0} → Fields T → Type 0
LabelsDiffer NoField = Unit {0}
LabelsDiffer (Present label is rest) = (names_label rest label ≡ false) × LabelsDiffer rest
LabelsDiffer (Optional label type rest) = (names_label rest label ≡ false) × LabelsDiffer rest

abbrev mutual
  pub IsNamed : {T : Type 0} → Pattern T → Type 0
  IsNamed (pattern.OfType type) = Unit {0}
  IsNamed (pattern.Bind variable) = Unit {0}
  IsNamed (pattern.Default variable constant) = Unit {0}
  IsNamed (pattern.Pair first second) = AreDisjointNames (binds first) (binds second)
      × IsNamed first
      × IsNamed second
  IsNamed (pattern.Xml tag attributes content) =
      AreDisjointNames (binds tag) (λ name. binds attributes name || binds content name)
      × AreDisjointNames (binds attributes) (binds content) × IsNamed tag × IsNamed attributes
      × IsNamed content
  IsNamed (pattern.Record fields more) = LabelsDiffer fields × FieldsDisjoint fields
      × AreNamedFields fields
  IsNamed (pattern.Both all) = AreNamedDisjoint all
  IsNamed (pattern.First all) = AreNamedSame all
  IsNamed (pattern.Sequence r) = GathersDisjoint [] r
      × AreDisjointNames (is_gathered r) (is_plain r)
      × IsNamedRegular r

  pub AreNamedDisjoint : {T : Type 0} → Patterns T → Type 0
  AreNamedDisjoint NoPattern = Unit {0}
  AreNamedDisjoint (APattern first rest) = AreDisjointNames (binds first) (all_bind rest)
      × IsNamed first
      × AreNamedDisjoint rest

  -- each as the first one
  pub AreNamedSame : {T : Type 0} → Patterns T → Type 0
  AreNamedSame NoPattern = Unit {0}
  AreNamedSame (APattern first rest) = IsNamed first × AreNamedAs (binds first) rest

  pub AreNamedAs : {T : Type 0} → (Name → Bool) → Patterns T → Type 0
  AreNamedAs bound NoPattern = Unit {0}
  AreNamedAs bound (APattern first rest) = AreSame (binds first) bound × IsNamed first
      × AreNamedAs bound rest

  pub AreNamedFields : {T : Type 0} → Fields T → Type 0
  AreNamedFields NoField = Unit {0}
  AreNamedFields (Present label is rest) = IsNamed is × AreNamedFields rest
  AreNamedFields (Optional label type rest) = AreNamedFields rest

  pub IsNamedRegular : {T : Type 0} → Regular T → Type 0
  IsNamedRegular pattern.Nothing = Unit {0}
  IsNamedRegular (pattern.Item is) = IsNamed is
  IsNamedRegular (pattern.Seq all) = AreNamedInTurn all
  IsNamedRegular (pattern.Alt all) = AreNamedEither all
  IsNamedRegular (pattern.Repeat is post) = ((name : Name) → is_plain is name ≡ false)
      × IsNamedRegular is
  IsNamedRegular (pattern.Capture variable is) = IsNamedRegular is

  pub AreNamedInTurn : {T : Type 0} → Regulars T → Type 0
  AreNamedInTurn NoRegular = Unit {0}
  AreNamedInTurn (ARegular first rest) = AreDisjointNames (is_plain first) (one_is_plain rest)
      × IsNamedRegular first × AreNamedInTurn rest

  pub AreNamedEither : {T : Type 0} → Regulars T → Type 0
  AreNamedEither NoRegular = Unit {0}
  AreNamedEither (ARegular first rest) = IsNamedRegular first × AreNamedLike (is_plain first) rest

  pub AreNamedLike : {T : Type 0} → (Name → Bool) → Regulars T → Type 0
  AreNamedLike plain NoRegular = Unit {0}
  AreNamedLike plain (ARegular first rest) = AreSame (is_plain first) plain
      × IsNamedRegular first × AreNamedLike plain rest
