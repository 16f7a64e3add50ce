-- Patterns that are alike have the same variables and the same labels.
use Rattle.std.proofs.Common.{◌≡◌, Bool, ◌||◌, refl, ap, ap₂, bytes_eq}
use Rattle.cd_syntax.specs.Name.{Name}
use Rattle.cd_matching.specs.Naming.{AreSame}
use Rattle.cd_matching.specs.Pattern as pattern
use Rattle.cd_matching.specs.Pattern.{Pattern, Patterns, NoPattern, APattern, Fields, NoField}
use Rattle.cd_matching.specs.Pattern.{Present, Optional, Regular, Regulars, NoRegular, ARegular}
use Rattle.cd_matching.specs.PatternsAlike.{Alike, AlikeAll, AlikeFields, AlikeRegular}
use Rattle.cd_matching.specs.PatternsAlike.{AlikeRegulars}
use Rattle.cd_matching.specs.Variables.{binds, all_bind, fields_bind, regular_binds, regulars_bind}
use Rattle.cd_matching.specs.Variables.{is_gathered, one_is_gathered, is_plain, one_is_plain}
use Rattle.cd_matching.specs.Variables.{names_label}

pub either_of : (a b c d : Bool) → a ≡ b → c ≡ d → (a || c) ≡ (b || d)
either_of a b c d one other = ap₂ (λ (p q : Bool). p || q) one other

module _ {T U : Type 0} (Are : T → U → Type 0) where
  mutual
    pub bind_alike : (is : Pattern T) (other : Pattern U) → Alike Are is other
        → AreSame (binds is) (binds other)
    bind_alike (pattern.OfType a) (pattern.OfType b) h = λ name. refl
    bind_alike (pattern.Bind a) (pattern.Bind b) h = λ name. ap (λ (n : Name). bytes_eq n name) h
    bind_alike (pattern.Default a c) (pattern.Default b d) h =
        λ name. ap (λ (n : Name). bytes_eq n name) h.0
    bind_alike (pattern.Pair a b) (pattern.Pair c d) h = λ name.
        either_of (binds a name) (binds c name) (binds b name) (binds d name)
        (bind_alike a c h.0 name) (bind_alike b d h.1 name)
    bind_alike (pattern.Xml a b c) (pattern.Xml d e f) h = λ name.
        either_of (binds a name) (binds d name) (binds b name || binds c name)
        (binds e name || binds f name) (bind_alike a d h.0 name)
        (either_of (binds b name) (binds e name) (binds c name) (binds f name) (bind_alike b e h.1
        name) (bind_alike c f h.2 name))
    bind_alike (pattern.Record a more) (pattern.Record b same) h = fields_alike a b h.0
    bind_alike (pattern.Both a) (pattern.Both b) h = all_alike a b h
    bind_alike (pattern.First a) (pattern.First b) h = all_alike a b h
    bind_alike (pattern.Sequence a) (pattern.Sequence b) h = regular_alike a b h
    bind_alike _ _ h = absurd h

    pub all_alike : (is : Patterns T) (other : Patterns U) → AlikeAll Are is other
        → AreSame (all_bind is) (all_bind other)
    all_alike NoPattern NoPattern h = λ name. refl
    all_alike (APattern a b) (APattern c d) h = λ name.
        either_of (binds a name) (binds c name) (all_bind b name) (all_bind d name)
        (bind_alike a c h.0 name) (all_alike b d h.1 name)
    all_alike _ _ h = absurd h

    pub fields_alike : (is : Fields T) (other : Fields U) → AlikeFields Are is other
        → AreSame (fields_bind is) (fields_bind other)
    fields_alike NoField NoField h = λ name. refl
    fields_alike (Present l a b) (Present m c d) h = λ name.
        either_of (binds a name) (binds c name) (fields_bind b name) (fields_bind d name)
        (bind_alike a c h.1 name) (fields_alike b d h.2 name)
    fields_alike (Optional l a b) (Optional m c d) h = fields_alike b d h.2
    fields_alike _ _ h = absurd h

    regular_alike : (is : Regular T) (other : Regular U) → AlikeRegular Are is other
        → AreSame (regular_binds is) (regular_binds other)
    regular_alike pattern.Nothing pattern.Nothing h = λ name. refl
    regular_alike (pattern.Item a) (pattern.Item b) h = bind_alike a b h
    regular_alike (pattern.Seq a) (pattern.Seq b) h = regulars_alike a b h
    regular_alike (pattern.Alt a) (pattern.Alt b) h = regulars_alike a b h
    regular_alike (pattern.Repeat a p) (pattern.Repeat b q) h = regular_alike a b h.0
    regular_alike (pattern.Capture n a) (pattern.Capture m b) h = λ name.
        either_of (bytes_eq n name) (bytes_eq m name) (regular_binds a name) (regular_binds b name)
        (ap (λ (k : Name). bytes_eq k name) h.0) (regular_alike a b h.1 name)
    regular_alike _ _ h = absurd h

    regulars_alike : (is : Regulars T) (other : Regulars U) → AlikeRegulars Are is other
        → AreSame (regulars_bind is) (regulars_bind other)
    regulars_alike NoRegular NoRegular h = λ name. refl
    regulars_alike (ARegular a b) (ARegular c d) h = λ name.
        either_of (regular_binds a name) (regular_binds c name) (regulars_bind b name)
        (regulars_bind d name) (regular_alike a c h.0 name) (regulars_alike b d h.1 name)
    regulars_alike _ _ h = absurd h

  mutual
    pub gathered_alike : (is : Regular T) (other : Regular U) → AlikeRegular Are is other
        → AreSame (is_gathered is) (is_gathered other)
    gathered_alike pattern.Nothing pattern.Nothing h = λ name. refl
    gathered_alike (pattern.Item a) (pattern.Item b) h = λ name. refl
    gathered_alike (pattern.Seq a) (pattern.Seq b) h = gathers_alike a b h
    gathered_alike (pattern.Alt a) (pattern.Alt b) h = gathers_alike a b h
    gathered_alike (pattern.Repeat a p) (pattern.Repeat b q) h = gathered_alike a b h.0
    gathered_alike (pattern.Capture n a) (pattern.Capture m b) h = λ name.
        either_of (bytes_eq n name) (bytes_eq m name) (is_gathered a name) (is_gathered b name)
        (ap (λ (k : Name). bytes_eq k name) h.0) (gathered_alike a b h.1 name)
    gathered_alike _ _ h = absurd h

    gathers_alike : (is : Regulars T) (other : Regulars U) → AlikeRegulars Are is other
        → AreSame (one_is_gathered is) (one_is_gathered other)
    gathers_alike NoRegular NoRegular h = λ name. refl
    gathers_alike (ARegular a b) (ARegular c d) h = λ name.
        either_of (is_gathered a name) (is_gathered c name) (one_is_gathered b name)
        (one_is_gathered d name) (gathered_alike a c h.0 name) (gathers_alike b d h.1 name)
    gathers_alike _ _ h = absurd h

  mutual
    pub plain_alike : (is : Regular T) (other : Regular U) → AlikeRegular Are is other
        → AreSame (is_plain is) (is_plain other)
    plain_alike pattern.Nothing pattern.Nothing h = λ name. refl
    plain_alike (pattern.Item a) (pattern.Item b) h = bind_alike a b h
    plain_alike (pattern.Seq a) (pattern.Seq b) h = plains_alike a b h
    plain_alike (pattern.Alt a) (pattern.Alt b) h = plains_alike a b h
    plain_alike (pattern.Repeat a p) (pattern.Repeat b q) h = plain_alike a b h.0
    plain_alike (pattern.Capture n a) (pattern.Capture m b) h = plain_alike a b h.1
    plain_alike _ _ h = absurd h

    pub plains_alike : (is : Regulars T) (other : Regulars U) → AlikeRegulars Are is other
        → AreSame (one_is_plain is) (one_is_plain other)
    plains_alike NoRegular NoRegular h = λ name. refl
    plains_alike (ARegular a b) (ARegular c d) h = λ name.
        either_of (is_plain a name) (is_plain c name) (one_is_plain b name) (one_is_plain d name)
        (plain_alike a c h.0 name) (plains_alike b d h.1 name)
    plains_alike _ _ h = absurd h

  pub labels_alike : (is : Fields T) (other : Fields U) → AlikeFields Are is other → (label : Name)
      → names_label is label ≡ names_label other label
  labels_alike NoField NoField h label = refl
  labels_alike (Present l a b) (Present m c d) h label =
      either_of (bytes_eq l label) (bytes_eq m label) (names_label b label) (names_label d label)
      (ap (λ (k : Name). bytes_eq k label) h.0) (labels_alike b d h.2 label)
  labels_alike (Optional l a b) (Optional m c d) h label =
      either_of (bytes_eq l label) (bytes_eq m label) (names_label b label) (names_label d label)
      (ap (λ (k : Name). bytes_eq k label) h.0) (labels_alike b d h.2 label)
  labels_alike _ _ h label = absurd h
