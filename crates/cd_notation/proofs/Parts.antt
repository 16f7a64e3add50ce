-- The labels and the values of a form as parts.
use Rattle.std.proofs.Common.{◌≡◌, ◌∙◌, ap, subst, sym, refl, true≢false, arith, ℕ, zero, suc, ◌<◌, ◌==◌, Bool, true, false, ◌||◌, List, [], ◌∷◌, ◌++◌, length, map, reverse}
use Rattle.std.proofs.lemmas.List.{reverse-append, reverse-reverse, map-append}
use Rattle.std.specs.Prelude.{bytes_eq}
use Rattle.std.proofs.lemmas.Slice.Eq.{bytes_eq-Decides}
use Rattle.std.proofs.lemmas.Bool.Decides.{Decides-eqb, same_from_decides}
use Rattle.cd_syntax.specs.Name.{Name, IsLabel}
use Rattle.cd_model.specs.AllOf.{AllOf}
use Rattle.cd_model.specs.Thing.{Thing, Fields, NoField}
use Rattle.cd_documents.specs.Document.{is_among, with_field}
use Rattle.cd_documents.specs.Machine.{with_fields}
use Rattle.cd_cells.specs.declared.cell.Part.{Part}
use Rattle.cd_cells.specs.declared.cell.ValueId.{ValueId}
use Rattle.cd_cells.specs.Cells.{thing_at, name_at, IsPart, HasEachOnce}
use Rattle.cd_notation.specs.Open.{is_label_of, names_of, values_of, fields_read, LabelsDiffer}
use Rattle.cd_notation.specs.Inner.Open as the
use Rattle.cd_notation.specs.Inner.Open.{AreAt, IsLabelAt, AreLabelsAt, AreDistinct}
use Rattle.cd_notation.specs.Inner.Leading.{parts_of}

or_left : (b c : Bool) → (b || c) ≡ false → b ≡ false
or_left false c is = refl
or_left true c is = is

or_right : (b c : Bool) → (b || c) ≡ false → c ≡ false
or_right false c is = is
or_right true c is = absurd (true≢false is)

module _ (names : List Name) (table : List Thing) where
  pub are_parts : (numbers : List ℕ) (ids : List ValueId) (labels : List Name) (values : List Thing) → AreLabelsAt names numbers labels → AreAt table ids values
      → AllOf (IsPart names (length table)) (parts_of numbers ids)
  are_parts _ ids _ values the.AreLabelsAt.none at = tt
  are_parts _ _ _ _ (the.AreLabelsAt.one number label numbers labels is are) the.AreAt.none = tt
  are_parts _ _ _ _ (the.AreLabelsAt.one number label numbers labels is are) (the.AreAt.one id value ids values at others) =
      ((subst IsLabel (sym is.is) is.sound, at.within), are_parts numbers ids labels values are others)

  pub same_fields : (numbers : List ℕ) (ids : List ValueId) (labels : List Name) (values : List Thing) (rest : Fields) → AreLabelsAt names numbers labels → AreAt table ids values
      → with_fields (names_of names (parts_of numbers ids)) (values_of table (parts_of numbers ids)) rest ≡ with_fields labels values rest
  same_fields _ ids _ values rest the.AreLabelsAt.none at = refl
  same_fields _ _ _ _ rest (the.AreLabelsAt.one number label numbers labels is are) the.AreAt.none = refl
  same_fields _ _ _ _ rest (the.AreLabelsAt.one number label numbers labels is are) (the.AreAt.one id value ids values at others) =
      same_fields numbers ids labels values (with_field (name_at names number) (thing_at table id.0) rest) are others
      ∙ cc (is.is, at.is)

  -- labels that differ have different numbers
  not_label : (number : ℕ) (label : Name) (numbers : List ℕ) (ids : List ValueId) (labels : List Name) → IsLabelAt names number label → AreLabelsAt names numbers labels
      → is_among label labels ≡ false → is_label_of number (map (λ (part : Part). part.label) (parts_of numbers ids)) ≡ false
  not_label number label _ ids _ is the.AreLabelsAt.none apart = refl
  not_label number label _ [] _ is (the.AreLabelsAt.one other one numbers labels at are) apart = refl
  not_label number label _ (id ∷ ids) _ is (the.AreLabelsAt.one other one numbers labels at are) apart =
      by (number == other) refl (not_label number label numbers ids labels is are (or_right (bytes_eq label one) (is_among label labels) apart))
    where
      by : (b : Bool) → (number == other) ≡ b → is_label_of number (map (λ (part : Part). part.label) (parts_of numbers ids)) ≡ false
          → (number == other || is_label_of number (map (λ (part : Part). part.label) (parts_of numbers ids))) ≡ false
      by false same rest = ap (λ b. b || is_label_of number (map (λ (part : Part). part.label) (parts_of numbers ids))) same ∙ rest
      by true same rest =
          let numbers_same : number ≡ other = (Decides-eqb number other).0 same in
          let labels_same : label ≡ one = sym is.is ∙ ap (name_at names) numbers_same ∙ at.is in
          absurd (true≢false (sym ((bytes_eq-Decides label one).1 labels_same) ∙ or_left (bytes_eq label one) (is_among label labels) apart))

  pub labels_differ : (numbers : List ℕ) (ids : List ValueId) (labels : List Name) → AreLabelsAt names numbers labels → AreDistinct labels → LabelsDiffer (parts_of numbers ids)
  labels_differ _ ids _ the.AreLabelsAt.none apart = tt
  labels_differ _ [] _ (the.AreLabelsAt.one number label numbers labels is are) apart = tt
  labels_differ _ (id ∷ ids) _ (the.AreLabelsAt.one number label numbers labels is are) apart =
      (not_label number label numbers ids labels is are apart.0, labels_differ numbers ids labels are apart.1)

  label_within : (all : List Name) (number : ℕ) → IsLabel (name_at all number) → number < length all
  label_within [] zero is = absurd (true≢false (sym is.0))
  label_within [] (suc number) is = absurd (true≢false (sym is.0))
  label_within (name ∷ all) zero is = omega arith
  label_within (name ∷ all) (suc number) is = omega (arith, label_within all number is)

  -- the number of a label is one of these where the label is
  pub same_test : HasEachOnce names → (number : ℕ) (label : Name) (numbers : List ℕ) (labels : List Name) → IsLabelAt names number label → AreLabelsAt names numbers labels
      → is_label_of number numbers ≡ is_among label labels
  same_test once number label _ _ is the.AreLabelsAt.none = refl
  same_test once number label _ _ is (the.AreLabelsAt.one other one numbers labels at are) =
      let within : number < length names = label_within names number (subst IsLabel (sym is.is) is.sound) in
      let other_within : other < length names = label_within names other (subst IsLabel (sym at.is) at.sound) in
      let same : (number == other) ≡ bytes_eq label one =
      same_from_decides (number == other) (bytes_eq label one) (Decides-eqb number other) (
        λ is_one. once number other within other_within (is.is ∙ (bytes_eq-Decides label one).0 is_one ∙ sym at.is),
        λ is_other. (bytes_eq-Decides label one).1 (sym is.is ∙ ap (name_at names) is_other ∙ at.is),
      ) in
      cc (same, same_test once number label numbers labels is are)

-- parts in their other order
any_parts : (number : ℕ) (first second : List Part) → is_label_of number (map (λ (part : Part). part.label) (first ++ second))
    ≡ (is_label_of number (map (λ (part : Part). part.label) first) || is_label_of number (map (λ (part : Part). part.label) second))
any_parts number [] second = refl
any_parts number (part ∷ first) second =
    ap (λ (b : Bool). number == part.label || b) (any_parts number first second)
    ∙ or_assoc (number == part.label) (is_label_of number (map (λ (part : Part). part.label) first)) (is_label_of number (map (λ (part : Part). part.label) second))
  where
    or_assoc : (a b c : Bool) → (a || (b || c)) ≡ ((a || b) || c)
    or_assoc true b c = refl
    or_assoc false b c = refl

none_of_both : (b c : Bool) → b ≡ false → c ≡ false → (b || c) ≡ false
none_of_both true c is other = is
none_of_both false c is other = other

not_turned : (one other : ℕ) → (one == other) ≡ false → (other == one) ≡ false
not_turned one other differ = by (other == one) refl
  where
    by : (b : Bool) → (other == one) ≡ b → (other == one) ≡ false
    by false is = is
    by true is = absurd (true≢false (sym ((Decides-eqb one other).1 (sym ((Decides-eqb other one).0 is))) ∙ differ))

differ_push : (parts : List Part) (one : Part) → LabelsDiffer parts → is_label_of one.label (map (λ (part : Part). part.label) parts) ≡ false → LabelsDiffer (parts ++ one ∷ [])
differ_push [] one differ none = (refl, tt)
differ_push (part ∷ parts) one differ none = (
  any_parts part.label parts (one ∷ [])
      ∙ none_of_both (is_label_of part.label (map (λ (part : Part). part.label) parts)) (part.label == one.label || false) differ.0
      (none_of_both (part.label == one.label) false (not_turned one.label part.label (or_left (one.label == part.label) (is_label_of one.label (map (λ (part : Part). part.label) parts)) none)) refl),
  differ_push parts one differ.1 (or_right (one.label == part.label) (is_label_of one.label (map (λ (part : Part). part.label) parts)) none),
)

none_reversed : (number : ℕ) (parts : List Part) → is_label_of number (map (λ (part : Part). part.label) parts) ≡ false
    → is_label_of number (map (λ (part : Part). part.label) (reverse parts)) ≡ false
none_reversed number [] none = refl
none_reversed number (part ∷ parts) none =
    ap (λ (all : List Part). is_label_of number (map (λ (part : Part). part.label) all)) (reverse-append (part ∷ []) parts) ∙ any_parts number (reverse parts) (part ∷ [])
    ∙ none_of_both (is_label_of number (map (λ (part : Part). part.label) (reverse parts))) (number == part.label || false)
    (none_reversed number parts (or_right (number == part.label) (is_label_of number (map (λ (part : Part). part.label) parts)) none))
    (none_of_both (number == part.label) false (or_left (number == part.label) (is_label_of number (map (λ (part : Part). part.label) parts)) none) refl)

pub differ_reversed : (parts : List Part) → LabelsDiffer parts → LabelsDiffer (reverse parts)
differ_reversed [] differ = tt
differ_reversed (part ∷ parts) differ =
    subst LabelsDiffer (sym (reverse-append (part ∷ []) parts))
    (differ_push (reverse parts) part (differ_reversed parts differ.1) (none_reversed part.label parts differ.0))

map_reverse : {X Y : Type 0} (f : X → Y) (all : List X) → map f (reverse all) ≡ reverse (map f all)
map_reverse f [] = refl
map_reverse f (one ∷ all) =
    ap (map f) (reverse-append (one ∷ []) all) ∙ map-append f (reverse all) (one ∷ []) ∙ ap (λ (list : List _). list ++ f one ∷ []) (map_reverse f all)
    ∙ sym (reverse-append (f one ∷ []) (map f all))

-- the last part stands first, and the fields are those that were read
pub read_back : (names : List Name) (table : List Thing) (parts : List Part)
    → fields_read names table (reverse parts) ≡ with_fields (names_of names parts) (values_of table parts) NoField
read_back names table parts =
    cc (
      ap reverse (map_reverse (λ (part : Part). name_at names part.label) parts) ∙ reverse-reverse (names_of names parts),
      ap reverse (map_reverse (λ (part : Part). thing_at table part.value) parts) ∙ reverse-reverse (values_of table parts),
    )
