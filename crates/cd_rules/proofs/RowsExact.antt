-- A record is in each wanted type and outside each refused one exactly when it is in one of the
-- rows of these.
use Rattle.std.proofs.Common.{◌≡◌, Bool, true, false, true≢false, List, [], ◌∷◌, ◌++◌, map, Option, Some, None, bytes_eq}
use Rattle.std.proofs.Common.{◌⊎◌, inl, inr, ◌↔◌, refl, sym, subst, ◌∙◌}
use Rattle.std.proofs.lemmas.Bool.{cases_Bool}
use Rattle.std.proofs.lemmas.Slice.Eq.{bytes_eq-Decides}
use Rattle.cd_sets.specs.declared.question.Question.{Question}
use Rattle.cd_syntax.specs.Name.{Name}
use Rattle.cd_model.specs.AllOf.{AllOf, AnyOf}
use Rattle.cd_model.specs.Formula as formula
use Rattle.cd_model.specs.Membership.{Answers, Labelled, record_reader}
use Rattle.cd_model.proofs.Labels.{IsOneOf}
use Rattle.cd_rules.specs.Clauses.{RecordType}
use Rattle.cd_rules.specs.Rows.{Reason, Reasons, field_at, labels_of, reasons_of, types_at}
use Rattle.cd_rules.specs.Rows.{types_elsewhere, cell_at, row_of, rows_of}
use Rattle.cd_rules.specs.InRow.{IsInCell, IsOfNoCell, HasElsewhere, IsInRow}
use Rattle.cd_rules.proofs.InCells.{Says, cell_of, value_in, value_says, into_cell, out_of_cell}
use Rattle.cd_rules.proofs.LabelsNamed.{free_field, IsUnnamed, named_or_unnamed, unnamed_parts}
use Rattle.cd_model.proofs.Ones.{each_weaker, one_weaker, one_of_map, map_of_one, one_with_each, one_leads}
use Rattle.cd_model.proofs.Ones.{each_of_all, each_of_two, each_for_all}
use Rattle.cd_rules.proofs.Asking.{each_of_map}
use Rattle.cd_rules.proofs.Answered.{map_of_each}
use Rattle.cd_rules.proofs.ReasonsOf.{AreReasons, AreNamed, HasReason, reasons_of_each, each_of_reasons, reasons_named}
use Rattle.cd_rules.proofs.ReasonsOf.{refused_at, refused_elsewhere, reasons_back}

-- what holds of each of these holds of a label that is one of them
each_at : (Holds : Name → Type 0) (names : List Name) (label : Name) → AllOf Holds names → IsOneOf names label → Holds label
each_at Holds [] label each one = elim one [ ]
each_at Holds (name ∷ names) label each (inl same) = subst Holds same each.0
each_at Holds (name ∷ names) label each (inr later) = each_at Holds names label each.1 later

-- a label is one of these or is none of them
one_or_none : (names : List Name) (label : Name) → IsOneOf names label ⊎ (IsOneOf names label → ⊥)
one_or_none [] label = inr (λ one. one)
one_or_none (name ∷ names) label = by_name (cases_Bool (bytes_eq name label)) (one_or_none names label)
  where
    by_name : (bytes_eq name label ≡ true) ⊎ (bytes_eq name label ≡ false) → IsOneOf names label ⊎ (IsOneOf names label → ⊥)
        → IsOneOf (name ∷ names) label ⊎ (IsOneOf (name ∷ names) label → ⊥)
    by_name (inl same) later = inl (inl ((bytes_eq-Decides name label).0 same))
    by_name (inr differ) (inl one) = inl (inr one)
    by_name (inr differ) (inr none) = inr (λ one. elim one [
      | inl same ↦ true≢false (sym ((bytes_eq-Decides name label).1 same) ∙ differ)
      | inr later ↦ none later
    ])

-- a type says no more of a label that is none of these than of any label that it does not name
abbrev pub SaysNoMore : List Name → RecordType → Type 0
SaysNoMore labels type = (label : Name) → (IsOneOf labels label → ⊥) → field_at type label ≡ free_field type

-- a record that has at each label what is given
abbrev pub labelled_by : {X : Type 0} → (X → Answers) → (Name → Option X) → Labelled
labelled_by answers at label field answer = Says answers (at label) field answer

module _ {X : Type 0} (answers : X → Answers) (at : Name → Option X) (labels : List Name) (wanted : List RecordType) where
  -- whether the record is as a type says of a label, and as it says of the labels that it does not name
  abbrev pub IsAs : Bool → Name → RecordType → Type 0
  IsAs answer label type = Says answers (at label) (field_at type label) answer

  abbrev IsAsRest : Bool → Name → RecordType → Type 0
  IsAsRest answer label type = Says answers (at label) (free_field type) answer

  -- the record is outside a type for this reason: at the label, or at one that is none of these
  abbrev IsOutside : RecordType → Type 0
  IsOutside type = (label : Name) × (IsOneOf labels label → ⊥) × IsAsRest false label type

  abbrev pub IsReason : RecordType → Reason → Type 0
  IsReason type reason = HasReason (IsAs false) IsOutside type reason

  -- where the record is outside a type there is a reason, and back
  has_reason : (type : RecordType) → SaysNoMore labels type → (label : Name) × IsAs false label type
      → AnyOf (IsReason type) (None ∷ map Some labels)
  has_reason type free outside = by_label (one_or_none labels outside.0)
    where
      by_label : IsOneOf labels outside.0 ⊎ (IsOneOf labels outside.0 → ⊥) → AnyOf (IsReason type) (None ∷ map Some labels)
      by_label (inl one) = inr (one_of_map Some (IsReason type) labels
          (one_weaker (λ name. name ≡ outside.0) (λ name. IsAs false name type)
          (λ name same. subst (λ (name : Name). IsAs false name type) (sym same) outside.1) labels one))
      by_label (inr none) = inl (
        outside.0,
        none,
        subst (λ field. Says answers (at outside.0) field false) (free outside.0 none) outside.1,
      )

  pub of_reason : (type : RecordType) → SaysNoMore labels type → AnyOf (IsReason type) (None ∷ map Some labels)
      → (label : Name) × IsAs false label type
  of_reason type free (inl is) = (
    is.0,
    subst (λ field. Says answers (at is.0) field false) (sym (free is.0 is.1)) is.2,
  )
  of_reason type free (inr later) = one_leads (λ label. IsAs false label type) (λ label is. (label, is)) labels
      (map_of_one Some (IsReason type) labels later)

  -- a label of no cell of a row is none of these
  none_of_cells : (reasons : Reasons) (label : Name) → (IsOneOf labels label → ⊥)
      → IsOfNoCell (row_of labels wanted reasons) label
  none_of_cells reasons label none one =
      none (map_of_one (λ label. (label, cell_at wanted reasons label)) (λ cell. cell.0 ≡ label) labels one)

  none_of_these : (reasons : Reasons) (label : Name) → IsOfNoCell (row_of labels wanted reasons) label
      → IsOneOf labels label → ⊥
  none_of_these reasons label none one =
      none (one_of_map (λ label. (label, cell_at wanted reasons label)) (λ cell. cell.0 ≡ label) labels one)

  -- what is at one of these labels is in the label's cell, where this is so of each cell
  cell_in : (reasons : Reasons) → AllOf (λ cell. IsInCell answers (at cell.0) cell.1) (row_of labels wanted reasons).cells
      → (label : Name) → IsOneOf labels label → IsInCell answers (at label) (cell_at wanted reasons label)
  cell_in reasons each label one = each_at (λ label. IsInCell answers (at label) (cell_at wanted reasons label)) labels
      label (map_of_each (λ label. (label, cell_at wanted reasons label)) (λ cell. IsInCell answers (at cell.0) cell.1)
      labels each) one

  -- what is in all rests of the wanted types and outside the rest of this one
  abbrev rest_question : RecordType → Question
  rest_question type = (cell_of answers free_field wanted (type ∷ [])).value

  module _ (unnamed : (label : Name) → (IsOneOf labels label → ⊥) → IsUnnamed wanted label) where
    -- at a label that is none of these the wanted types say what they say of labels that they do not name
    as_rest : (label : Name) → (IsOneOf labels label → ⊥) → AllOf (IsAs true label) wanted
        → AllOf (IsAsRest true label) wanted
    as_rest label none each = each_of_two (λ type. field_at type label ≡ free_field type) (IsAs true label)
        (IsAsRest true label) (λ type free is. subst (λ field. Says answers (at label) field true) free is) wanted
        (unnamed label none) each

    as_types : (label : Name) → (IsOneOf labels label → ⊥) → AllOf (IsAsRest true label) wanted
        → AllOf (IsAs true label) wanted
    as_types label none each = each_of_two (λ type. field_at type label ≡ free_field type) (IsAsRest true label)
        (IsAs true label) (λ type free is. subst (λ field. Says answers (at label) field true) (sym free) is) wanted
        (unnamed label none) each

    -- nothing, or a value in all rests of the wanted types, is as these say
    every_in : (what : Option X) → AllOf (λ type. Says answers what (free_field type) true) wanted → (reasons : Reasons)
        → IsInCell answers what (record { absent = true; value = (row_of labels wanted reasons).every })
    every_in None each reasons = refl
    every_in (Some is) each reasons = value_in answers free_field wanted [] is each tt

    every_says : (what : Option X) (reasons : Reasons)
        → IsInCell answers what (record { absent = true; value = (row_of labels wanted reasons).every })
        → AllOf (λ type. Says answers what (free_field type) true) wanted
    every_says None reasons is = each_of_all (λ type. true ≡ true) (λ type. refl) wanted
    every_says (Some is) reasons asking = (value_says answers free_field wanted [] is asking).0

    -- a value that is also outside the rest of this type is not as the type says
    some_in : (what : Option X) (type : RecordType) → AllOf (λ type. Says answers what (free_field type) true) wanted
        → Says answers what (free_field type) false
        → IsInCell answers what (record { absent = false; value = rest_question type })
    some_in None type each outside = absurd (true≢false outside)
    some_in (Some is) type each outside = value_in answers free_field wanted (type ∷ []) is each (outside, tt)

    some_says : (what : Option X) (type : RecordType)
        → IsInCell answers what (record { absent = false; value = rest_question type })
        → Says answers what (free_field type) false
    some_says None type is = absurd (true≢false (sym is))
    some_says (Some is) type asking = (value_says answers free_field wanted (type ∷ []) is asking).1.0

    -- the record is in the row of reasons for which it is outside the refused types
    into_row : ((label : Name) → AllOf (IsAs true label) wanted) → (reasons : Reasons) → AreReasons IsReason reasons
        → IsInRow answers at (row_of labels wanted reasons)
    into_row inside reasons each = (
      cells,
      every,
      each_of_map rest_question Has (types_elsewhere reasons)
          (each_weaker IsOutside (λ type. Has (rest_question type)) some_at
          (types_elsewhere reasons) (refused_elsewhere (IsAs false) IsOutside reasons each)),
    )
      where
        Has : Question → Type 0
        Has = HasElsewhere answers at (row_of labels wanted reasons)

        cells : AllOf (λ cell. IsInCell answers (at cell.0) cell.1) (row_of labels wanted reasons).cells
        cells = each_of_map (λ label. (label, cell_at wanted reasons label))
            (λ cell. IsInCell answers (at cell.0) cell.1) labels
            (each_of_all (λ label. IsInCell answers (at label) (cell_at wanted reasons label))
            (λ label. into_cell answers (λ type. field_at type label) wanted (types_at label reasons) (at label)
            (inside label) (refused_at (IsAs false) IsOutside label reasons each)) labels)

        every : (label : Name) → IsOfNoCell (row_of labels wanted reasons) label
            → IsInCell answers (at label) (record { absent = true; value = (row_of labels wanted reasons).every })
        every label none =
            every_in (at label) (as_rest label (none_of_these reasons label none) (inside label)) reasons

        some_at : (type : RecordType) → IsOutside type → Has (rest_question type)
        some_at type (label, none, outside) = (
          label,
          none_of_cells reasons label none,
          some_in (at label) type (as_rest label none (inside label)) outside,
        )

    -- a record in the row of reasons is as the wanted types say, and outside the refused ones for these reasons
    pub wanted_in_row : (reasons : Reasons) → IsInRow answers at (row_of labels wanted reasons)
        → (label : Name) → AllOf (IsAs true label) wanted
    wanted_in_row reasons is label = by_label (one_or_none labels label)
      where
        by_label : IsOneOf labels label ⊎ (IsOneOf labels label → ⊥) → AllOf (IsAs true label) wanted
        by_label (inl one) = (out_of_cell answers (λ type. field_at type label) wanted (types_at label reasons) (at label)
            (cell_in reasons is.0 label one)).0
        by_label (inr none) =
            as_types label none (every_says (at label) reasons (is.1 label (none_of_cells reasons label none)))

    pub refused_in_row : (reasons : Reasons) → AreNamed labels reasons → IsInRow answers at (row_of labels wanted reasons)
        → AreReasons IsReason reasons
    refused_in_row reasons named is = reasons_back (IsAs false) IsOutside labels reasons named at_labels
        (each_weaker (λ type. Has (rest_question type)) IsOutside elsewhere
        (types_elsewhere reasons) (map_of_each rest_question Has (types_elsewhere reasons) is.2))
      where
        Has : Question → Type 0
        Has = HasElsewhere answers at (row_of labels wanted reasons)

        at_labels : (label : Name) → IsOneOf labels label → AllOf (IsAs false label) (types_at label reasons)
        at_labels label one = (out_of_cell answers (λ type. field_at type label) wanted (types_at label reasons) (at label)
            (cell_in reasons is.0 label one)).1

        elsewhere : (type : RecordType) → Has (rest_question type) → IsOutside type
        elsewhere type (label, none, value) =
            (label, none_of_these reasons label none, some_says (at label) type value)

-- labels that are none of those that types name are named by none of them
pub unnamed_by_all : (types : List RecordType) (label : Name) → (IsOneOf (labels_of types) label → ⊥) → IsUnnamed types label
unnamed_by_all types label none = by_both (named_or_unnamed types label)
  where
    by_both : IsOneOf (labels_of types) label ⊎ IsUnnamed types label → IsUnnamed types label
    by_both (inl one) = absurd (none one)
    by_both (inr unnamed) = unnamed

-- types that do not name labels which are none of these say no more of them
pub say_no_more : (labels : List Name) (types : List RecordType)
    → ((label : Name) → (IsOneOf labels label → ⊥) → IsUnnamed types label)
    → AllOf (SaysNoMore labels) types
say_no_more labels [] unnamed = tt
say_no_more labels (type ∷ types) unnamed =
    (λ label none. (unnamed label none).0, say_no_more labels types (λ label none. (unnamed label none).1))

module _ {X : Type 0} (answers : X → Answers) (at : Name → Option X) (wanted refused : List RecordType) where
  -- the record is in each wanted type and outside each refused one
  abbrev IsInTypes : Type 0
  IsInTypes = AllOf (λ type. record_reader (labelled_by answers at) (formula.Record type.named type.rest) true) wanted
      × AllOf (λ type. record_reader (labelled_by answers at) (formula.Record type.named type.rest) false) refused

  abbrev labels : List Name
  labels = labels_of (wanted ++ refused)

  unnamed : (label : Name) → (IsOneOf labels label → ⊥) → IsUnnamed wanted label × IsUnnamed refused label
  unnamed label none = unnamed_parts wanted refused label (unnamed_by_all (wanted ++ refused) label none)

  free : AllOf (SaysNoMore labels) refused
  free = say_no_more labels refused (λ label none. (unnamed label none).1)

  -- such a record is in one of the rows
  into_rows : IsInTypes → AnyOf (IsInRow answers at) (rows_of wanted refused)
  into_rows is = one_of_map (row_of labels wanted) (IsInRow answers at) (reasons_of labels refused)
      (one_weaker (AreReasons (IsReason answers at labels wanted))
      (λ reasons. IsInRow answers at (row_of labels wanted reasons))
      (into_row answers at labels wanted (λ label none. (unnamed label none).0) inside) (reasons_of labels refused)
      (reasons_of_each (IsReason answers at labels wanted) labels refused reasons))
    where
      inside : (label : Name) → AllOf (IsAs answers at labels wanted true label) wanted
      inside label = each_weaker (λ type. (label : Name) → IsAs answers at labels wanted true label type)
          (IsAs answers at labels wanted true label) (λ type each. each label) wanted is.0

      reasons : AllOf (λ type. AnyOf (IsReason answers at labels wanted type) (None ∷ map Some labels)) refused
      reasons = each_of_two (SaysNoMore labels) (λ type. (label : Name) × IsAs answers at labels wanted false label type)
          (λ type. AnyOf (IsReason answers at labels wanted type) (None ∷ map Some labels))
          (has_reason answers at labels wanted) refused free is.1

  -- and one in a row is such
  out_of_rows : AnyOf (IsInRow answers at) (rows_of wanted refused) → IsInTypes
  out_of_rows is = (
    one_leads InNamedRow (λ reasons both. inside reasons both.0) (reasons_of labels refused) rows,
    each_of_two (SaysNoMore labels) (λ type. AnyOf (IsReason answers at labels wanted type) (None ∷ map Some labels))
        (λ type. (label : Name) × IsAs answers at labels wanted false label type)
        (of_reason answers at labels wanted) refused free
        (each_of_reasons (IsReason answers at labels wanted) labels refused
        (one_weaker InNamedRow (AreReasons (IsReason answers at labels wanted))
        (λ reasons both. outside reasons both.1 both.0) (reasons_of labels refused) rows)),
  )
    where
      InNamedRow : Reasons → Type 0
      InNamedRow reasons = IsInRow answers at (row_of labels wanted reasons) × AreNamed labels reasons

      rows : AnyOf InNamedRow (reasons_of labels refused)
      rows = one_with_each (λ reasons. IsInRow answers at (row_of labels wanted reasons)) (AreNamed labels)
          (reasons_of labels refused)
          (map_of_one (row_of labels wanted) (IsInRow answers at) (reasons_of labels refused) is)
          (reasons_named labels refused)

      inside : (reasons : Reasons) → IsInRow answers at (row_of labels wanted reasons)
          → AllOf (λ type. (label : Name) → IsAs answers at labels wanted true label type) wanted
      inside reasons is = each_for_all (IsAs answers at labels wanted true) wanted
          (wanted_in_row answers at labels wanted (λ label none. (unnamed label none).0) reasons is)

      outside : (reasons : Reasons) → AreNamed labels reasons → IsInRow answers at (row_of labels wanted reasons)
          → AreReasons (IsReason answers at labels wanted) reasons
      outside = refused_in_row answers at labels wanted (λ label none. (unnamed label none).0)

  -- a record is in each wanted type and outside each refused one exactly when it is in one of their
  -- rows
  pub rows_exact : IsInTypes ↔ AnyOf (IsInRow answers at) (rows_of wanted refused)
  rows_exact = (into_rows, out_of_rows)
