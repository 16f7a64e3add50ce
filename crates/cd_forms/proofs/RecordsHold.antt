-- A record type of the fields of a record expression holds the records that have, at each label,
-- what stands there.
use Rattle.std.proofs.Common.{◌≡◌, ◌↔◌, ◌⊎◌, ◌<◌, ◌++◌, true, false, Bool, List, [], ◌∷◌, map}
use Rattle.std.proofs.Common.{Option}
use Rattle.std.proofs.Common.{Some, None, ap, refl, sym, subst, ◌∙◌, bytes_eq, if◌then◌else◌, inl}
use Rattle.std.proofs.Common.{inr}
use Rattle.std.proofs.Common.{length, true≢false, ℕ, suc, arith, length-append}
use Rattle.std.proofs.lemmas.Option.{none-some, same_Some}
use Rattle.std.proofs.lemmas.Slice.Eq.{bytes_eq-Decides}
use Rattle.cd_sets.specs.declared.node_id.NodeId.{NodeId}
use Rattle.cd_syntax.specs.Name.{Name, IsLabel}
use Rattle.cd_model.specs.AllOf.{AllOf}
use Rattle.cd_model.specs.BuiltIns.{built_ins, EMPTY}
use Rattle.cd_model.specs.Formula.{Graph, Formula, Field, Record, IsFormula, AreRisingLabels}
use Rattle.cd_model.specs.Membership.{holds, reader, answers, labelled}
use Rattle.cd_model.specs.Thing as thing
use Rattle.cd_model.specs.Thing.{Thing, IsElement, AreFields}
use Rattle.cd_model.specs.Types.{field_of, chosen}
use Rattle.cd_model.proofs.InsertedFields.{Differs}
use Rattle.cd_rules.specs.InRow.{thing_at}
use Rattle.cd_program.specs.Expr.{Fields, NoField, AField, fields_of}
use Rattle.cd_program.specs.PlainExpr.{plain_field}
use Rattle.cd_program.specs.declared.expr.FieldExpr.{FieldExpr as CodeField}
use Rattle.cd_typing.specs.Typ.{typ, AreIn}
use Rattle.cd_typing.specs.Results.{IsRecordOf, written_at}
use Rattle.cd_forms.specs.Labels.{labels_of, AreLabels, AreOnce}
use Rattle.cd_forms.specs.Inner.Sorting.{typed_fields, sorted_over}
use Rattle.cd_forms.proofs.FieldsSorted.{Differ, sorted_rise, sorted_says, sorted_keeps}
use Rattle.cd_model.proofs.ReadHeads.{record_holds, nothing_in_empty}
use Rattle.cd_model.specs.Types.{no_closure}

-- a label is its own
pub name_itself : (name : Name) → bytes_eq name name ≡ true
name_itself name = (bytes_eq-Decides name name).1 refl

-- the labels of typed fields are those of the fields
typed_labels : (fields : Fields) (ids : List NodeId) → AreLabels fields
    → AllOf (λ field. IsLabel field.0) (typed_fields fields ids)
typed_labels NoField ids labels = tt
typed_labels (AField label at e rest) [] labels = tt
typed_labels (AField label at e rest) (id ∷ ids) labels =
    (labels.0, typed_labels rest ids labels.1)

other_label : (label other : Name) → (label ≡ other → ⊥) → bytes_eq label other ≡ false
other_label label other differs = by_test (bytes_eq label other) refl
  where
    by_test : (same : Bool) → bytes_eq label other ≡ same → same ≡ false
    by_test true is = absurd (differs ((bytes_eq-Decides label other).0 is))
    by_test false is = refl

typed_differs : (field : Name × Field) (fields : Fields) (ids : List NodeId)
    → AllOf (λ other. field.0 ≡ other → ⊥) (labels_of fields)
    → AllOf (Differs field) (typed_fields fields ids)
typed_differs field NoField ids differ = tt
typed_differs field (AField label at e rest) [] differ = tt
typed_differs field (AField label at e rest) (id ∷ ids) differ =
    (other_label field.0 label differ.0, typed_differs field rest ids differ.1)

typed_differ : (fields : Fields) (ids : List NodeId) → AreOnce (labels_of fields)
    → Differ (typed_fields fields ids)
typed_differ NoField ids once = tt
typed_differ (AField label at e rest) [] once = tt
typed_differ (AField label at e rest) (id ∷ ids) once = (
  typed_differs (label, record { optional = false; type = id }) rest ids once.0,
  typed_differ rest ids once.1,
)

typed_below : (count : ℕ) (fields : Fields) (ids : List NodeId) → AllOf (λ id. id.0 < count) ids
    → AllOf (λ field. field.1.type.0 < count) (typed_fields fields ids)
typed_below count NoField ids below = tt
typed_below count (AField label at e rest) [] below = tt
typed_below count (AField label at e rest) (id ∷ ids) below =
    (below.0, typed_below count rest ids below.1)

-- the fields in order
abbrev pub in_order : Fields → List NodeId → List (Name × Field)
in_order fields ids = sorted_over [] (typed_fields fields ids)

pub labels_rise : (fields : Fields) (ids : List NodeId) → AreLabels fields
    → AreOnce (labels_of fields) → AreRisingLabels None (in_order fields ids)
labels_rise fields ids labels once = sorted_rise (typed_fields fields ids)
    (typed_labels fields ids labels) (typed_differ fields ids once)

pub record_sound : (count : ℕ) (fields : Fields) (ids : List NodeId) → AreLabels fields
    → AreOnce (labels_of fields) → AllOf (λ id. id.0 < count) ids → 0 < count
    → IsFormula count (Record (in_order fields ids) EMPTY)
record_sound count fields ids labels once below some = (
  labels_rise fields ids labels once,
  sorted_keeps (λ field. field.1.type.0 < count) [] (typed_fields fields ids) tt
      (typed_below count fields ids below),
  some,
)

module _ (graph more : Graph) (begins : graph ≡ built_ins ++ more) where
  -- what a record has at a label is as a record type says
  abbrev IsAs : Option Thing → Field → Type 0
  IsAs None field = field.optional ≡ true
  IsAs (Some d) field = answers graph d field.type true

  as_labelled : (made : thing.Fields) (label : Name) (field : Field)
      → labelled graph made label field true ↔ IsAs (thing_at made label) field
  as_labelled thing.NoField label field = (λ is. is, λ is. is)
  as_labelled (thing.Field name d rest) label field =
      by_test (bytes_eq name label) (as_labelled rest label field)
    where
      by_test : (b : Bool)
          → labelled graph rest label field true ↔ IsAs (thing_at rest label) field
          → chosen b (answers graph d field.type true) (labelled graph rest label field true)
          ↔ IsAs (if b then Some d else thing_at rest label) field
      by_test true on = (λ is. is, λ is. is)
      by_test false on = on

  abbrev At : Fields → List NodeId → Name → Field
  At fields ids label = field_of (typed_fields fields ids) EMPTY label

  -- what is written at a label is as the fields say
  written_is : (fields : Fields) (ids : List NodeId) (ds : List Thing)
      → AreIn (map (typ graph) ids) ds → (label : Name)
      → IsAs (written_at fields ds label) (At fields ids label)
  written_is NoField ids ds are label = refl
  written_is (AField name at e rest) [] [] are label = refl
  written_is (AField name at e rest) [] (d ∷ ds) are label = absurd are
  written_is (AField name at e rest) (id ∷ ids) [] are label = absurd are
  written_is (AField name at e rest) (id ∷ ids) (d ∷ ds) are label =
      by_test (bytes_eq name label) (written_is rest ids ds are.2 label)
    where
      by_test : (b : Bool) → IsAs (written_at rest ds label) (At rest ids label)
          → IsAs (if b then Some d else written_at rest ds label)
          (if b then (record { optional = false; type = id }) else At rest ids label)
      by_test true on = are.1
      by_test false on = on

  -- each field says what it says at its own label
  abbrev SaysAt : Fields → List NodeId → Name × Field → Type 0
  SaysAt fields ids field = At fields ids field.0 ≡ field.1

  others_say : (name : Name) (id : NodeId) (rest : Fields) (ids : List NodeId)
      (named : List (Name × Field))
      → AllOf (Differs (name, record { optional = false; type = id })) named
      → AllOf (λ field. field_of (typed_fields rest ids) EMPTY field.0 ≡ field.1) named
      → AllOf (λ field. field_of ((name, record { optional = false; type = id })
      ∷ typed_fields rest ids) EMPTY field.0 ≡ field.1) named
  others_say name id rest ids [] differ say = tt
  others_say name id rest ids (field ∷ named) differ say = (
    ap (λ (b : Bool). if b then (record { optional = false; type = id })
        else field_of (typed_fields rest ids) EMPTY field.0) differ.0 ∙ say.0,
    others_say name id rest ids named differ.1 say.1,
  )

  each_says : (fields : Fields) (ids : List NodeId) → Differ (typed_fields fields ids)
      → AllOf (SaysAt fields ids) (typed_fields fields ids)
  each_says NoField ids differ = tt
  each_says (AField name at e rest) [] differ = tt
  each_says (AField name at e rest) (id ∷ ids) differ = (
    ap (λ (b : Bool). if b then (record { optional = false; type = id })
        else field_of (typed_fields rest ids) EMPTY name) (name_itself name),
    others_say name id rest ids (typed_fields rest ids) differ.0 (each_says rest ids differ.1),
  )

  -- the things of a record at the labels of fields
  abbrev AreAt : thing.Fields → Fields → List Thing → Type 0
  AreAt made NoField [] = Unit {0}
  AreAt made NoField (d ∷ ds) = ⊥
  AreAt made (AField name at e rest) [] = ⊥
  AreAt made (AField name at e rest) (d ∷ ds) =
      (thing_at made name ≡ Some d) × AreAt made rest ds

  there : (found : Option Thing) (id : NodeId)
      → IsAs found (record { optional = false; type = id })
      → (d : Thing) × (found ≡ Some d) × answers graph d id true
  there None id is = absurd (true≢false (sym is))
  there (Some d) id is = (d, refl, is)

  value_is_element : (made : thing.Fields) → AreFields made → (label : Name) (d : Thing)
      → thing_at made label ≡ Some d → IsElement d
  value_is_element thing.NoField are label d is = absurd (none-some d is)
  value_is_element (thing.Field name one rest) are label d is =
      by_test (bytes_eq name label) is (value_is_element rest are.2 label d)
    where
      by_test : (b : Bool) → (if b then Some one else thing_at rest label) ≡ Some d
          → (thing_at rest label ≡ Some d → IsElement d) → IsElement d
      by_test true is later = subst IsElement (same_Some one d is) are.1
      by_test false is later = later is

  abbrev HasThings : thing.Fields → Fields → List NodeId → Type 0
  HasThings made fields ids =
      (ds : List Thing) × AreIn (map (typ graph) ids) ds × AreAt made fields ds

  things : (made : thing.Fields) → AreFields made → (fields : Fields) (ids : List NodeId)
      → length ids ≡ length (labels_of fields)
      → AllOf (λ field. IsAs (thing_at made field.0) field.1) (typed_fields fields ids)
      → HasThings made fields ids
  things made are NoField [] count each = ([], tt, tt)
  things made are NoField (id ∷ ids) count each = absurd (omega (arith, count))
  things made are (AField name at e rest) [] count each = absurd (omega (arith, count))
  things made are (AField name at e rest) (id ∷ ids) count each =
      let first = there (thing_at made name) id each.0 in
      let others = things made are rest ids (omega (arith, count)) each.1 in (
        first.0 ∷ others.0,
        (value_is_element made are name first.0 first.1, first.2, others.1),
        (first.1, others.2),
      )

  -- at each label a record has what is written there, or no field has the label
  written_or : (made : thing.Fields) (fields : Fields) (ids : List NodeId) (ds : List Thing)
      → length ids ≡ length (labels_of fields) → AreAt made fields ds → (label : Name)
      → (thing_at made label ≡ written_at fields ds label)
      ⊎ ((written_at fields ds label ≡ None)
      × (At fields ids label ≡ record { optional = true; type = EMPTY }))
  written_or made NoField ids ds count are label = inr (refl, refl)
  written_or made (AField name at e rest) [] ds count are label = absurd (omega (arith, count))
  written_or made (AField name at e rest) (id ∷ ids) [] count are label = absurd are
  written_or made (AField name at e rest) (id ∷ ids) (d ∷ ds) count are label =
      by_test (bytes_eq name label) refl
      (written_or made rest ids ds (omega (arith, count)) are.1 label)
    where
      by_test : (b : Bool) → bytes_eq name label ≡ b
          → (thing_at made label ≡ written_at rest ds label)
          ⊎ ((written_at rest ds label ≡ None)
          × (At rest ids label ≡ record { optional = true; type = EMPTY }))
          → (thing_at made label ≡ (if b then Some d else written_at rest ds label))
          ⊎ (((if b then Some d else written_at rest ds label) ≡ None)
          × ((if b then (record { optional = false; type = id }) else At rest ids label)
          ≡ record { optional = true; type = EMPTY }))
      by_test true is on =
          inl (ap (thing_at made) (sym ((bytes_eq-Decides name label).0 is)) ∙ are.0)
      by_test false is on = on

  -- nothing is where no field is
  nothing_else : (found : Option Thing) → IsAs found (record { optional = true; type = EMPTY })
      → found ≡ None
  nothing_else None is = refl
  nothing_else (Some d) is = absurd (nothing_in_empty graph more begins d is)

  module _ (fields : Fields) (ids : List NodeId) (once : AreOnce (labels_of fields)) where
    abbrev Type_of : Formula
    Type_of = Record (in_order fields ids) EMPTY

    says : (label : Name) → field_of (in_order fields ids) EMPTY label ≡ At fields ids label
    says label = sorted_says EMPTY label (typed_fields fields ids) (typed_differ fields ids once)

    pub record_has : (e : Thing) → IsRecordOf fields (map (typ graph) ids) e
        → holds (reader graph e) Type_of true
    record_has e (ds, made, are, written, same) =
        (record_holds graph no_closure (in_order fields ids) EMPTY e).1 (
          made,
          same,
          λ label. (as_labelled made label (field_of (in_order fields ids) EMPTY label)).1
              (subst (λ (field : Field). IsAs (thing_at made label) field) (sym (says label))
              (subst (λ (found : Option Thing). IsAs found (At fields ids label))
              (sym (written label))
              (written_is fields ids ds are label))),
        )

    module _ (count : length ids ≡ length (labels_of fields)) where
      is_as : (made : thing.Fields)
          → ((label : Name)
          → labelled graph made label (field_of (in_order fields ids) EMPTY label) true)
          → (label : Name) → IsAs (thing_at made label) (At fields ids label)
      is_as made each label = subst (λ (field : Field). IsAs (thing_at made label) field)
          (says label)
          ((as_labelled made label (field_of (in_order fields ids) EMPTY label)).0 (each label))

      each_is_as : (made : thing.Fields)
          → ((label : Name) → IsAs (thing_at made label) (At fields ids label))
          → (named : List (Name × Field)) → AllOf (SaysAt fields ids) named
          → AllOf (λ field. IsAs (thing_at made field.0) field.1) named
      each_is_as made is [] say = tt
      each_is_as made is (field ∷ named) say = (
        subst (λ (one : Field). IsAs (thing_at made field.0) one) say.0 (is field.0),
        each_is_as made is named say.1,
      )

      written_there : (made : thing.Fields)
          → ((label : Name) → IsAs (thing_at made label) (At fields ids label))
          → (ds : List Thing) → AreAt made fields ds → (label : Name)
          → thing_at made label ≡ written_at fields ds label
      written_there made is ds are label =
          elim (written_or made fields ids ds count are label) [
            | inl same ↦ same
            | inr none ↦ nothing_else (thing_at made label)
                (subst (λ (field : Field). IsAs (thing_at made label) field) none.1 (is label))
                ∙ sym none.0
          ]

      pub record_only : (e : Thing) → IsElement e → holds (reader graph e) Type_of true
          → IsRecordOf fields (map (typ graph) ids) e
      record_only e element inside =
          let found = (record_holds graph no_closure (in_order fields ids) EMPTY e).0 inside in
          let is = is_as found.0 found.2 in
          let has = things found.0 (subst IsElement found.1 element).1 fields ids count
          (each_is_as found.0 is (typed_fields fields ids)
          (each_says fields ids (typed_differ fields ids once))) in
          (has.0, found.0, has.1, written_there found.0 is has.0 has.2, found.1)

-- as code finds it
pub some_node : (graph more : Graph) → graph ≡ built_ins ++ more → 0 < length graph
some_node graph more begins = subst (λ (g : Graph). 0 < length g) (sym begins)
    (omega (arith, length-append built_ins more))

labels_of_code : (fields : List CodeField) → length (labels_of (fields_of (map plain_field fields)))
    ≡ length fields
labels_of_code [] = refl
labels_of_code (field ∷ fields) = ap suc (labels_of_code fields)

pub count_labels : (fields : List CodeField) (ids : List NodeId) → length ids ≡ length fields
    → length ids ≡ length (labels_of (fields_of (map plain_field fields)))
count_labels fields ids count = count ∙ sym (labels_of_code fields)
