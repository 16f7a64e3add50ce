-- What is found of a record where both lists of labels are gone over once, as their labels rise.
use Rattle.std.proofs.Common.{◌≡◌, ◌∙◌, Bool, true, false, List, [], ◌∷◌, Option, Some, None, map, bytes_eq, if◌then◌else◌}
use Rattle.std.proofs.Common.{ℕ, ◌+◌, ◌<◌, ◌⊎◌, inl, inr, drop, length, get_or, refl, sym, ap, subst}
use Rattle.std.proofs.lemmas.Bool.{cases_Bool}
use Rattle.std.proofs.lemmas.List.{at_drop_more}
use Rattle.std.proofs.lemmas.Slice.Eq.{bytes_eq-Decides}
use Rattle.cd_sets.specs.declared.node_id.NodeId.{NodeId}
use Rattle.cd_syntax.specs.Name.{Name}
use Rattle.cd_model.specs.AllOf.{AllOf}
use Rattle.cd_model.specs.Formula.{Field, field_of, AreRisingLabels}
use Rattle.cd_graph.specs.PlainFormula.{plain_field, plain_named}
use Rattle.cd_graph.specs.declared.fields.Field.{Field as CodeField}
use Rattle.cd_elements.specs.declared.shape.ElementId.{ElementId}
use Rattle.cd_facts.specs.declared.finding.Finding.{Finding}
use Rattle.cd_facts.specs.declared.finding.Finding.TheVariants.{Known, Unknown}
use Rattle.cd_facts.specs.Inner.Rising.{item_at, from, first_at}
use Rattle.cd_facts.specs.Inner.Finding.{both, labels, finding_at_field, finding_at_labels, finding_at_other, finding_at_others}
use Rattle.cd_facts.proofs.LabelsOfRecords.{labels_in_turn}
use Rattle.cd_facts.proofs.RisingLabels.{Below, first_is, from_keeps, each_stands, rest_above}

-- the labels of the code's fields rise
pub fields_rise : (before : Option Name) (fields : List (Name × CodeField)) → AreRisingLabels before (plain_named fields)
    → AreRisingLabels before fields
fields_rise before [] rise = tt
fields_rise before (field ∷ fields) rise = (rise.0, rise.1, fields_rise (Some field.0) fields rise.2)

-- the first of those that are left
next_is : {X : Type 0} (items : List X) (index : ℕ) (item : X) → item ≡ get_or items index item → index < length items
    → drop index items ≡ item ∷ drop (index + 1) items
next_is items index item is more =
    at_drop_more (λ left. left) items index item more ∙ ap (λ first. first ∷ drop (index + 1) items) (sym is)

-- what a type says of a label that it names, and of one that it does not name
named_field : (named : List (Name × Field)) (rest : NodeId) (label : Name) (field : Field) → item_at named label ≡ Some field
    → field_of named rest label ≡ field
named_field [] rest label field is = absurd cc
named_field (first ∷ named) rest label field is =
    by_test (bytes_eq first.0 label) is (named_field named rest label field)
  where
    by_test : (test : Bool) → (if test then Some first.1 else item_at named label) ≡ Some field
        → (item_at named label ≡ Some field → field_of named rest label ≡ field)
        → (if test then first.1 else field_of named rest label) ≡ field
    by_test true is later = cc
    by_test false is later = later is

free_field : (named : List (Name × Field)) (rest : NodeId) (label : Name) → item_at named label ≡ None
    → field_of named rest label ≡ record { optional = true; type = rest }
free_field [] rest label none = refl
free_field (first ∷ named) rest label none = by_test (bytes_eq first.0 label) none (free_field named rest label)
  where
    by_test : (test : Bool) → (if test then Some first.1 else item_at named label) ≡ None
        → (item_at named label ≡ None → field_of named rest label ≡ record { optional = true; type = rest })
        → (if test then first.1 else field_of named rest label) ≡ record { optional = true; type = rest }
    by_test true none later = absurd cc
    by_test false none later = later none

-- where both are known to be so, each is
first_so : (first second : Finding) → both first second ≡ Known true → first ≡ Known true
first_so (Known true) second so = refl
first_so (Known false) second so = so
first_so (Unknown id node) second so = so

second_so : (first second : Finding) → both first second ≡ Known true → second ≡ Known true
second_so (Known true) second so = so
second_so (Known false) second so = absurd cc
second_so (Unknown id node) second so = absurd cc

module _ (known : ElementId → NodeId → Option Bool) where
  -- what is found at the labels that a type names, by their fields
  abbrev pub in_turn : List (Name × ElementId) → List (Name × Field) → Finding
  in_turn parts [] = Known true
  in_turn parts (field ∷ named) = both (finding_at_field known (item_at parts field.0) field.1) (in_turn parts named)

  fields_stand : (parts : List (Name × ElementId)) (all named : List (Name × Field)) (rest : NodeId)
      → AllOf (λ field. item_at all field.0 ≡ Some field.1) named
      → in_turn parts named ≡ finding_at_labels known parts all rest (map (λ field. field.0) named)
  fields_stand parts all [] rest stand = refl
  fields_stand parts all (field ∷ named) rest stand = λ i. both
      (finding_at_field known (item_at parts field.0) (sym (named_field all rest field.0 field.1 stand.0) i))
      (fields_stand parts all named rest stand.1 i)

  pub at_named_labels : (parts : List (Name × ElementId)) (named : List (Name × Field)) (rest : NodeId)
      → AreRisingLabels None named
      → in_turn parts named ≡ finding_at_labels known parts named rest (map (λ field. field.0) named)
  at_named_labels parts named rest rise = fields_stand parts named named rest (each_stands named rise)

  in_turn_from : (low : Name) (parts : List (Name × ElementId)) (fields : List (Name × CodeField))
      → AllOf (λ field. Below low field.0) fields
      → in_turn (from low parts) (plain_named fields) ≡ in_turn parts (plain_named fields)
  in_turn_from low parts [] above = refl
  in_turn_from low parts (field ∷ fields) above = λ i. both
      (finding_at_field known (from_keeps low field.0 parts above.0 i) (plain_field field.1))
      (in_turn_from low parts fields above.1 i)

  -- the next field, whose part is the first of those that are left from its label on
  pub next_field : (left after : List (Name × ElementId)) (fields : List (Name × CodeField)) (index : ℕ)
      (field : Name × CodeField) (part : Option ElementId) (finding whole : Finding)
      → AreRisingLabels None left → AreRisingLabels None (plain_named fields)
      → field ≡ get_or fields index field → index < length fields
      → after ≡ from field.0 left → part ≡ first_at after field.0 → finding ≡ finding_at_field known part (plain_field field.1)
      → in_turn left (plain_named (drop index fields)) ≡ whole
      → both finding (in_turn after (plain_named (drop (index + 1) fields))) ≡ whole
  next_field left after fields index field part finding whole rise fields_rising is more on first found so =
      let split = next_is fields index field is more in
      let above = rest_above fields index field (fields_rise None fields fields_rising) split in
      let here : part ≡ item_at left field.0 = first ∙ ap (λ items. first_at items field.0) on ∙ first_is field.0 left rise in
      let later : in_turn after (plain_named (drop (index + 1) fields)) ≡ in_turn left (plain_named (drop (index + 1) fields)) =
      ap (λ parts. in_turn parts (plain_named (drop (index + 1) fields))) on
      ∙ in_turn_from field.0 left (drop (index + 1) fields) above in
      (λ i. both (found i) (later i)) ∙ (λ i. both (finding_at_field known (here i) (plain_field field.1))
      (in_turn left (plain_named (drop (index + 1) fields))))
      ∙ sym (ap (λ fields. in_turn left (plain_named fields)) split) ∙ so

  others_from : {X : Type 0} (low : Name) (named : List (Name × X)) (rest : NodeId) (parts : List (Name × ElementId))
      → AllOf (λ part. Below low part.0) parts
      → finding_at_others known (from low named) rest parts ≡ finding_at_others known named rest parts
  others_from low named rest [] above = refl
  others_from low named rest (part ∷ parts) above = λ i. both
      (finding_at_other known (from_keeps low part.0 named above.0 i) part.1 rest)
      (others_from low named rest parts above.1 i)

  -- the next part, whose field is the first of those that are left from its label on
  pub next_other : {X : Type 0} (left after : List (Name × X)) (rest : NodeId) (parts : List (Name × ElementId)) (index : ℕ)
      (part : Name × ElementId) (field : Option X) (finding whole : Finding)
      → AreRisingLabels None left → AreRisingLabels None parts → part ≡ get_or parts index part → index < length parts
      → after ≡ from part.0 left → field ≡ first_at after part.0 → finding ≡ finding_at_other known field part.1 rest
      → finding_at_others known left rest (drop index parts) ≡ whole
      → both finding (finding_at_others known after rest (drop (index + 1) parts)) ≡ whole
  next_other left after rest parts index part field finding whole rise parts_rising is more on first found so =
      let split = next_is parts index part is more in
      let above = rest_above parts index part parts_rising split in
      let here : field ≡ item_at left part.0 = first ∙ ap (λ items. first_at items part.0) on ∙ first_is part.0 left rise in
      let later : finding_at_others known after rest (drop (index + 1) parts)
      ≡ finding_at_others known left rest (drop (index + 1) parts) =
      ap (λ named. finding_at_others known named rest (drop (index + 1) parts)) on
      ∙ others_from part.0 left rest (drop (index + 1) parts) above in
      (λ i. both (found i) (later i)) ∙ (λ i. both (finding_at_other known (here i) part.1 rest)
      (finding_at_others known left rest (drop (index + 1) parts)))
      ∙ sym (ap (finding_at_others known left rest) split) ∙ so

  -- where a record is as a type says of each label that it names, only its other parts are left to look at
  module _ (parts : List (Name × ElementId)) (named : List (Name × Field)) (rest : NodeId) where
    named_so : (some : List (Name × Field)) (label : Name) (field : Field)
        → finding_at_labels known parts named rest (map (λ field. field.0) some) ≡ Known true
        → item_at some label ≡ Some field
        → finding_at_field known (item_at parts label) (field_of named rest label) ≡ Known true
    named_so [] label field so is = absurd cc
    named_so (first ∷ some) label field so is =
        by_test (cases_Bool (bytes_eq first.0 label)) (named_so some label field)
      where
        at_first : Finding
        at_first = finding_at_field known (item_at parts first.0) (field_of named rest first.0)

        later : Finding
        later = finding_at_labels known parts named rest (map (λ field. field.0) some)

        by_test : (bytes_eq first.0 label ≡ true) ⊎ (bytes_eq first.0 label ≡ false)
            → (later ≡ Known true → item_at some label ≡ Some field
            → finding_at_field known (item_at parts label) (field_of named rest label) ≡ Known true)
            → finding_at_field known (item_at parts label) (field_of named rest label) ≡ Known true
        by_test (inl same) on =
            subst (λ (name : Name). finding_at_field known (item_at parts name) (field_of named rest name) ≡ Known true)
            ((bytes_eq-Decides first.0 label).0 same) (first_so at_first later so)
        by_test (inr differ) on = on (second_so at_first later so) (rw differ at is)

    each_other : (some : List (Name × ElementId)) → AllOf (λ part. item_at parts part.0 ≡ Some part.1) some
        → finding_at_labels known parts named rest (map (λ field. field.0) named) ≡ Known true
        → finding_at_others known named rest some ≡ finding_at_labels known parts named rest (map (λ part. part.0) some)
    each_other [] stand so = refl
    each_other (part ∷ some) stand so = λ i. both (by_field (item_at named part.0) refl i) (each_other some stand.1 so i)
      where
        by_field : (at : Option Field) → item_at named part.0 ≡ at
            → finding_at_other known at part.1 rest
            ≡ finding_at_field known (item_at parts part.0) (field_of named rest part.0)
        by_field None none = λ i. finding_at_field known (sym stand.0 i) (sym (free_field named rest part.0 none) i)
        by_field (Some field) is = sym (named_so named part.0 field so is)

    pub both_in_turn : (first others : Finding) → AreRisingLabels None parts
        → first ≡ finding_at_labels known parts named rest (map (λ field. field.0) named)
        → others ≡ finding_at_others known named rest parts
        → both first others ≡ finding_at_labels known parts named rest (labels named parts)
    both_in_turn first others rise first_found others_found = by_first first first_found
        ∙ (λ i. both (first_found i) (finding_at_labels known parts named rest (map (λ part. part.0) parts)))
        ∙ labels_in_turn known parts named rest (map (λ field. field.0) named) (map (λ part. part.0) parts)
      where
        by_first : (is : Finding) → is ≡ finding_at_labels known parts named rest (map (λ field. field.0) named)
            → both is others ≡ both is (finding_at_labels known parts named rest (map (λ part. part.0) parts))
        by_first (Known true) found = others_found ∙ each_other parts (each_stands parts rise) (sym found)
        by_first (Known false) found = refl
        by_first (Unknown id node) found = refl

-- a type of the code names the labels that its plain data names
other_plain : (known : ElementId → NodeId → Option Bool) (fields : List (Name × CodeField)) (label : Name) (id : ElementId)
    (rest : NodeId)
    → finding_at_other known (item_at fields label) id rest
    ≡ finding_at_other known (item_at (plain_named fields) label) id rest
other_plain known [] label id rest = refl
other_plain known (field ∷ fields) label id rest =
    by_test (bytes_eq field.0 label) (other_plain known fields label id rest)
  where
    by_test : (test : Bool)
        → finding_at_other known (item_at fields label) id rest
        ≡ finding_at_other known (item_at (plain_named fields) label) id rest
        → finding_at_other known (if test then Some field.1 else item_at fields label) id rest
        ≡ finding_at_other known (if test then Some (plain_field field.1) else item_at (plain_named fields) label) id rest
    by_test true later = refl
    by_test false later = later

pub others_plain : (known : ElementId → NodeId → Option Bool) (fields : List (Name × CodeField)) (rest : NodeId)
    (parts : List (Name × ElementId))
    → finding_at_others known fields rest parts ≡ finding_at_others known (plain_named fields) rest parts
others_plain known fields rest [] = refl
others_plain known fields rest (part ∷ parts) = λ i. both (other_plain known fields part.0 part.1 rest i)
    (others_plain known fields rest parts i)
