-- Each thing answers true or false at each type, whatever types are, where closures do at arrows.
use Rattle.std.proofs.Common.{◌≡◌, ℤ, ℕ, true, false, List, [], ◌∷◌, Option, Some, None, ◌⊎◌, inl, inr, refl, bytes_eq}
use Rattle.std.proofs.lemmas.Bool.{cases_Bool}
use Rattle.std.proofs.lemmas.Slice.Eq.{bytes_eq-Decides}
use Rattle.cd_syntax.specs.Name.{Name}
use Rattle.cd_model.specs.Thing.{Thing, Integer, Character, Atom, Pair, Xml, Record, Function, Closure, Fields, NoField, Field, Pairs, NoPair, Maps, Fails}
use Rattle.cd_model.specs.Types.{FieldOf, field_of, Head, Integers, Characters, Atoms, Products, Xmls, Records, Arrows, Sequences, Items, Answers, Reader, Presentation, Labelled, Mapping, at_head, items_of_atom, with_item, fits, integer_at, character_at, atom_at, pair_at, with_sequences, xml_at, record_at, function_at, reader, items, labelled, mapping, answers, no_closure}
use Rattle.cd_model.proofs.Labels.{IsOneOf, names_of, named_or_not, all_or_fails}
use Rattle.cd_model.proofs.Logic.{swapped, both_or, maps_or, chosen_decided}
use Rattle.cd_model.proofs.Regulars.{Decides, fits_decides}
use Rattle.cd_model.proofs.Sequences.{EachItem, each_of_atom, each_with_item, are_decided}

abbrev pub DecidesLabels : {X : Type 0} → Labelled X → Type 0
DecidesLabels {X} labelled = (label : Name) (field : FieldOf X) → labelled label field true ⊎ labelled label field false

abbrev pub DecidesArrows : {X : Type 0} → Mapping X → Type 0
DecidesArrows {X} mapping = (argument result : X) → mapping argument result true ⊎ mapping argument result false

-- a record has fields at these labels alone: at any other it is as a type says whose field may be absent
abbrev EndsAfter : {X : Type 0} → List Name → Labelled X → Type 0
EndsAfter {X} names labelled = (label : Name)
    → IsOneOf names label ⊎ ((field : FieldOf X) → field.optional ≡ true → labelled label field true)

-- all three hold, or one of those that stand against them
three_or : {A B C D E F : Type 0} → A ⊎ B → C ⊎ D → E ⊎ F → (A × C × E) ⊎ (B ⊎ D ⊎ F)
three_or (inl a) (inl c) (inl e) = inl (a, c, e)
three_or (inl a) (inl c) (inr f) = inr (inr (inr f))
three_or (inl a) (inr d) last = inr (inr (inl d))
three_or (inr b) other last = inr (inl b)

-- the labels of a record
abbrev pub labels_of : Fields → List Name
labels_of NoField = []
labels_of (Field label is rest) = label ∷ labels_of rest

module _ {X : Type 0} where
  abbrev EachDecides : Items (Answers X) → Type 0
  EachDecides = EachItem (λ (one : Answers X). Decides one)

  pub head_decided : (read : Reader X) → Decides read → (head : Option (Head X)) → at_head read head true ⊎ at_head read head false
  head_decided read decides None = inr refl
  head_decided read decides (Some head) = decides head

  integer_decides : (n : ℤ) → Decides (integer_at {X = X} n)
  integer_decides n (Integers set) = cases_Bool (set n)
  integer_decides n _ = inr refl

  character_decides : (c : ℕ) → Decides (character_at {X = X} c)
  character_decides c (Characters set) = cases_Bool (set c)
  character_decides c _ = inr refl

  atom_decides : (name : Name) → Decides (atom_at {X = X} name)
  atom_decides name (Atoms set) = cases_Bool (set name)
  atom_decides name _ = inr refl

  pair_decides : (first second : Answers X) → Decides first → Decides second → Decides (pair_at first second)
  pair_decides first second is_first is_second (Products one other) = both_or (is_first one) (is_second other)
  pair_decides first second is_first is_second _ = inr refl

  sequences_decide : (all : Items (Answers X)) (read : Reader X) → EachDecides all → Decides read → Decides (with_sequences all read)
  sequences_decide all read each decides (Sequences r) = are_decided _ (fits r) (fits_decides r) all each
  sequences_decide all read each decides head = decides head

  xml_decides : (tag attributes content : Answers X) → Decides tag → Decides attributes → Decides content
      → Decides (xml_at tag attributes content)
  xml_decides tag attributes content is_tag is_attributes is_content (Xmls one other last) =
      three_or (is_tag one) (is_attributes other) (is_content last)
  xml_decides tag attributes content is_tag is_attributes is_content _ = inr refl

  function_decides : (mapping : Mapping X) → DecidesArrows mapping → Decides (function_at mapping)
  function_decides mapping decides (Arrows argument result) = decides argument result
  function_decides mapping decides _ = inr refl

  -- a record fails at one of the labels that the type names or the record has, or else at none
  record_decides : (names : List Name) (labelled : Labelled X) → EndsAfter names labelled → DecidesLabels labelled
      → Decides (record_at labelled)
  record_decides names labelled ends decides (Records named rest) =
      all_or_fails (λ label. labelled label (field_of named rest label)) (λ label. decides label (field_of named rest label))
      (names_of named) names (λ label. others label (named_or_not named rest label) (ends label))
    where
      others : (label : Name) → IsOneOf (names_of named) label ⊎ ((field_of named rest label).optional ≡ true)
          → IsOneOf names label ⊎ ((field : FieldOf X) → field.optional ≡ true → labelled label field true)
          → IsOneOf (names_of named) label ⊎ IsOneOf names label ⊎ labelled label (field_of named rest label) true
      others label (inl one) there = inl one
      others label (inr free) (inl one) = inr (inl one)
      others label (inr free) (inr absent) = inr (inr (absent (field_of named rest label) free))
  record_decides names labelled ends decides _ = inr refl

module _ {X : Type 0} (at : Presentation X) (closed : ℕ → Mapping X) where
  fields_end : (fields : Fields) → EndsAfter (labels_of fields) (labelled at closed fields)
  fields_end NoField label = inr (λ field free. free)
  fields_end (Field name is rest) label = by_name (cases_Bool (bytes_eq name label)) (fields_end rest label)
    where
      by_name : (bytes_eq name label ≡ true) ⊎ (bytes_eq name label ≡ false)
          → IsOneOf (labels_of rest) label ⊎ ((field : FieldOf X) → field.optional ≡ true → labelled at closed rest label field true)
          → IsOneOf (name ∷ labels_of rest) label
          ⊎ ((field : FieldOf X) → field.optional ≡ true → labelled at closed (Field name is rest) label field true)
      by_name (inl same) later = inl (inl ((bytes_eq-Decides name label).0 same))
      by_name (inr other) (inl one) = inl (inr one)
      by_name (inr other) (inr absent) = inr (λ field free. rw other (absent field free))

module _ {X : Type 0} (at : Presentation X) (keeps : (read : Reader X) → Decides read → Decides (at read))
    (closed : ℕ → Mapping X) (closed_decides : (function : ℕ) → DecidesArrows (closed function)) where
  mutual
    thing_decides : (is : Thing) → Decides (reader at closed is)
    thing_decides (Integer n) = integer_decides n
    thing_decides (Character c) = character_decides c
    thing_decides (Atom name) = sequences_decide (items_of_atom name) (atom_at name) (each_of_atom _ name) (atom_decides name)
    thing_decides (Pair first second) =
        sequences_decide (with_item (answers at closed first) (items at closed second))
        (pair_at (answers at closed first) (answers at closed second))
        (each_with_item _ (items at closed second) (keeps (reader at closed first) (thing_decides first)) (items_decide second))
        (pair_decides (answers at closed first) (answers at closed second)
        (keeps (reader at closed first) (thing_decides first)) (keeps (reader at closed second) (thing_decides second)))
    thing_decides (Xml tag attributes content) =
        xml_decides (answers at closed tag) (answers at closed attributes) (answers at closed content)
        (keeps (reader at closed tag) (thing_decides tag)) (keeps (reader at closed attributes) (thing_decides attributes))
        (keeps (reader at closed content) (thing_decides content))
    thing_decides (Record fields) =
        record_decides (labels_of fields) (labelled at closed fields) (fields_end at closed fields) (fields_decide fields)
    thing_decides (Function pairs) = function_decides (mapping at closed pairs) (pairs_decide pairs)
    thing_decides (Closure function environment) = function_decides (closed function) (closed_decides function)

    items_decide : (is : Thing) → EachItem (λ (one : Answers X). Decides one) (items at closed is)
    items_decide (Atom name) = each_of_atom _ name
    items_decide (Pair first second) =
        each_with_item _ (items at closed second) (keeps (reader at closed first) (thing_decides first)) (items_decide second)
    items_decide _ = tt

    fields_decide : (fields : Fields) → DecidesLabels (labelled at closed fields)
    fields_decide NoField = λ label field. cases_Bool field.optional
    fields_decide (Field name is rest) = λ label field.
        chosen_decided (bytes_eq name label) (keeps (reader at closed is) (thing_decides is) field.type) (fields_decide rest label field)

    pairs_decide : (pairs : Pairs) → DecidesArrows (mapping at closed pairs)
    pairs_decide NoPair = λ argument result. inl refl
    pairs_decide (Maps from to rest) = λ argument result.
        maps_or (keeps (reader at closed from) (thing_decides from) argument)
        (keeps (reader at closed to) (thing_decides to) result) (pairs_decide rest argument result)
    pairs_decide (Fails from rest) = λ argument result.
        both_or (swapped (keeps (reader at closed from) (thing_decides from) argument)) (pairs_decide rest argument result)

  pub answers_decide : (is : Thing) → Decides (answers at closed is)
  answers_decide is = keeps (reader at closed is) (thing_decides is)

-- a closure is no element, and answers false everywhere
pub element_decides : {X : Type 0} (at : Presentation X) → ((read : Reader X) → Decides read → Decides (at read))
    → (is : Thing) → Decides (answers at no_closure is)
element_decides at keeps = answers_decide at keeps no_closure (λ function argument result. inr refl)
