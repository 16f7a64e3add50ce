-- No thing answers both true and false at a type, whatever types are.
use Rattle.std.proofs.Common.{ℤ, ℕ, true, false, Option, Some, None, inl, inr, sym, bytes_eq}
use Rattle.std.proofs.lemmas.Bool.{true≢false}
use Rattle.cd_syntax.specs.Name.{Name}
use Rattle.cd_model.specs.Thing.{Thing, Integer, Character, Atom, Pair, Xml, Record, Function, Closure, Fields, NoField, Field, Pairs, NoPair, Maps, Fails}
use Rattle.cd_model.specs.Types.{FieldOf, field_of, Head, Integers, Characters, Atoms, Products, Xmls, Records, Arrows, Sequences, Items, Answers, Reader, Presentation, Labelled, Mapping, Admits, at_head, items_of_atom, with_item, fits, integer_at, character_at, atom_at, pair_at, with_sequences, xml_at, record_at, function_at, reader, items, labelled, mapping, answers, no_closure, closure_maps}
use Rattle.cd_model.proofs.Logic.{one_outcome, chosen_apart, maps_apart, both_apart}
use Rattle.cd_model.proofs.Regulars.{Apart, fits_apart}
use Rattle.cd_model.proofs.Sequences.{EachItem, each_of_atom, each_with_item, are_apart}

abbrev pub ApartAtLabels : {X : Type 0} → Labelled X → Type 0
ApartAtLabels {X} labelled = (label : Name) (field : FieldOf X) → labelled label field true → labelled label field false → ⊥

abbrev pub ApartAtArrows : {X : Type 0} → Mapping X → Type 0
ApartAtArrows {X} mapping = (argument result : X) → mapping argument result true → mapping argument result false → ⊥

module _ {X : Type 0} where
  abbrev EachApart : Items (Answers X) → Type 0
  EachApart = EachItem (λ (one : Answers X). Apart one)

  pub head_apart : (read : Reader X) → Apart read → (head : Option (Head X)) → at_head read head true → at_head read head false → ⊥
  head_apart read apart None is out = true≢false is
  head_apart read apart (Some head) is out = apart head is out

  integer_apart : (n : ℤ) → Apart (integer_at {X = X} n)
  integer_apart n (Integers set) is out = one_outcome _ is out
  integer_apart n _ is out = true≢false is

  character_apart : (c : ℕ) → Apart (character_at {X = X} c)
  character_apart c (Characters set) is out = one_outcome _ is out
  character_apart c _ is out = true≢false is

  atom_apart : (name : Name) → Apart (atom_at {X = X} name)
  atom_apart name (Atoms set) is out = one_outcome _ is out
  atom_apart name _ is out = true≢false is

  pair_apart : (first second : Answers X) → Apart first → Apart second → Apart (pair_at first second)
  pair_apart first second is_first is_second (Products one other) is out = both_apart (is_first one) (is_second other) is out
  pair_apart first second is_first is_second _ is out = true≢false is

  sequences_apart : (all : Items (Answers X)) (read : Reader X) → EachApart all → Apart read → Apart (with_sequences all read)
  sequences_apart all read each apart (Sequences r) is out = are_apart _ (fits r) (fits_apart r) all each is out
  sequences_apart all read each apart head is out = apart head is out

  xml_apart : (tag attributes content : Answers X) → Apart tag → Apart attributes → Apart content
      → Apart (xml_at tag attributes content)
  xml_apart tag attributes content is_tag is_attributes is_content (Xmls one other last) is out =
      elim out [
        | inl miss ↦ is_tag one is.0 miss
        | inr (inl miss) ↦ is_attributes other is.1 miss
        | inr (inr miss) ↦ is_content last is.2 miss
      ]
  xml_apart tag attributes content is_tag is_attributes is_content _ is out = true≢false is

  record_apart : (labelled : Labelled X) → ApartAtLabels labelled → Apart (record_at labelled)
  record_apart labelled apart (Records named rest) is out = apart out.0 (field_of named rest out.0) (is out.0) out.1
  record_apart labelled apart _ is out = true≢false is

  function_apart : (mapping : Mapping X) → ApartAtArrows mapping → Apart (function_at mapping)
  function_apart mapping apart (Arrows argument result) is out = apart argument result is out
  function_apart mapping apart _ is out = true≢false is

module _ {X : Type 0} (at : Presentation X) (keeps : (read : Reader X) → Apart read → Apart (at read))
    (closed : ℕ → Mapping X) (closed_apart : (function : ℕ) → ApartAtArrows (closed function)) where
  mutual
    thing_apart : (is : Thing) → Apart (reader at closed is)
    thing_apart (Integer n) = integer_apart n
    thing_apart (Character c) = character_apart c
    thing_apart (Atom name) = sequences_apart (items_of_atom name) (atom_at name) (each_of_atom _ name) (atom_apart name)
    thing_apart (Pair first second) =
        sequences_apart (with_item (answers at closed first) (items at closed second))
        (pair_at (answers at closed first) (answers at closed second))
        (each_with_item _ (items at closed second) (keeps (reader at closed first) (thing_apart first)) (items_apart second))
        (pair_apart (answers at closed first) (answers at closed second)
        (keeps (reader at closed first) (thing_apart first)) (keeps (reader at closed second) (thing_apart second)))
    thing_apart (Xml tag attributes content) =
        xml_apart (answers at closed tag) (answers at closed attributes) (answers at closed content)
        (keeps (reader at closed tag) (thing_apart tag)) (keeps (reader at closed attributes) (thing_apart attributes))
        (keeps (reader at closed content) (thing_apart content))
    thing_apart (Record fields) = record_apart (labelled at closed fields) (fields_apart fields)
    thing_apart (Function pairs) = function_apart (mapping at closed pairs) (pairs_apart pairs)
    thing_apart (Closure function environment) = function_apart (closed function) (closed_apart function)

    items_apart : (is : Thing) → EachItem (λ (one : Answers X). Apart one) (items at closed is)
    items_apart (Atom name) = each_of_atom _ name
    items_apart (Pair first second) =
        each_with_item _ (items at closed second) (keeps (reader at closed first) (thing_apart first)) (items_apart second)
    items_apart _ = tt

    fields_apart : (fields : Fields) → ApartAtLabels (labelled at closed fields)
    fields_apart NoField = λ label field. one_outcome field.optional
    fields_apart (Field name is rest) = λ label field.
        chosen_apart (bytes_eq name label) (keeps (reader at closed is) (thing_apart is) field.type) (fields_apart rest label field)

    pairs_apart : (pairs : Pairs) → ApartAtArrows (mapping at closed pairs)
    pairs_apart NoPair = λ argument result is out. true≢false (sym out)
    pairs_apart (Maps from to rest) = λ argument result.
        maps_apart (keeps (reader at closed from) (thing_apart from) argument)
        (keeps (reader at closed to) (thing_apart to) result) (pairs_apart rest argument result)
    pairs_apart (Fails from rest) = λ argument result.
        both_apart (λ out is. keeps (reader at closed from) (thing_apart from) argument is out) (pairs_apart rest argument result)

  pub answers_apart : (is : Thing) → Apart (answers at closed is)
  answers_apart is = keeps (reader at closed is) (thing_apart is)

module _ {X : Type 0} (at : Presentation X) (keeps : (read : Reader X) → Apart read → Apart (at read)) where
  pub element_apart : (is : Thing) → Apart (answers at no_closure is)
  element_apart = answers_apart at keeps no_closure (λ function argument result is out. true≢false is)

  pub value_apart : (admits : Admits) (is : Thing) → Apart (answers at (closure_maps at admits) is)
  value_apart admits = answers_apart at keeps (closure_maps at admits) (λ function argument result is out. out is)
