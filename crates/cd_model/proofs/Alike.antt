-- Every thing answers alike at types that stand for each other.
use Rattle.std.proofs.Common.{ℤ, ℕ, Bool, true, false, Option, ◌↔◌, bytes_eq}
use Rattle.cd_syntax.specs.Name.{Name}
use Rattle.cd_model.specs.Alike as heads
use Rattle.cd_model.specs.Alike.{Standing, FieldsStand, HeadsIfAny, ReadAlike, AnswerAlike, MapAlike, PresentAlike}
use Rattle.cd_model.specs.Thing.{Thing, Integer, Character, Atom, Pair, Xml, Record, Function, Closure, Fields, NoField, Field, Pairs, NoPair, Maps, Fails}
use Rattle.cd_model.specs.Types.{FieldOf, field_of, Head, Items, Answers, Reader, Presentation, Labelled, Mapping, at_head, items_of_atom, with_item, fits, integer_at, character_at, atom_at, pair_at, with_sequences, xml_at, record_at, function_at, reader, items, labelled, mapping, answers}
use Rattle.cd_model.proofs.BothWays.{itself, same_as, both_agree, three_agree, one_agrees, each_agrees, some_agrees, chosen_agree}
use Rattle.cd_model.proofs.Regulars.{fits_alike}
use Rattle.cd_model.proofs.Sorts.{Sort}
use Rattle.cd_model.proofs.Sequences.{ItemsAlike, alike_of_atom, alike_with_item, are_alike}

module _ {X Y : Type 0} (Stands : Standing X Y) where
  abbrev LabelAlike : Labelled X → Labelled Y → Type 0
  LabelAlike one other = (label : Name) (x : FieldOf X) (y : FieldOf Y) → FieldsStand Stands x y → (answer : Bool)
      → one label x answer ↔ other label y answer

  abbrev EachAlike : Items (Answers X) → Items (Answers Y) → Type 0
  EachAlike = ItemsAlike (λ (one : Answers X) (other : Answers Y). AnswerAlike Stands one other)

  pub head_alike : (one : Reader X) (other : Reader Y) → ReadAlike Stands one other → (first : Option (Head X)) (second : Option (Head Y))
      → HeadsIfAny Stands first second → (answer : Bool) → at_head one first answer ↔ at_head other second answer
  head_alike one other alike _ _ heads.neither answer = itself
  head_alike one other alike _ _ (heads.both first second stands) answer = alike first second stands answer

  integer_alike : (n : ℤ) → ReadAlike Stands (integer_at n) (integer_at n)
  integer_alike n _ _ (heads.integers one other same) answer = same_as answer (same n)
  integer_alike n _ _ _ answer = itself

  character_alike : (n : ℕ) → ReadAlike Stands (character_at n) (character_at n)
  character_alike n _ _ (heads.characters one other same) answer = same_as answer (same n)
  character_alike n _ _ _ answer = itself

  atom_alike : (name : Name) → ReadAlike Stands (atom_at name) (atom_at name)
  atom_alike name _ _ (heads.atoms one other same) answer = same_as answer (same name)
  atom_alike name _ _ _ answer = itself

  pair_alike : (one other : Answers X) (with_one with_other : Answers Y) → AnswerAlike Stands one with_one
      → AnswerAlike Stands other with_other → ReadAlike Stands (pair_at one other) (pair_at with_one with_other)
  pair_alike one other with_one with_other first second _ _ (heads.products a b c d is_a is_b) true =
      both_agree (first a c is_a true) (second b d is_b true)
  pair_alike one other with_one with_other first second _ _ (heads.products a b c d is_a is_b) false =
      one_agrees (first a c is_a false) (second b d is_b false)
  pair_alike one other with_one with_other first second _ _ _ answer = itself

  sequences_alike : (all : Items (Answers X)) (one : Reader X) (with_all : Items (Answers Y)) (other : Reader Y)
      → EachAlike all with_all → ReadAlike Stands one other → ReadAlike Stands (with_sequences all one) (with_sequences with_all other)
  sequences_alike all one with_all other each alike _ _ (heads.sequences r s is) answer =
      are_alike _ (fits r) (fits s) (fits_alike Stands r s is) all with_all each answer
  sequences_alike all one with_all other each alike _ _ (heads.integers a b same) answer = alike _ _ (heads.integers a b same) answer
  sequences_alike all one with_all other each alike _ _ (heads.characters a b same) answer = alike _ _ (heads.characters a b same) answer
  sequences_alike all one with_all other each alike _ _ (heads.atoms a b same) answer = alike _ _ (heads.atoms a b same) answer
  sequences_alike all one with_all other each alike _ _ (heads.products a b c d is_a is_b) answer =
      alike _ _ (heads.products a b c d is_a is_b) answer
  sequences_alike all one with_all other each alike _ _ (heads.xmls a b c d e f is_a is_b is_c) answer =
      alike _ _ (heads.xmls a b c d e f is_a is_b is_c) answer
  sequences_alike all one with_all other each alike _ _ (heads.records a b c d same) answer = alike _ _ (heads.records a b c d same) answer
  sequences_alike all one with_all other each alike _ _ (heads.arrows a b c d is_a is_b) answer =
      alike _ _ (heads.arrows a b c d is_a is_b) answer

  xml_alike : (one other last : Answers X) (with_one with_other with_last : Answers Y) → AnswerAlike Stands one with_one
      → AnswerAlike Stands other with_other → AnswerAlike Stands last with_last
      → ReadAlike Stands (xml_at one other last) (xml_at with_one with_other with_last)
  xml_alike one other last with_one with_other with_last first second third _ _ (heads.xmls a b c d e f is_a is_b is_c) true =
      three_agree (first a d is_a true) (second b e is_b true) (third c f is_c true)
  xml_alike one other last with_one with_other with_last first second third _ _ (heads.xmls a b c d e f is_a is_b is_c) false =
      one_agrees (first a d is_a false) (one_agrees (second b e is_b false) (third c f is_c false))
  xml_alike one other last with_one with_other with_last first second third _ _ _ answer = itself

  record_alike : (one : Labelled X) (other : Labelled Y) → LabelAlike one other → ReadAlike Stands (record_at one) (record_at other)
  record_alike one other alike _ _ (heads.records named rest named' rest' same) true =
      each_agrees _ _ (λ label. alike label (field_of named rest label) (field_of named' rest' label) (same label) true)
  record_alike one other alike _ _ (heads.records named rest named' rest' same) false =
      some_agrees _ _ (λ label. alike label (field_of named rest label) (field_of named' rest' label) (same label) false)
  record_alike one other alike _ _ _ answer = itself

  function_alike : (one : Mapping X) (other : Mapping Y) → MapAlike Stands one other → ReadAlike Stands (function_at one) (function_at other)
  function_alike one other alike _ _ (heads.arrows a b c d is_a is_b) answer = alike a b c d is_a is_b answer
  function_alike one other alike _ _ _ answer = itself

module _ {X Y : Type 0} (sort : Sort) (Stands : Standing X Y) (at : Presentation X) (for : Presentation Y)
    (closed : ℕ → Mapping X) (closing : ℕ → Mapping Y) (present : PresentAlike sort.Of Stands at for closed closing)
    (closures : (function : ℕ) → MapAlike Stands (closed function) (closing function)) where
  mutual
    pub reads_alike : (is : Thing) → sort.Of is → ReadAlike Stands (reader at closed is) (reader for closing is)
    reads_alike (Integer n) of = integer_alike Stands n
    reads_alike (Character c) of = character_alike Stands c
    reads_alike (Atom name) of = sequences_alike Stands (items_of_atom name) (atom_at name) (items_of_atom name) (atom_at name)
        (alike_of_atom _ name) (atom_alike Stands name)
    reads_alike (Pair first second) of = sequences_alike Stands
        (with_item (answers at closed first) (items at closed second)) (pair_at (answers at closed first) (answers at closed second))
        (with_item (answers for closing first) (items for closing second)) (pair_at (answers for closing first) (answers for closing second))
        (alike_with_item _ (items at closed second) (items for closing second)
        (present first parts.0 (reads_alike first parts.0)) (items_alike second parts.1))
        (pair_alike Stands (answers at closed first) (answers at closed second) (answers for closing first) (answers for closing second)
        (present first parts.0 (reads_alike first parts.0)) (present second parts.1 (reads_alike second parts.1)))
      where
        parts : sort.Of first × sort.Of second
        parts = sort.pair first second of
    reads_alike (Xml tag attributes content) of = xml_alike Stands
        (answers at closed tag) (answers at closed attributes) (answers at closed content)
        (answers for closing tag) (answers for closing attributes) (answers for closing content)
        (present tag parts.0 (reads_alike tag parts.0)) (present attributes parts.1 (reads_alike attributes parts.1))
        (present content parts.2 (reads_alike content parts.2))
      where
        parts : sort.Of tag × sort.Of attributes × sort.Of content
        parts = sort.xml tag attributes content of
    reads_alike (Record fields) of = record_alike Stands (labelled at closed fields) (labelled for closing fields)
        (fields_alike fields (sort.fields fields of))
    reads_alike (Function pairs) of = function_alike Stands (mapping at closed pairs) (mapping for closing pairs)
        (pairs_alike pairs (sort.pairs pairs of))
    reads_alike (Closure function environment) of = function_alike Stands (closed function) (closing function) (closures function)

    items_alike : (is : Thing) → sort.Of is
        → ItemsAlike (λ (one : Answers X) (other : Answers Y). AnswerAlike Stands one other) (items at closed is) (items for closing is)
    items_alike (Atom name) of = alike_of_atom _ name
    items_alike (Pair first second) of = alike_with_item _ (items at closed second) (items for closing second)
        (present first parts.0 (reads_alike first parts.0)) (items_alike second parts.1)
      where
        parts : sort.Of first × sort.Of second
        parts = sort.pair first second of
    items_alike _ of = tt

    fields_alike : (fields : Fields) → sort.OfFields fields
        → LabelAlike Stands (labelled at closed fields) (labelled for closing fields)
    fields_alike NoField of = λ label x y field answer. same_as answer field.optional
    fields_alike (Field name is rest) of = λ label x y field answer. chosen_agree (bytes_eq name label)
        (present is parts.0 (reads_alike is parts.0) x.type y.type field.type answer)
        (fields_alike rest parts.1 label x y field answer)
      where
        parts : sort.Of is × sort.OfFields rest
        parts = sort.field name is rest of

    pub pairs_alike : (pairs : Pairs) → sort.OfPairs pairs → MapAlike Stands (mapping at closed pairs) (mapping for closing pairs)
    pairs_alike NoPair of = λ a b c d is_a is_b answer. itself
    pairs_alike (Maps from to rest) of = λ a b c d is_a is_b.
        let parts = sort.maps from to rest of in
        let from_alike = present from parts.0 (reads_alike from parts.0) a c is_a in
        let to_alike = present to parts.1 (reads_alike to parts.1) b d is_b in
        let rest_alike = pairs_alike rest parts.2 a b c d is_a is_b in
        elim [
          | true ↦ both_agree (one_agrees (from_alike false) (to_alike true)) (rest_alike true)
          | false ↦ one_agrees (both_agree (from_alike true) (to_alike false)) (rest_alike false)
        ]
    pairs_alike (Fails from rest) of = λ a b c d is_a is_b.
        let parts = sort.fails from rest of in
        let from_alike = present from parts.0 (reads_alike from parts.0) a c is_a in
        let rest_alike = pairs_alike rest parts.1 a b c d is_a is_b in
        elim [
          | true ↦ both_agree (from_alike false) (rest_alike true)
          | false ↦ one_agrees (from_alike true) (rest_alike false)
        ]

  pub answers_alike : (is : Thing) → sort.Of is → AnswerAlike Stands (answers at closed is) (answers for closing is)
  answers_alike is of = present is of (reads_alike is of)
