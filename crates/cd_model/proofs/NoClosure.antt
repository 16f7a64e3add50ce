-- How closures map makes no difference to a thing that holds none, whatever types are.
use Rattle.std.proofs.Common.{◌≡◌, ℕ, Bool, true, false, refl, sym, ◌⊎◌, ◌↔◌, bytes_eq}
use Rattle.std.proofs.Math.Path.{transport}
use Rattle.cd_model.specs.Thing.{Thing, Integer, Character, Atom, Pair, Xml, Record, Function, Closure, Fields, NoField, Field, Pairs, NoPair, Maps, Fails, EachClosure, EachOfFields, EachOfPairs, IsData}
use Rattle.cd_model.specs.Types.{Presentation, Mapping, Admits, chosen, with_item, pair_at, with_sequences, xml_at, record_at, function_at, reader, items, labelled, mapping, answers, no_closure, closure_maps}
use Rattle.cd_model.proofs.Closures.{none_in_data}

both_ways : {A B : Type 0} → A ≡ B → A ↔ B
both_ways same = (transport same, transport (sym same))

module _ {X : Type 0} (at : Presentation X) (one other : ℕ → Mapping X) where
  abbrev None : ℕ → Type 0
  None function = ⊥

  maps_same : (from to : Thing) (rest : Pairs) → reader at one from ≡ reader at other from → reader at one to ≡ reader at other to
      → mapping at one rest ≡ mapping at other rest → (argument result : X) (answer : Bool)
      → mapping at one (Maps from to rest) argument result answer ≡ mapping at other (Maps from to rest) argument result answer
  maps_same from to rest first second others argument result true = λ i.
      (at (first i) argument false ⊎ at (second i) result true) × others i argument result true
  maps_same from to rest first second others argument result false = λ i.
      (at (first i) argument true × at (second i) result false) ⊎ others i argument result false

  fails_same : (from : Thing) (rest : Pairs) → reader at one from ≡ reader at other from
      → mapping at one rest ≡ mapping at other rest → (argument result : X) (answer : Bool)
      → mapping at one (Fails from rest) argument result answer ≡ mapping at other (Fails from rest) argument result answer
  fails_same from rest first others argument result true = λ i. at (first i) argument false × others i argument result true
  fails_same from rest first others argument result false = λ i. at (first i) argument true ⊎ others i argument result false

  mutual
    reader_same : (is : Thing) → EachClosure None is → reader at one is ≡ reader at other is
    reader_same (Integer n) none = refl
    reader_same (Character c) none = refl
    reader_same (Atom name) none = refl
    reader_same (Pair first second) none = λ i.
        with_sequences (with_item (at (reader_same first none.0 i)) (items_same second none.1 i))
        (pair_at (at (reader_same first none.0 i)) (at (reader_same second none.1 i)))
    reader_same (Xml tag attributes content) none = λ i.
        xml_at (at (reader_same tag none.0 i)) (at (reader_same attributes none.1 i)) (at (reader_same content none.2 i))
    reader_same (Record fields) none = λ i. record_at (labels_same fields none i)
    reader_same (Function pairs) none = λ i. function_at (pairs_same pairs none i)
    reader_same (Closure function environment) none = absurd none

    items_same : (is : Thing) → EachClosure None is → items at one is ≡ items at other is
    items_same (Pair first second) none = λ i. with_item (at (reader_same first none.0 i)) (items_same second none.1 i)
    items_same _ none = refl

    labels_same : (fields : Fields) → EachOfFields None fields → labelled at one fields ≡ labelled at other fields
    labels_same NoField none = refl
    labels_same (Field name is rest) none = λ i label field answer.
        chosen (bytes_eq name label) (at (reader_same is none.0 i) field.type answer) (labels_same rest none.1 i label field answer)

    pairs_same : (pairs : Pairs) → EachOfPairs None pairs → mapping at one pairs ≡ mapping at other pairs
    pairs_same NoPair none = refl
    pairs_same (Maps from to rest) none = λ i argument result answer. maps_same from to rest
        (reader_same from none.0) (reader_same to none.1) (pairs_same rest none.2) argument result answer i
    pairs_same (Fails from rest) none = λ i argument result answer.
        fails_same from rest (reader_same from none.0) (pairs_same rest none.1) argument result answer i

pub data_same : {X : Type 0} (at : Presentation X) (admits : Admits) (is : Thing) (x : X) (answer : Bool) → IsData is
    → answers at (closure_maps at admits) is x answer ↔ answers at no_closure is x answer
data_same at admits is x answer data_is =
    both_ways (λ i. at (reader_same at (closure_maps at admits) no_closure is (none_in_data _ is data_is) i) x answer)
