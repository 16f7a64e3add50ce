-- Closures of things, and things that hold none.
use Rattle.std.proofs.Common.{ℕ, ◌↔◌}
use Rattle.cd_model.specs.Thing.{Thing, Integer, Character, Atom, Pair, Xml, Record, Function, Closure, Fields, NoField, Field, Pairs, NoPair, Maps, Fails, IsElement, AreFields, ArePairs, IsValue, AreValues, IsData, AreData, EachClosure, EachOfFields, EachOfPairs}
use Rattle.cd_model.proofs.BothWays.{itself, both_agree, three_agree}

-- what holds of each function holds of those in a thing
module _ (fact : ℕ → Type 0) (each : (function : ℕ) → fact function) where
  mutual
    pub every_closure : (is : Thing) → EachClosure fact is
    every_closure (Pair first second) = (every_closure first, every_closure second)
    every_closure (Xml tag attributes content) = (every_closure tag, every_closure attributes, every_closure content)
    every_closure (Record fields) = every_of_fields fields
    every_closure (Function pairs) = every_of_pairs pairs
    every_closure (Closure function environment) = each function
    every_closure _ = tt

    every_of_fields : (fields : Fields) → EachOfFields fact fields
    every_of_fields NoField = tt
    every_of_fields (Field label value rest) = (every_closure value, every_of_fields rest)

    every_of_pairs : (pairs : Pairs) → EachOfPairs fact pairs
    every_of_pairs NoPair = tt
    every_of_pairs (Maps argument result rest) = (every_closure argument, every_closure result, every_of_pairs rest)
    every_of_pairs (Fails argument rest) = (every_closure argument, every_of_pairs rest)

-- an element holds no closure
module _ (fact : ℕ → Type 0) where
  mutual
    pub none_in_element : (is : Thing) → IsElement is → EachClosure fact is
    none_in_element (Pair first second) sound = (none_in_element first sound.0, none_in_element second sound.1)
    none_in_element (Xml tag attributes content) sound =
        (none_in_element tag sound.2, none_in_element attributes sound.3, none_in_element content sound.4)
    none_in_element (Record fields) sound = none_in_fields fields sound.1
    none_in_element (Function pairs) sound = none_in_pairs pairs sound
    none_in_element (Closure function environment) sound = absurd sound
    none_in_element _ sound = tt

    none_in_fields : (fields : Fields) → AreFields fields → EachOfFields fact fields
    none_in_fields NoField sound = tt
    none_in_fields (Field label value rest) sound = (none_in_element value sound.1, none_in_fields rest sound.2)

    pub none_in_pairs : (pairs : Pairs) → ArePairs pairs → EachOfPairs fact pairs
    none_in_pairs NoPair sound = tt
    none_in_pairs (Maps argument result rest) sound =
        (none_in_element argument sound.0, none_in_element result sound.1, none_in_pairs rest sound.2)
    none_in_pairs (Fails argument rest) sound = (none_in_element argument sound.0, none_in_pairs rest sound.1)

  -- nor does data
  mutual
    pub none_in_data : (is : Thing) → IsData is → EachClosure fact is
    none_in_data (Pair first second) data_is = (none_in_data first data_is.0, none_in_data second data_is.1)
    none_in_data (Xml tag attributes content) data_is =
        (none_in_data tag data_is.0, none_in_data attributes data_is.1, none_in_data content data_is.2)
    none_in_data (Record fields) data_is = none_in_data_fields fields data_is
    none_in_data (Function pairs) data_is = absurd data_is
    none_in_data (Closure function environment) data_is = absurd data_is
    none_in_data _ data_is = tt

    none_in_data_fields : (fields : Fields) → AreData fields → EachOfFields fact fields
    none_in_data_fields NoField data_is = tt
    none_in_data_fields (Field label value rest) data_is = (none_in_data value data_is.0, none_in_data_fields rest data_is.1)

-- data is an element where it is a value, and back
mutual
  data_alike : (is : Thing) → IsData is → IsElement is ↔ IsValue is
  data_alike (Integer n) data_is = itself
  data_alike (Character c) data_is = itself
  data_alike (Atom name) data_is = itself
  data_alike (Pair first second) data_is =
      both_agree (data_alike first data_is.0) (data_alike second data_is.1)
  data_alike (Xml tag attributes content) data_is =
      let parts = three_agree (data_alike tag data_is.0) (data_alike attributes data_is.1)
      (data_alike content data_is.2) in (
        λ is. let both = parts.0 (is.2, is.3, is.4) in (is.0, is.1, both.0, both.1, both.2),
        λ is. let both = parts.1 (is.2, is.3, is.4) in (is.0, is.1, both.0, both.1, both.2),
      )
  data_alike (Record fields) data_is = both_agree itself (fields_alike fields data_is)
  data_alike (Function pairs) data_is = absurd data_is
  data_alike (Closure function environment) data_is = absurd data_is

  fields_alike : (fields : Fields) → AreData fields → AreFields fields ↔ AreValues fields
  fields_alike NoField data_is = itself
  fields_alike (Field label value rest) data_is =
      three_agree itself (data_alike value data_is.0) (fields_alike rest data_is.1)

pub data_are_elements : (is : Thing) → IsValue is → IsData is → IsElement is
data_are_elements is sound data_is = (data_alike is data_is).1 sound

pub data_are_values : (is : Thing) → IsElement is → IsData is → IsValue is
data_are_values is sound data_is = (data_alike is data_is).0 sound
