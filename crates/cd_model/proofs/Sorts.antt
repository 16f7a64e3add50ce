-- Sorts of things: those whose parts are of the same sort.
use Rattle.cd_syntax.specs.Name.{Name}
use Rattle.cd_model.specs.Thing.{Thing, Pair, Xml, Record, Function, Fields, Field, Pairs, Maps, Fails, IsElement, AreFields, ArePairs, IsValue, AreValues}

pub record Sort : Type 1 where
  pub Of : Thing → Type 0
  pub OfFields : Fields → Type 0
  pub OfPairs : Pairs → Type 0
  pub pair : (first second : Thing) → Of (Pair first second) → Of first × Of second
  pub xml : (tag attributes content : Thing) → Of (Xml tag attributes content) → Of tag × Of attributes × Of content
  pub fields : (fields : Fields) → Of (Record fields) → OfFields fields
  pub pairs : (pairs : Pairs) → Of (Function pairs) → OfPairs pairs
  pub field : (label : Name) (value : Thing) (rest : Fields) → OfFields (Field label value rest) → Of value × OfFields rest
  pub maps : (argument result : Thing) (rest : Pairs) → OfPairs (Maps argument result rest)
      → Of argument × Of result × OfPairs rest
  pub fails : (argument : Thing) (rest : Pairs) → OfPairs (Fails argument rest) → Of argument × OfPairs rest

abbrev pub all_things : Sort
all_things = record {
  Of = λ is. Unit {0};
  OfFields = λ fields. Unit {0};
  OfPairs = λ pairs. Unit {0};
  pair = λ first second h. (tt, tt);
  xml = λ tag attributes content h. (tt, tt, tt);
  fields = λ fields h. tt;
  pairs = λ pairs h. tt;
  field = λ label value rest h. (tt, tt);
  maps = λ argument result rest h. (tt, tt, tt);
  fails = λ argument rest h. (tt, tt);
}

abbrev pub elements : Sort
elements = record {
  Of = IsElement;
  OfFields = AreFields;
  OfPairs = ArePairs;
  pair = λ first second h. h;
  xml = λ tag attributes content h. (h.2, h.3, h.4);
  fields = λ fields h. h.1;
  pairs = λ pairs h. h;
  field = λ label value rest h. (h.1, h.2);
  maps = λ argument result rest h. h;
  fails = λ argument rest h. h;
}

abbrev pub values : Sort
values = record {
  Of = IsValue;
  OfFields = AreValues;
  OfPairs = λ pairs. ⊥;
  pair = λ first second h. h;
  xml = λ tag attributes content h. (h.2, h.3, h.4);
  fields = λ fields h. h.1;
  pairs = λ pairs h. h;
  field = λ label value rest h. (h.1, h.2);
  maps = λ argument result rest h. absurd h;
  fails = λ argument rest h. absurd h;
}
