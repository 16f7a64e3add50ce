-- Data: it is an element and a value, has no closures, and stands for itself; and a value in the type of data is data.
use Rattle.std.proofs.Common.{ℕ, []}
use Rattle.cd_model.specs.BuiltIns.{built_ins}
use Rattle.cd_model.specs.Formula.{Graph, nodes}
use Rattle.cd_model.specs.Interfaces.{Interfaces, admits}
use Rattle.cd_model.specs.Thing.{Thing, Integer, Character, Atom, Pair, Xml, Record, Function, Closure, Fields, NoField, Field}
use Rattle.cd_model.specs.Thing.{IsElement, IsValue, IsData, AreData}
use Rattle.cd_model.specs.Types.{closure_maps}
use Rattle.cd_model.proofs.BuiltIns.{values_are_sound, data_are}
use Rattle.cd_model.proofs.Closures.{none_in_data, data_are_values}
use Rattle.cd_safety.specs.OfInterface.{HasArrows}
use Rattle.cd_safety.specs.Sound.{data_type, IsSound, AreSound, IsGood}
use Rattle.cd_safety.specs.StandsIn as stand
use Rattle.cd_safety.specs.StandsIn.{StandsIn, FieldsStandIn}
use Rattle.cd_safety.specs.ValueIn.{ValueIn}

module _ (fact : ℕ → Fields → Type 0) where
  mutual
    data_is_sound : (v : Thing) → IsData v → IsSound fact v
    data_is_sound (Integer n) is = tt
    data_is_sound (Character c) is = tt
    data_is_sound (Atom name) is = tt
    data_is_sound (Pair first second) is = (data_is_sound first is.0, data_is_sound second is.1)
    data_is_sound (Xml tag attributes content) is =
        (data_is_sound tag is.0, data_is_sound attributes is.1, data_is_sound content is.2)
    data_is_sound (Record fields) is = data_are_sound fields is
    data_is_sound (Function pairs) is = absurd is
    data_is_sound (Closure function env) is = absurd is

    data_are_sound : (fields : Fields) → AreData fields → AreSound fact fields
    data_are_sound NoField are = tt
    data_are_sound (Field label v rest) are = (data_is_sound v are.0, data_are_sound rest are.1)

  pub data_is_good : (interfaces : Interfaces) (v : Thing) → IsElement v → IsData v → IsGood fact interfaces v
  data_is_good interfaces v element is = record {
    typed = record {
      is_value = data_are_values v element is;
      have_arrows = none_in_data (HasArrows interfaces) v is;
    };
    sound = data_is_sound v is;
  }

module _ (graph : Graph) (interfaces : Interfaces) where
  mutual
    pub data_stands : (v : Thing) → IsData v → StandsIn graph interfaces v v
    data_stands (Integer n) is = stand.integer n
    data_stands (Character c) is = stand.character c
    data_stands (Atom name) is = stand.atom name
    data_stands (Pair first second) is =
        stand.pair first second first second (data_stands first is.0) (data_stands second is.1)
    data_stands (Xml tag attributes content) is = stand.xml tag attributes content tag attributes content
        (data_stands tag is.0) (data_stands attributes is.1) (data_stands content is.2)
    data_stands (Record fields) is = stand.of_fields fields fields (fields_stand fields is)
    data_stands (Function pairs) is = absurd is
    data_stands (Closure function env) is = absurd is

    fields_stand : (fields : Fields) → AreData fields → FieldsStandIn graph interfaces fields fields
    fields_stand NoField are = stand.no_field
    fields_stand (Field label v rest) are = stand.field label v v rest rest (data_stands v are.0) (fields_stand rest are.1)

pub value_is_data : (interfaces : Interfaces) (v : Thing) → IsValue v → ValueIn interfaces data_type v → IsData v
value_is_data interfaces v is inside =
    (data_are [] (closure_maps (nodes built_ins) (admits interfaces)) v (values_are_sound v is)).0 inside
