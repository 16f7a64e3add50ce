-- Values in types.
use Rattle.std.specs.Prelude.{true}
use Rattle.cd_model.specs.Interfaces.{Interfaces, value_in_node}
use Rattle.cd_model.specs.Thing.{Thing, IsValue}
use Rattle.cd_typing.specs.Typ.{Typ}
use Rattle.cd_safety.specs.OfInterface.{HaveArrows}

abbrev pub ValueIn : Interfaces → Typ → Thing → Type 0
ValueIn interfaces t v = value_in_node t.graph interfaces v t.id true

-- a value, whose closures have types as the arrows of their interfaces
pub record IsTypedValue (interfaces : Interfaces) (v : Thing) : Type 0 where
  pub is_value : IsValue v
  pub have_arrows : HaveArrows interfaces v
