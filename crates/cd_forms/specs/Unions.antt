-- What is in one of some types.
use Rattle.std.specs.Prelude.{List}
use Rattle.cd_model.specs.AllOf.{AnyOf}
use Rattle.cd_meaning.specs.Sets.{Set}
use Rattle.cd_typing.specs.Typ.{Typ, In}

abbrev pub IsInOne : List Typ → Set
IsInOne types e = AnyOf (λ t. In t e) types
