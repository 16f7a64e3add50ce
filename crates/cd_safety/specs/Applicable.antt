-- A closure that may be applied by the typing rule of application.
use Rattle.std.specs.Prelude.{ℕ, List}
use Rattle.cd_model.specs.Interfaces.{Interfaces}
use Rattle.cd_model.specs.Thing.{Closure, Fields, AreValues}
use Rattle.cd_meaning.specs.Functions.{AllMapInto}
use Rattle.cd_typing.specs.Interfaces.{Arrow}
use Rattle.cd_typing.specs.Typ.{Typ, In, IsType}
use Rattle.cd_safety.specs.OfInterface.{AreArrowsOf}
use Rattle.cd_safety.specs.ValueIn.{ValueIn}

-- a closure with these arrows is in `self`, all functions of which map `s` into `result`
pub record IsApplicable (interfaces : Interfaces) (function : ℕ) (environment : Fields)
    (arrows : List Arrow) (self s result : Typ) : Type 0 where
  pub are_values : AreValues environment
  pub are_arrows : AreArrowsOf interfaces function arrows
  pub self_is : IsType self
  pub s_is : IsType s
  pub result_is : IsType result
  pub all_map : AllMapInto (In self) (In s) (In result)
  pub inside : ValueIn interfaces self (Closure function environment)
