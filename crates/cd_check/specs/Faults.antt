-- Faults of typing, as errors report them.
use Rattle.std.specs.Prelude.{ℕ, List}
use Rattle.cd_model.specs.Thing.{Thing}
use Rattle.cd_elements.specs.Table.{Names, element_at}
use Rattle.cd_typing.specs.declared.rule.Rule.{Rule}
use Rattle.cd_check.specs.declared.fault.CheckError.{CheckError}
use Rattle.cd_check.specs.declared.fault.CheckError.TheVariants.{IllTyped, Memory}

-- the error reports the place, the rule and the element of a fault; the element is one of the table
abbrev pub Reports : List Thing → (fault : (at : ℕ) → Rule → Thing → Type 0) → CheckError → Type 0
Reports table fault (IllTyped is) =
    Names table is.element × fault is.at is.rule (element_at table is.element)
Reports table fault Memory = Unit {0}
