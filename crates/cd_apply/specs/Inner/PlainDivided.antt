-- What arrows say of arguments, as plain data.
use Rattle.cd_apply.specs.declared.unsettled.Divided.{Divided as CodeDivided}
use Rattle.cd_apply.specs.Inner.Found.{Divided}

abbrev pub plain_divided : CodeDivided → Divided
plain_divided divided =
    record { results = divided.results; unsettled = divided.unsettled.items }
