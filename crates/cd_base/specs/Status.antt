use Rattle.std.specs.Prelude.{ℕ}
use Rattle.cd_base.specs.declared.status.Status.{Status}
use Rattle.cd_base.specs.declared.status.Status.TheVariants.{Done, No, Usage, ReadFault, WriteFault}
use Rattle.cd_base.specs.declared.status.Status.TheVariants.{NoMemory, TooLarge, NotUtf8, Lexical}
use Rattle.cd_base.specs.declared.status.Status.TheVariants.{Syntax, TooDeep, Naming, IllTyped}
use Rattle.cd_base.specs.declared.status.Status.TheVariants.{NotBuilt, NotInput, Uncaught, Overflow}
use Rattle.cd_base.specs.declared.status.Status.TheVariants.{Spent}

-- the number that the program ends with
abbrev pub status_number : Status → ℕ
status_number Done = 0
status_number No = 1
status_number Usage = 2
status_number ReadFault = 3
status_number WriteFault = 4
status_number NoMemory = 5
status_number TooLarge = 6
status_number NotUtf8 = 7
status_number Lexical = 8
status_number Syntax = 9
status_number TooDeep = 10
status_number Naming = 11
status_number IllTyped = 12
status_number NotBuilt = 13
status_number NotInput = 14
status_number Uncaught = 15
status_number Overflow = 16
status_number Spent = 17
