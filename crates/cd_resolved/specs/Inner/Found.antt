-- That functions and patterns are those of a program, by their places.
use Rattle.std.specs.Prelude.{◌≡◌, map}
use Rattle.cd_program.specs.Expr.{Program}
use Rattle.cd_program.specs.PlainProgram.{plain_program}
use Rattle.cd_placed.specs.Patterns.{all_patterns, start_of}
use Rattle.cd_resolved.specs.Inner.Numbers.{AreNumbers}
use Rattle.cd_resolved.specs.declared.found.Found.{Found}

pub record IsFound (program : Program) (found : Found) : Type 0 where
  pub program_is : plain_program found.functions ≡ program
  pub starts : AreNumbers (map start_of (all_patterns program)) found.starts
