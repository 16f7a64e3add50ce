use Rattle.std.proofs.Common.{◌≡◌, map, drop}
use Rattle.cd_program.specs.PlainExpr.{plain_function}
use Rattle.cd_program.specs.PlainProgram.{plain_functions}
use Rattle.cd_names.specs.Inner.FindingInPrograms.{found_in_functions}
use Rattle.cd_names.specs.Inner.PlainFound.{plain_found}
use Rattle.cd_names.proofs.program.walk_functions.Given as goal

-- to go on from here gives what the whole gives from the start
abbrev pub invariant-loop-function : goal.invariant-loop-function
invariant-loop-function l = found_in_functions l.base.functions.now
    (map plain_function (drop l.function-index l.function-items)) (plain_found l.found)
    ≡ found_in_functions l.base.functions.now (plain_functions l.functions) (plain_found l.fn.found)
