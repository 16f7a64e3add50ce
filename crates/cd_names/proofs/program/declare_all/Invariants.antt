use Rattle.std.proofs.Common.{◌≡◌, ◌++◌, map, drop}
use Rattle.cd_program.specs.PlainExpr.{plain_function}
use Rattle.cd_program.specs.PlainProgram.{plain_functions}
use Rattle.cd_names.specs.ProgramFaults.{declared_names}
use Rattle.cd_names.specs.Inner.FindingInPrograms.{again, names_declared}
use Rattle.cd_names.specs.Inner.PlainFound.{plain_found}
use Rattle.cd_names.proofs.program.declare_all.Given as goal

-- to go on from here gives what the whole gives from the start
abbrev pub invariant-loop-function : goal.invariant-loop-function
invariant-loop-function l =
    (l.functions ++ names_declared (map plain_function (drop l.function-index l.function-items))
    ≡ l.fn.functions ++ names_declared (plain_functions l.declared))
    × (again l.functions
    (declared_names (map plain_function (drop l.function-index l.function-items)))
    (plain_found l.found)
    ≡ again l.fn.functions (declared_names (plain_functions l.declared)) (plain_found l.fn.found))
