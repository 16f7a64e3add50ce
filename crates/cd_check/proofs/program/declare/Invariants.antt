use Rattle.std.proofs.Common.{◌≡◌, ◌++◌, drop, map}
use Rattle.cd_program.specs.PlainExpr.{plain_function}
use Rattle.cd_check.specs.Inner.FunctionNames.{function_names}
use Rattle.cd_check.proofs.program.declare.Given as goal

-- the names so far, and those of the rest, are those of all
abbrev pub invariant-loop-function : goal.invariant-loop-function
invariant-loop-function l = l.names ++ function_names (map plain_function (drop l.function-index l.functions))
    ≡ function_names (map plain_function l.functions)
