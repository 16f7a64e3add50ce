use Rattle.std.proofs.Common.{◌≡◌, map, drop}
use Rattle.cd_program.specs.PlainExpr.{plain_function}
use Rattle.cd_resolved.specs.Inner.Collecting.{with_parts_of_all}
use Rattle.cd_resolved.specs.Inner.PlainParts.{plain_parts}
use Rattle.cd_resolved.proofs.parts.program.walk_functions.Given as goal

-- to go on from here gives what the whole gives from the start
abbrev pub invariant-loop-function : goal.invariant-loop-function
invariant-loop-function l =
    with_parts_of_all (map plain_function (drop l.function-index l.functions))
    (plain_parts l.parts)
    ≡ with_parts_of_all (map plain_function l.fn.functions) (plain_parts l.fn.parts)
