use Rattle.std.proofs.Common.{◌≡◌, map, drop}
use Rattle.cd_program.specs.PlainExpr.{plain_interface, plain_signature}
use Rattle.cd_names.specs.Inner.FindingInPrograms.{with_types}
use Rattle.cd_names.specs.Inner.PlainFound.{plain_found}
use Rattle.cd_names.proofs.function.add_types.Given as goal

-- to go on from here gives what the whole gives from the start
abbrev pub invariant-loop-arrow : goal.invariant-loop-arrow
invariant-loop-arrow l = with_types (map plain_signature (drop l.arrow-index l.arrow-items))
    (plain_found l.found)
    ≡ with_types (plain_interface l.fn.interface) (plain_found l.fn.found)
