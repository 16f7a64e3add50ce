use Rattle.std.proofs.Common.{◌≡◌, [], map, reverse, length}
use Rattle.cd_program.specs.PlainExpr.{plain}
use Rattle.cd_query.specs.Core.{path}
use Rattle.cd_query.specs.PlainParts.{plain_step}
use Rattle.cd_parser.specs.Paths.{led}
use Rattle.cd_parser.proofs.paths.all_steps.Given as goal

-- the steps that are left lead where all lead
abbrev pub invariant-loop-step : goal.invariant-loop-step
invariant-loop-step l =
    led l.fn.here l.reached (reverse (map plain_step l.steps.items))
    ≡ path l.fn.here l.fn.here (plain l.fn.first.value) [] (reverse (map plain_step l.fn.steps.items))

abbrev pub decreases-loop-step : goal.decreases-loop-step
decreases-loop-step l = length l.steps.items
