use Rattle.std.proofs.Common.{◌≡◌, ◌++◌, map, length}
use Rattle.cd_variables.specs.PlainOccurrences.{occurring}
use Rattle.cd_names.proofs.locals.Locals.enter_all.Given as goal

-- to go on from here gives what the whole gives from the start
abbrev pub invariant-loop-one : goal.invariant-loop-one
invariant-loop-one l = map occurring l.left.items ++ l.self ≡ map occurring l.fn.all.items
    ++ l.fn.self

abbrev pub decreases-loop-one : goal.decreases-loop-one
decreases-loop-one l = length l.left.items
