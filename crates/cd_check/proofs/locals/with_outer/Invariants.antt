use Rattle.std.proofs.Common.{◌≡◌, ◌++◌, drop}
use Rattle.cd_check.proofs.locals.with_outer.Given as goal

abbrev pub invariant-loop-name : goal.invariant-loop-name
invariant-loop-name l = l.all.items ++ drop l.name-index l.outer ≡ l.fn.own.items ++ l.outer
