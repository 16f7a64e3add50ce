use Rattle.std.proofs.Common.{arith}
use Rattle.std.proofs.lemmas.Int.{ints, to_z-of_z}
use Rattle.cd_syntax.specs.Integer.{LEAST}
use Rattle.cd_sets.proofs.Rising.{rises_append}
use Rattle.cd_sets.proofs.combine.end.Goals as goal

pub returns-clause-order : goal.returns-clause-order
returns-clause-order c =
    let low_fits = c.ranges.low in
    let high_fits = c.ranges.high in
    rw c.in_ok-push.ensures.items (simp to_z-of_z (rises_append LEAST c.args.kept.now.items c.args.low (record { low = c.args.low; high = c.args.high }) c.requires.1 (omega (arith, ints)) (omega (arith, ints))))
