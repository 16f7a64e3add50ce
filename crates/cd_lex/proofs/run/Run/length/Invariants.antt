use Rattle.std.proofs.Common.{◌≡◌, ◌+◌, ◌-◌, ◌≤◌, length, drop}
use Rattle.std.specs.List.{prefix_len}
use Rattle.cd_lex.specs.Inner.Runs.{belongs}
use Rattle.cd_lex.proofs.run.Run.length.Given as goal

abbrev pub invariant-loop-length : goal.invariant-loop-length
invariant-loop-length l =
    (prefix_len (belongs l.fn.self) l.bytes ≡ l.length + prefix_len (belongs l.fn.self)
    (drop l.length l.bytes)) × (l.length ≤ length l.bytes)

abbrev pub decreases-loop-length : goal.decreases-loop-length
decreases-loop-length l = length l.bytes - l.length
