use Rattle.std.proofs.Common.{◌≡◌}
use Rattle.cd_rules.proofs.FreshLabels.{row_of_a}
use Rattle.cd_members.proofs.fresh.row_of_a.Given as goal

-- one, and so many more
abbrev pub invariant-loop : goal.invariant-loop
invariant-loop l = l.row.items ≡ row_of_a l.counter
