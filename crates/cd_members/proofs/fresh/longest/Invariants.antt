use Rattle.std.proofs.Common.{◌≡◌, max, map, drop}
use Rattle.cd_rules.proofs.FreshLabels.{longest}
use Rattle.cd_members.proofs.fresh.longest.Given as goal

-- so far, with what is left, it is the longest of all
abbrev pub invariant-loop-label : goal.invariant-loop-label
invariant-loop-label l = max l.longest (longest (map (λ cell. cell.0) (drop l.label-index l.cells)))
    ≡ longest (map (λ cell. cell.0) l.cells)
