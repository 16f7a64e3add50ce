use Rattle.std.proofs.Common.{◌≡◌, drop}
use Rattle.cd_facts.specs.Inner.Rising.{from}
use Rattle.cd_facts.proofs.rising.from_label.Given as goal

-- those from the label on are among the items that are left
abbrev pub invariant-loop-index : goal.invariant-loop-index
invariant-loop-index g l = from l.label (drop l.index l.items) ≡ from l.label l.items
