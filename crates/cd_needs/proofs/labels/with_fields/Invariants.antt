use Rattle.std.proofs.Common.{◌≡◌, ◌≤◌, drop, length, map}
use Rattle.cd_graph.specs.PlainFormula.{plain_named}
use Rattle.cd_rules.specs.Rows.{labels_after}
use Rattle.cd_needs.specs.PlainReasons.{plain_labels}
use Rattle.cd_needs.proofs.labels.with_fields.Given as goal

-- the labels are those of the fields from the index on, before the first ones
abbrev pub invariant-loop-index : goal.invariant-loop-index
invariant-loop-index l = (l.index ≤ length l.fields)
    × (plain_labels l.all.items
    ≡ labels_after (map (λ field. field.0) (plain_named (drop l.index l.fields))) (plain_labels l.fn.labels.items))

abbrev pub decreases-loop-index : goal.decreases-loop-index
decreases-loop-index l = l.index
