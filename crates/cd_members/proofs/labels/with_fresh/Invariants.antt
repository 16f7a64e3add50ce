use Rattle.std.proofs.Common.{◌≡◌, ◌+◌, ◌++◌, drop}
use Rattle.cd_rules.proofs.FreshLabels.{row_of_a}
use Rattle.cd_members.specs.Inner.RecordFields.{labels, fresh_fields}
use Rattle.cd_members.proofs.labels.with_fresh.Given as goal

-- the next label has one letter more for each question before, and with those of what is left these are all
abbrev pub invariant-loop-question : goal.invariant-loop-question
invariant-loop-question l = (l.label.items ≡ row_of_a (l.least + l._question-index))
    × (l.all.items ++ labels (fresh_fields (l.least + l._question-index) (drop l._question-index l.some))
    ≡ l.fn.names.items ++ labels (fresh_fields l.least l.some))
