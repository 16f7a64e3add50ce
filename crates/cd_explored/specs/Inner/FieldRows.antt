-- What rows of records ask at the fields that have to be present.
use Rattle.std.specs.Prelude.{List, [], ◌∷◌}
use Rattle.cd_sets.specs.declared.node_id.NodeId.{NodeId}
use Rattle.cd_sets.specs.declared.question.Question.{Question}
use Rattle.cd_syntax.specs.Name.{Name}
use Rattle.cd_matching.specs.Kernel.{KernelField, Present, Optional}
use Rattle.cd_rules.specs.Rows.{Row}
use Rattle.cd_rows.specs.RecordRows.{asked_at}

abbrev pub asked_fields : List (Name × KernelField NodeId) → Row → List Question
asked_fields [] row = []
asked_fields ((label, Present number) ∷ named) row = asked_at row label ∷ asked_fields named row
asked_fields ((label, Optional type) ∷ named) row = asked_fields named row
