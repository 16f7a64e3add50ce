use Rattle.std.proofs.Common.{◌≡◌, ◌++◌, ◌∷◌, map, drop, None, Some}
use Rattle.cd_needs.specs.RecordType.{record_type, record_types}
use Rattle.cd_needs.specs.PlainReasons.{plain_labels, plain_reasons}
use Rattle.cd_tasks.specs.PlainTask.{plain_task}
use Rattle.cd_tasks.proofs.CasesMade.{record_case}
use Rattle.cd_tasks.proofs.task.RecordTask.cases.Given as goal

-- the cases so far, and those of the labels that are left, are all
abbrev pub invariant-loop-label : goal.invariant-loop-label
invariant-loop-label l =
    map plain_task l.cases.items
    ++ map (record_case (record_types l.self.wanted.value.items) (record_types l.self.refused.value.items)
    (plain_reasons l.self.given.items) (record_types l.rest.value.items) (record_type l.refused))
    (map Some (plain_labels (drop l.label-index l.label-items)))
    ≡ map (record_case (record_types l.self.wanted.value.items) (record_types l.self.refused.value.items)
    (plain_reasons l.self.given.items) (record_types l.rest.value.items) (record_type l.refused))
    (None ∷ map Some (plain_labels l.label-items))
