use Rattle.std.proofs.Common.{◌≡◌, ◌++◌, map, drop}
use Rattle.cd_rules.specs.Clauses.{Arrows}
use Rattle.cd_rules.specs.Tasks.{tasks_of}
use Rattle.cd_tasks.specs.PlainTask.{plain_task}
use Rattle.cd_tasks.proofs.of_clause.arrow_tasks.Given as goal

-- the tasks so far, and those of the arrows that are left, are all
abbrev pub invariant-loop-one : goal.invariant-loop-one
invariant-loop-one l =
    map plain_task l.tasks.items ++ tasks_of (Arrows l.wanted.value.items (drop l.one-index l.refused))
    ≡ tasks_of (Arrows l.fn.wanted.value.items l.fn.refused)
