-- What is counted of a run of the workload's program.
use Rattle.std.specs.Prelude.{◌≡◌, ℕ, length}
use Rattle.cd_model.specs.Thing.{Thing}
use Rattle.cd_running.specs.Ending.{text_of}
use Rattle.cd_running.specs.WorkAnswer.{Runs}
use Rattle.cd_running.specs.declared.workload.runs.Ended.{Ended}

-- it is that of a run on so many entries
abbrev pub IsOfRun : (size : ℕ) → Ended → Type 0
IsOfRun size ended =
    (value : Thing) × Runs size ended.used value × (ended.length ≡ length (text_of value))
