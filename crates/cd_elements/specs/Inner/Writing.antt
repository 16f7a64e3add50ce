-- A step of the writing of a text.
use Rattle.std.specs.Prelude.{◌≡◌, ◌<◌, List, ◌++◌, length}
use Rattle.cd_model.specs.Canonical.{Text}
use Rattle.cd_model.specs.Thing.{Thing}
use Rattle.cd_elements.specs.declared.task.Tasks.{Tasks}
use Rattle.cd_elements.specs.Inner.Tasks.{tasks_text}

-- this text is written before what was left, or begun, and the rest of it is left; a character at
-- least is written
pub record Writes (table : List Thing) (text output : Text) (tasks : Tasks) (new_output : Text)
    (new_tasks : Tasks)
    : Type 0 where
  pub whole : new_output ++ tasks_text table new_tasks ≡ output ++ (text ++ tasks_text table tasks)
  pub longer : length output < length new_output
