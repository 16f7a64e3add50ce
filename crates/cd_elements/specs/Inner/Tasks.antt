-- What the tasks of the writing of a text stand for. The last one of a stack is written first.
use Rattle.std.specs.Prelude.{◌≡◌, List, [], ◌∷◌, ◌++◌, codes}
use Rattle.cd_model.specs.Canonical.{Text, Part, escaped, canonical, printed}
use Rattle.cd_syntax.specs.Name.{Name}
use Rattle.cd_model.specs.Thing.{Thing}
use Rattle.cd_elements.specs.declared.shape.ElementId.{ElementId}
use Rattle.cd_elements.specs.declared.task.Task.{Task}
use Rattle.cd_elements.specs.declared.task.Task.TheVariants.{Mark, Letter, Field}
use Rattle.cd_elements.specs.declared.task.Task.TheVariants.{Element as AnElement}
use Rattle.cd_elements.specs.declared.task.Tasks.{Tasks}
use Rattle.cd_elements.specs.Table.{element_at}
use Rattle.cd_elements.specs.Inner.Marks.{mark_text}

-- an element of a table as a text, and as a first part of the pairs along the right
abbrev pub text_in : List Thing → ElementId → Text
text_in table id = canonical (element_at table id)

abbrev pub part_in : List Thing → ElementId → Part
part_in table id = (printed (element_at table id)).part

-- a field of a record
abbrev pub field_in : List Thing → Name → ElementId → Text
field_in table label id = label ++ codes "=" ++ text_in table id

abbrev pub task_text : List Thing → Task → Text
task_text table (Mark mark) = mark_text mark
task_text table (Letter c) = escaped 39 c
task_text table (Field label id) = field_in table label.now id
task_text table (AnElement id) = text_in table id

abbrev pub stack_text : List Thing → List Task → Text
stack_text table [] = []
stack_text table (task ∷ tasks) = stack_text table tasks ++ task_text table task

abbrev pub tasks_text : List Thing → Tasks → Text
tasks_text table tasks = stack_text table tasks.items.items

-- this text is put before what was left, whatever the table holds, or for this table
abbrev pub PutsIn : List Thing → Text → Tasks → Tasks → Type 0
PutsIn table text old new = tasks_text table new ≡ text ++ tasks_text table old

abbrev pub Puts : (List Thing → Text) → Tasks → Tasks → Type 0
Puts text old new = (table : List Thing) → PutsIn table (text table) old new
