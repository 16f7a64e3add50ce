-- What the tasks of the writing of a text stand for. The last one of a stack is written first.
use Rattle.std.specs.Prelude.{◌≡◌, List, [], ◌∷◌, ◌++◌, codes}
use Rattle.cd_model.specs.Canonical.{Text}
use Rattle.cd_cells.specs.declared.values.Values.{Values}
use Rattle.cd_print.specs.declared.task.Task.{Task}
use Rattle.cd_print.specs.declared.task.Task.TheVariants.{Value, AfterItem, AfterPart, Close}
use Rattle.cd_print.specs.declared.task.Task.TheVariants.{Fields, Attributes}
use Rattle.cd_print.specs.declared.task.Tasks.{Tasks}
use Rattle.cd_print.specs.Inner.Texts.{text_at, spine_at, field_texts_at, after_item, after_part}
use Rattle.cd_print.specs.Inner.Texts.{end_text, after_field, attributes_text}

abbrev pub task_text : Values → Task → Text
task_text values (Value id) = text_at values id
task_text values (AfterItem id) = after_item (spine_at values id).parts
task_text values (AfterPart id) =
    after_part (spine_at values id).parts (end_text (spine_at values id).end)
task_text values Close = codes ")"
task_text values (Fields parts) = after_field (field_texts_at values parts.now)
task_text values (Attributes parts content) = attributes_text values parts.now content

abbrev pub stack_text : Values → List Task → Text
stack_text values [] = []
stack_text values (task ∷ tasks) = stack_text values tasks ++ task_text values task

abbrev pub tasks_text : Values → Tasks → Text
tasks_text values tasks = stack_text values tasks.items.items

-- this piece is put before what was left, whatever the values are
abbrev pub Puts : Task → Tasks → Tasks → Type 0
Puts task old new =
    (values : Values) → tasks_text values new ≡ task_text values task ++ tasks_text values old

-- this text is written before what was left, or begun, and the rest of it is left
abbrev pub Writes : Values → (text output : Text) (tasks : Tasks) (new_output : Text)
    (new_tasks : Tasks) → Type 0
Writes values text output tasks new_output new_tasks =
    new_output ++ tasks_text values new_tasks ≡ output ++ (text ++ tasks_text values tasks)
