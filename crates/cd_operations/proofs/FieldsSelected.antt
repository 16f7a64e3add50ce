-- The field of a label, among the fields of a record.
use Rattle.std.proofs.Common.{◌≡◌, ◌∙◌, refl, sym, ap, List, Option, option_map}
use Rattle.std.specs.List.{find}
use Rattle.cd_syntax.specs.Name.{Name}
use Rattle.cd_model.specs.Thing.{Thing, Record}
use Rattle.cd_rules.specs.InRow as row
use Rattle.cd_cells.specs.declared.cell.Part.{Part}
use Rattle.cd_cells.specs.Cells.{fields_of}
use Rattle.cd_cells.specs.FieldOf.{is_of}
use Rattle.cd_cells.proofs.FieldsFound.{value, field_found}
use Rattle.cd_evaluation.specs.Runs.{found}
use Rattle.cd_evaluation.specs.Operations.{selected}

pub selects : (names : List Name) (table : List Thing) (label : Name) (parts : List Part) (v : Thing) (answer : Option Part)
    → Record (fields_of names table parts) ≡ v → answer ≡ find (is_of names label) parts
    → found (option_map (value names table label) answer) ≡ selected label v
selects names table label parts v answer is same =
    ap (λ one. found (option_map (value names table label) one)) same
    ∙ ap found (sym (field_found names table label (λ fields. row.thing_at fields label) refl (λ name v rest. refl) parts))
    ∙ ap (selected label) is
