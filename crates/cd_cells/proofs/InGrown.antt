-- What stands in a table stands there when it has grown.
use Rattle.std.proofs.Common.{◌≡◌, ℕ, ◌<◌, List, [], ◌∷◌, ◌++◌, length, refl}
use Rattle.cd_syntax.specs.Name.{Name, IsLabel}
use Rattle.cd_model.specs.AllOf.{AllOf}
use Rattle.cd_model.specs.Thing as thing
use Rattle.cd_model.specs.Thing.{Thing}
use Rattle.cd_cells.specs.declared.cell.Part.{Part}
use Rattle.cd_cells.specs.Cells.{thing_at, name_at, fields_of, IsPart}
use Rattle.cd_cells.proofs.Growing.{stays, label_stays}

pub thing_in_grown : (table more : List Thing) (number : ℕ) → number < length table
    → thing_at (table ++ more) number ≡ thing_at table number
thing_in_grown table more number is = stays table (table ++ more) (thing.Atom []) (more, refl) number is

pub name_in_grown : (names more : List Name) (number : ℕ) → IsLabel (name_at names number)
    → name_at (names ++ more) number ≡ name_at names number
name_in_grown names more number is = label_stays names (names ++ more) (more, refl) number is

pub fields_in_grown : (names more_names : List Name) (table more : List Thing) (parts : List Part)
    → AllOf (IsPart names (length table)) parts
    → fields_of (names ++ more_names) (table ++ more) parts ≡ fields_of names table parts
fields_in_grown names more_names table more [] are = refl
fields_in_grown names more_names table more (part ∷ parts) are = cc (
  name_in_grown names more_names part.label are.0.0,
  thing_in_grown table more part.value are.0.1,
  fields_in_grown names more_names table more parts are.1,
)
