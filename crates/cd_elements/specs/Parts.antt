-- Labels and elements of a table each.
use Rattle.std.specs.Prelude.{List, [], ◌∷◌, Option, Some, None}
use Rattle.cd_model.specs.Formula.{AreRisingLabels}
use Rattle.cd_syntax.specs.Name.{Name, IsLabel}
use Rattle.cd_syntax.specs.Name.{IsAbove}
use Rattle.cd_elements.specs.declared.shape.ElementId.{ElementId}

-- the labels are such, and rise strictly
abbrev pub HasLabels : List (Name × ElementId) → Type 0
HasLabels = AreRisingLabels None
