-- The elements of a table.
use Rattle.std.specs.Prelude.{List, []}
use Rattle.cd_model.specs.Thing.{Thing}
use Rattle.cd_elements.specs.declared.elements.Elements.{Elements}
use Rattle.cd_elements.specs.Table.{elements_from}

-- the elements by their numbers
abbrev pub table : Elements → List Thing
table elements = elements_from [] elements.shapes.keys
