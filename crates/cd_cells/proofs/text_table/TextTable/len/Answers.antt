use Rattle.std.proofs.Common.{List, subst}
use Rattle.std.specs.Prelude.{string_bytes}
use Rattle.std.proofs.lemmas.Str.{IsUtf8-string_bytes}
use Rattle.cd_syntax.specs.Name.{Name}
use Rattle.cd_cells.specs.Cells.{HasEachOnce}
use Rattle.cd_cells.proofs.Texts.{has_each_once}
use Rattle.cd_cells.proofs.text_table.TextTable.len.Goals as goal

pub returns-clause-once : goal.returns-clause-once
returns-clause-once c =
    subst (λ (names : List Name). HasEachOnce names) c.self.view_is
    (has_each_once string_bytes IsUtf8-string_bytes c.self.inside.texts.keys c.len.ensures.unique)
