use Rattle.std.proofs.Common.{◌≡◌, List, [], subst}
use Rattle.std.specs.Prelude.{string_bytes}
use Rattle.std.specs.Str.{chars}
use Rattle.cd_syntax.specs.Name.{Name}
use Rattle.cd_cells.specs.Cells.{name_at}
use Rattle.cd_cells.proofs.Texts.{nothing_at}
use Rattle.cd_cells.proofs.text_table.TextTable.get.Goals as goal

pub returns-in-None : goal.returns-in-None
returns-in-None c =
    subst (λ (names : List Name). chars [] ≡ name_at names c.args.number) c.self.view_is
    (nothing_at string_bytes c.self.inside.texts.keys c.args.number c.in-None.ensures.key)
