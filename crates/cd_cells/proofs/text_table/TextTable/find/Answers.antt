use Rattle.std.proofs.Common.{◌≡◌, List, ◌++◌, subst}
use Rattle.std.specs.Prelude.{string_bytes, map}
use Rattle.std.specs.Str.{chars}
use Rattle.cd_syntax.specs.Name.{Name}
use Rattle.cd_cells.specs.Cells.{name_at}
use Rattle.cd_cells.proofs.Texts.{found_at, texts_grow}
use Rattle.cd_cells.proofs.text_table.TextTable.find.Goals as goal

pub returns-in-Some-clause-found : goal.returns-in-Some-clause-found
returns-in-Some-clause-found c =
    subst (λ (names : List Name). name_at names c.in-Some.number ≡ chars c.args.text.now) c.self.view_is
    (found_at string_bytes c.self.inside.texts.keys c.args.text.now c.in-Some.number c.in-Some.ensures.index)

pub returns-clause-grows : goal.returns-clause-grows
returns-clause-grows c =
    let put = c.insert_full.ensures in
    subst (λ (names : List Name). (more : List Name)
    × (map (λ text. chars (string_bytes text)) c.insert_full.new.self.keys ≡ names ++ more)) c.self.view_is
    (texts_grow string_bytes c.insert_full.result c.self.inside.texts.keys c.insert_full.new.self.keys c.in_ok-owned.owned put.keys put.err)
