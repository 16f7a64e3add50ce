use Rattle.std.proofs.Common.{◌∙◌, refl, ap}
use Rattle.cd_tables.specs.Rows.{row_of}
use Rattle.cd_tables.specs.Words.{built_ins}
use Rattle.cd_tables.proofs.Characters.{by_characters}
use Rattle.cd_tables.proofs.words.built_in.Goals as goal

pub returns : goal.returns
returns c =
    let text = c.args.spelling.now in
    let rows = c.new.ensures ∙ c.built_ins.ensures.rows in
    c.find.ensures ∙ ap (λ rows. row_of rows text) rows ∙ by_characters built_ins refl text c.utf8.spelling
