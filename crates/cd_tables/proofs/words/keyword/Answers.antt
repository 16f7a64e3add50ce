use Rattle.std.proofs.Common.{◌∙◌, refl, ap}
use Rattle.cd_tables.specs.Rows.{row_of}
use Rattle.cd_tables.specs.Words.{keywords}
use Rattle.cd_tables.proofs.Characters.{by_characters}
use Rattle.cd_tables.proofs.words.keyword.Goals as goal

pub returns : goal.returns
returns c =
    let text = c.args.spelling.now in
    let rows = c.new.ensures ∙ c.keywords.ensures.rows in
    c.find.ensures ∙ ap (λ rows. row_of rows text) rows ∙ by_characters keywords refl text c.utf8.spelling
