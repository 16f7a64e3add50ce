use Rattle.std.proofs.Common.{◌∙◌, ap, List, ℕ, subst}
use Rattle.std.specs.Str.{chars}
use Rattle.std.proofs.lemmas.Int.{to_z-of_z}
use Rattle.cd_matching.specs.Sequences as sequences
use Rattle.cd_cells.specs.Table.{table, IsAt}
use Rattle.cd_operations.proofs.Decimals.{decimal_characters}
use Rattle.cd_operations.proofs.texts.decimal_of.Goals as goal

pub returns-clause-is : goal.returns-clause-is
returns-clause-is c =
    let sized = c.ranges.n in
    let bytes = simp to_z-of_z at c.in_ok-text.ensures.ok in
    subst (λ (text : List ℕ). IsAt (table c.text_of.new.values) c.in_ok-text_of.field-0.0 (sequences.text_of text))
    (ap chars (c.as_str.ensures.value ∙ bytes) ∙ decimal_characters c.args.n c.ranges.n) c.in_ok-text_of.ensures.is
