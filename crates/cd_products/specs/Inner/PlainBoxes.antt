-- The boxes of the code as plain data.
use Rattle.std.specs.Prelude.{map}
use Rattle.cd_products.specs.declared.clause_box.ClauseBox.{ClauseBox}
use Rattle.cd_products.specs.QuestionBoxes.{QuestionClause}

abbrev pub plain_box : ClauseBox → QuestionClause
plain_box clause = record {
  box = clause.cells;
  refused = map (λ row. row.items) clause.refused.items;
}
