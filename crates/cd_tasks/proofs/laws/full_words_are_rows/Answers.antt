use Rattle.cd_tasks.proofs.RowsOfWords.{rows_are}
use Rattle.cd_tasks.proofs.laws.full_words_are_rows.Goals as goal

pub returns : goal.returns
returns c = rows_are
