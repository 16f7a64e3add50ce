-- What a contract sees of a walk over the rows of a clause of records.
use Rattle.std.specs.Prelude.{◌≡◌, ◌<◌, List, [], ◌∷◌, length, Option, Some}
use Rattle.cd_needs.specs.RecordType.{record_types}
use Rattle.cd_needs.specs.RecordTypes.{plain_row}
use Rattle.cd_rules.specs.Clauses.{RecordType}
use Rattle.cd_rules.specs.Rows.{Row}
use Rattle.cd_tasks.specs.Assignments.{Word, row_by}
use Rattle.cd_tasks.specs.Inner.Odometers.{rest_of, visited_of}
use Rattle.cd_tasks.specs.declared.row_walk.RowStep.{RowStep}
use Rattle.cd_tasks.specs.declared.row_walk.RowStep.TheVariants.{Partial, Full, Done}
use Rattle.cd_tasks.specs.declared.row_walk.RowWalk.{RowWalk}

-- the types of the clause
abbrev pub wanted_of : RowWalk → List RecordType
wanted_of walk = record_types walk.wanted.value.items

abbrev pub refused_of : RowWalk → List RecordType
refused_of walk = record_types walk.refused.value.items

-- the words that are still to be visited, and the one that was visited last
abbrev pub rest : RowWalk → List Word
rest walk = rest_of walk.words

abbrev pub visited : RowWalk → Option Word
visited walk = visited_of walk.words

-- this word is visited, and its row is this
pub record IsVisited (before after : RowWalk) (word : Word) (row : Row) : Type 0 where
  pub left : rest before ≡ word ∷ rest after
  pub word_is : visited after ≡ Some word
  pub row_is : row ≡ row_by (wanted_of before) (refused_of before) word

-- The first word of those that are left is visited. It gives some refused types a reason, or all;
-- or none is left, and nothing is visited
abbrev pub IsStep : (before after : RowWalk) → RowStep → Type 0
IsStep before after (Partial row) = (word : Word) × IsVisited before after word (plain_row row)
    × (length word < length (refused_of before))
IsStep before after (Full row) = (word : Word) × IsVisited before after word (plain_row row)
    × (length word ≡ length (refused_of before))
IsStep before after Done = (rest before ≡ []) × (rest after ≡ []) × (visited after ≡ visited before)
