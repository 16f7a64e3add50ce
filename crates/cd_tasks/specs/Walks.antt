-- What a contract sees of a walk over the ways of a need.
use Rattle.std.specs.Prelude.{◌≡◌, ◌<◌, ℕ, List, [], ◌∷◌, length, Option, Some}
use Rattle.cd_normal.specs.PlainClause.{plain_clause}
use Rattle.cd_rules.specs.Clauses.{Clause}
use Rattle.cd_rules.specs.Needs.{Way}
use Rattle.cd_tasks.specs.Assignments.{Word, members_of, way_of}
use Rattle.cd_tasks.specs.Inner.Odometers.{rest_of, visited_of}
use Rattle.cd_tasks.specs.declared.walk.Step.{Step}
use Rattle.cd_tasks.specs.declared.walk.Step.TheVariants.{Partial, Full, Done}
use Rattle.cd_tasks.specs.declared.walk.Walk.{Walk}

-- the clause, and the number of the need
abbrev pub clause_of : Walk → Clause
clause_of walk = plain_clause walk.clause

abbrev pub need_of : Walk → ℕ
need_of walk = walk.need

-- the words that are still to be visited, and the one that was visited last
abbrev pub rest : Walk → List Word
rest walk = rest_of walk.words

abbrev pub visited : Walk → Option Word
visited walk = visited_of walk.words

-- this word is visited, and its way is this
pub record IsVisited (before after : Walk) (word : Word) (way : Way) : Type 0 where
  pub left : rest before ≡ word ∷ rest after
  pub word_is : visited after ≡ Some word
  pub way_is : way ≡ way_of (clause_of before) (need_of before) word

-- The first word of those that are left is visited. It gives some members to sides, or all; or none
-- is left, and nothing is visited
abbrev pub IsStep : (before after : Walk) → Step → Type 0
IsStep before after (Partial way) = (word : Word) × IsVisited before after word way
    × (length word < members_of (clause_of before))
IsStep before after (Full way) = (word : Word) × IsVisited before after word way
    × (length word ≡ members_of (clause_of before))
IsStep before after Done = (rest before ≡ []) × (rest after ≡ []) × (visited after ≡ visited before)
