-- Clauses all of whose questions are settled: each has a fact, or is subsumed by a family.
use Rattle.std.specs.Prelude.{◌⊎◌, List}
use Rattle.cd_sets.specs.declared.question.Question.{Question}
use Rattle.cd_model.specs.AllOf.{AllOf}
use Rattle.cd_rules.specs.Clauses.{Clause, Records}
use Rattle.cd_rules.specs.Needs.{Need, AreNeeds}
use Rattle.cd_rules.specs.Rows.{Row, rows_of}
use Rattle.cd_rules.specs.Family.{IsSubsumed}

abbrev pub IsSettled : (Question → Type 0) → List Question → Question → Type 0
IsSettled fact family question = fact question ⊎ IsSubsumed question family

abbrev pub AreSettled : (Question → Type 0) → List Question → Need → Type 0
AreSettled fact family need = AllOf (λ way. AllOf (IsSettled fact family) way) need

abbrev pub HasSettledRow : (Question → Type 0) → List Question → Row → Type 0
HasSettledRow fact family row = AllOf (λ cell. IsSettled fact family cell.1.value) row.cells
    × AllOf (IsSettled fact family) row.some

-- those of all needs of a clause, and of all rows of a clause of records
abbrev pub HasSettledNeeds : (Question → Type 0) → List Question → Clause → Type 0
HasSettledNeeds fact family clause = (needs : List Need) × AreNeeds clause needs
    × AllOf (AreSettled fact family) needs

abbrev pub IsSettledClause : (Question → Type 0) → List Question → Clause → Type 0
IsSettledClause fact family (Records wanted refused) =
    AllOf (HasSettledRow fact family) (rows_of wanted refused)
IsSettledClause fact family clause = HasSettledNeeds fact family clause
