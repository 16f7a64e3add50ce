-- Closed families: lists of questions, each of whose clauses is refuted by questions that the list
-- subsumes, so that none has a member.
use Rattle.std.specs.Prelude.{◌≡◌, ◌⊎◌, ℕ, ◌<◌, false, List}
use Rattle.cd_sets.specs.declared.question.Question.{Question}
use Rattle.cd_model.specs.AllOf.{AllOf, AnyOf}
use Rattle.cd_model.specs.Formula.{Graph}
use Rattle.cd_rules.specs.Clauses.{Clause, Records, IsClauseOfQuestion}
use Rattle.cd_rules.specs.Needs.{Need, AreNeeds}
use Rattle.cd_rules.specs.Rows.{Row, rows_of}

abbrev pub IsOfFamily : Question → List Question → Type 0
IsOfFamily question family = AnyOf (λ other. other ≡ question) family

-- each thing of the one list is in the other
abbrev pub AreAmong : {X : Type 0} → (some all : List X) → Type 0
AreAmong some all = AllOf (λ x. AnyOf (λ other. other ≡ x) all) some

-- two lists have the same members
abbrev pub SameMembers : {X : Type 0} → (some others : List X) → Type 0
SameMembers some others = AreAmong some others × AreAmong others some

-- A question is subsumed by another where it wants each node that the other wants, and refuses each
-- one that the other refuses. So what is in it is in the other
abbrev pub IsSubsumedBy : Question → Question → Type 0
IsSubsumedBy question other = AreAmong other.pos question.pos × AreAmong other.neg question.neg

-- a question contradicts itself where it wants a node that it refuses: nothing is in it
abbrev pub ContradictsItself : Question → Type 0
ContradictsItself question = AnyOf (λ id. AnyOf (λ other. other ≡ id) question.neg) question.pos

-- a family subsumes a question that one of its questions subsumes, and each one that contradicts
-- itself
abbrev pub IsSubsumed : Question → List Question → Type 0
IsSubsumed question family = AnyOf (IsSubsumedBy question) family ⊎ ContradictsItself question

-- a need is refuted where each of its ways has a question that the family subsumes
abbrev pub RefutesNeed : List Question → Need → Type 0
RefutesNeed family need = AllOf (λ way. AnyOf (λ question. IsSubsumed question family) way) need

-- a row is refuted where a field has to be there and its question is subsumed, or a question of
-- `some` is
abbrev pub RefutesRow : List Question → Row → Type 0
RefutesRow family row = AnyOf
    (λ cell. (cell.1.absent ≡ false) × IsSubsumed cell.1.value family) row.cells
    ⊎ AnyOf (λ question. IsSubsumed question family) row.some

-- a clause is refuted where one of its needs is; and a clause of records where each of its rows is
abbrev pub HasRefutedNeed : List Question → Clause → Type 0
HasRefutedNeed family clause = (needs : List Need) × AreNeeds clause needs
    × AnyOf (RefutesNeed family) needs

abbrev pub Refutes : List Question → Clause → Type 0
Refutes family (Records wanted refused) = AllOf (RefutesRow family) (rows_of wanted refused)
Refutes family clause = HasRefutedNeed family clause

-- a family is closed where it refutes each clause of each of its questions
abbrev pub IsClosed : Graph → List Question → Type 0
IsClosed graph family = AllOf
    (λ question. (clause : Clause) → IsClauseOfQuestion graph question clause
    → Refutes family clause) family

-- a question of nodes among so many
abbrev pub AsksNodes : (nodes : ℕ) → Question → Type 0
AsksNodes nodes question = AllOf (λ id. id.0 < nodes) question.pos
    × AllOf (λ id. id.0 < nodes) question.neg
