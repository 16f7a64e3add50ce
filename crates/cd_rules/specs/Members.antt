-- What it is for needs to be met, and for clauses to have members.
use Rattle.std.specs.Prelude.{◌≡◌, ◌⊎◌, true, List}
use Rattle.cd_sets.specs.declared.question.Question.{Question}
use Rattle.cd_syntax.specs.Name.{IsLabel}
use Rattle.cd_model.specs.Thing.{Thing, IsElement}
use Rattle.cd_model.specs.AllOf.{AllOf, AnyOf}
use Rattle.cd_model.specs.Formula.{Graph}
use Rattle.cd_model.specs.Kinds.{kind_of}
use Rattle.cd_model.specs.Membership.{asked, answers, reader}
use Rattle.cd_rules.specs.Clauses.{Clause, Records, RecordType, IsInClause}
use Rattle.cd_rules.specs.Needs.{Need, AreNeeds}
use Rattle.cd_rules.specs.Rows.{Row, rows_of}

-- a need is met where all questions of one of its ways have a fact
abbrev pub IsMet : (Question → Type 0) → Need → Type 0
IsMet fact need = AnyOf (λ way. AllOf fact way) need

-- a row lives where at each label nothing may stand or the cell's question has the fact, and so has
-- each question of `some`
abbrev pub HasWitnesses : (Question → Type 0) → Row → Type 0
HasWitnesses fact row = AllOf (λ cell. (cell.1.absent ≡ true) ⊎ fact cell.1.value) row.cells
    × AllOf fact row.some

-- all needs of a clause are met; of a clause of records the questions of one row have witnesses
abbrev pub HasAllNeeds : (Question → Type 0) → Clause → Type 0
HasAllNeeds fact clause = (needs : List Need) × AreNeeds clause needs × AllOf (IsMet fact) needs

abbrev pub IsSupplied : (Question → Type 0) → Clause → Type 0
IsSupplied fact (Records wanted refused) = AnyOf (HasWitnesses fact) (rows_of wanted refused)
IsSupplied fact clause = HasAllNeeds fact clause

-- an element is in a question, and in a clause
abbrev pub HasElement : Graph → Question → Type 0
HasElement graph question = (is : Thing) × IsElement is × asked (answers graph is) question true

abbrev pub HasMember : Graph → Clause → Type 0
HasMember graph clause = (is : Thing) × IsElement is
    × IsInClause (kind_of is) (reader graph is) clause

-- what the record types of a clause name are labels
abbrev pub HaveLabels : List RecordType → Type 0
HaveLabels types = AllOf (λ type. AllOf (λ field. IsLabel field.0) type.named) types

abbrev pub NamesLabels : Clause → Type 0
NamesLabels (Records wanted refused) = HaveLabels wanted × HaveLabels refused
NamesLabels clause = Unit {0}
