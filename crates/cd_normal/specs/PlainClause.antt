-- The clauses of the code as clauses of the rules.
use Rattle.cd_needs.specs.RecordType.{record_types}
use Rattle.cd_rules.specs.Clauses.{Clause, Pairs, Xmls, Records, Arrows}
use Rattle.cd_normal.specs.declared.clause.Clause.{Clause as CodeClause}
use Rattle.cd_normal.specs.declared.clause.Clause.TheVariants as code

abbrev pub plain_clause : CodeClause → Clause
plain_clause (code.Pairs wanted refused) = Pairs wanted.value.items refused.value.items
plain_clause (code.Xmls wanted refused) = Xmls wanted.value.items refused.value.items
plain_clause (code.Records wanted refused) =
    Records (record_types wanted.value.items) (record_types refused.value.items)
plain_clause (code.Arrows wanted refused) = Arrows wanted.value.items refused.value.items
