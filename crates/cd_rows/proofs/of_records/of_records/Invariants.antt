use Rattle.std.proofs.Common.{◌≡◌, ◌++◌, drop, map}
use Rattle.cd_normal.specs.PlainClause.{plain_clause}
use Rattle.cd_rows.specs.Inner.PlainClauses.{plain_row_clause, row_clauses}
use Rattle.cd_rows.proofs.of_records.of_records.Given as goal

-- the clauses so far, and those of what is left, are all
abbrev pub invariant-loop-clause : goal.invariant-loop-clause
invariant-loop-clause l = map plain_row_clause l.found.items
    ++ row_clauses (map plain_clause (drop l.clause-index l.clauses))
    ≡ row_clauses (map plain_clause l.clauses)
