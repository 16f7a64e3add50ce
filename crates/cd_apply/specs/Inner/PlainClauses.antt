-- The clauses of the code as plain data.
use Rattle.cd_apply.specs.declared.clauses.FunctionClause.{FunctionClause as CodeClause}
use Rattle.cd_apply.specs.Inner.FunctionClauses.{FunctionClause}

abbrev pub plain_function_clause : CodeClause → FunctionClause
plain_function_clause clause =
    record { wanted = clause.wanted.value.items; refused = clause.refused.value.items }
