use Rattle.std.proofs.Common.{◌≡◌, ◌++◌, drop, map}
use Rattle.cd_normal.specs.PlainClause.{plain_clause}
use Rattle.cd_apply.specs.Inner.FunctionClauses.{functions_among}
use Rattle.cd_apply.specs.Inner.PlainClauses.{plain_function_clause}
use Rattle.cd_apply.proofs.clauses.functions_among.Given as goal

-- the clauses so far, and those of the clauses that are left, are all
abbrev pub invariant-loop-clause : goal.invariant-loop-clause
invariant-loop-clause l = map plain_function_clause l.found.items
    ++ functions_among (map plain_clause (drop l.clause-index l.clauses))
    ≡ functions_among (map plain_clause l.clauses)
