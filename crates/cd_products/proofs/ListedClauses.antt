-- The clauses of the code are the clauses of a question.
use Rattle.std.proofs.Common.{◌≡◌, ◌⊎◌, inl, inr, List, map}
use Rattle.cd_sets.specs.declared.question.Question.{Question}
use Rattle.cd_model.specs.AllOf.{AllOf, AnyOf}
use Rattle.cd_model.specs.Formula.{Graph}
use Rattle.cd_normal.specs.PlainClause.{plain_clause}
use Rattle.cd_normal.specs.declared.clause.Clause.{Clause as CodeClause}
use Rattle.cd_rules.specs.BasicSets.{IsBasic}
use Rattle.cd_rules.specs.Clauses.{Clause, IsClauseOfQuestion}
use Rattle.cd_rules.proofs.Asking.{each_of_map}
use Rattle.cd_model.proofs.Ones.{one_of_map}
use Rattle.cd_products.specs.Inner.ClauseBoxes.{AreClauses}

pub are_clauses : (graph : Graph) (question : Question) (all : List CodeClause)
    → AllOf (λ clause. IsClauseOfQuestion graph question (plain_clause clause)) all
    → ((is : Clause) → IsClauseOfQuestion graph question is
    → IsBasic is ⊎ AnyOf (λ clause. plain_clause clause ≡ is) all)
    → AreClauses graph question (map plain_clause all)
are_clauses graph question all sound complete = (
  each_of_map plain_clause (IsClauseOfQuestion graph question) all sound,
  λ is of. elim (complete is of) [
    | inl basic ↦ inl basic
    | inr there ↦ inr (one_of_map plain_clause (λ other. other ≡ is) all there)
  ],
)
