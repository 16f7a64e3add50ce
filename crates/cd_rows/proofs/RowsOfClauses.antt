-- The rows that are made of the clauses of a question's records are its record rows.
use Rattle.std.proofs.Common.{◌≡◌, Bool, List, ◌++◌, length, subst, sym, ap, ◌∙◌}
use Rattle.cd_sets.specs.declared.question.Question.{Question}
use Rattle.cd_model.specs.AllOf.{AllOf}
use Rattle.cd_model.specs.BuiltIns.{built_ins}
use Rattle.cd_model.specs.Formula.{Graph, IsGraph, in_node}
use Rattle.cd_model.specs.Thing.{IsElement}
use Rattle.cd_rules.specs.Clauses.{Clause}
use Rattle.cd_rules.specs.Family.{AsksNodes}
use Rattle.cd_rules.specs.Rows.{Row}
use Rattle.cd_products.specs.Inner.ClauseBoxes.{AreClauses}
use Rattle.cd_products.specs.Inner.Tests.{IsTest}
use Rattle.cd_rows.specs.RecordRows.{AreRecordRows, CoverRecordValues, RowAsksNodes}
use Rattle.cd_rows.specs.Inner.PlainClauses.{row_clauses}
use Rattle.cd_rows.specs.Inner.Refining.{RowClause, ClauseAsks, rows_of_clauses}
use Rattle.cd_rows.proofs.MadeRows.{are_rows, cover_values, ask_nodes}
use Rattle.cd_rows.proofs.RowsOfGraphs.{row_clauses_ask}

-- the clauses of a question's records
abbrev pub AreRowClauses : Question → Graph → List RowClause → Type 0
AreRowClauses question graph clauses = (all : List Clause) × AreClauses graph question all
    × (clauses ≡ row_clauses all)

pub clauses_same : (question : Question) (graph other : Graph) (clauses others : List RowClause)
    → other ≡ graph → others ≡ clauses → AreRowClauses question other clauses
    → AreRowClauses question graph others
clauses_same question graph other clauses others same are (all, of, is) =
    (all, subst (λ graph. AreClauses graph question all) same of, are ∙ is)

module _ (graph : Graph) (begins : (more : Graph) × (graph ≡ built_ins ++ more))
    (sound : IsGraph graph) (question : Question) (clauses : List RowClause)
    (are : AreRowClauses question graph clauses) where
  pub clauses_ask : AllOf (ClauseAsks (length graph)) clauses
  clauses_ask = subst (AllOf (ClauseAsks (length graph))) (sym are.2)
      (row_clauses_ask graph sound question are.0 are.1.0)

  module _ (asks : AsksNodes (length graph) question) (rows : List Row)
      (made : (test : List Question → Bool) → IsTest graph test
      → rows ≡ rows_of_clauses test clauses) where
    by_all : (test : List Question → Bool) → IsTest graph test
        → rows ≡ rows_of_clauses test (row_clauses are.0)
    by_all test is = made test is ∙ ap (rows_of_clauses test) are.2

    pub rows_are : AreRecordRows (in_node graph) IsElement question rows
    rows_are = are_rows graph begins sound question asks are.0 are.1 rows by_all

    pub rows_cover : CoverRecordValues graph question rows
    rows_cover = cover_values graph begins sound question asks are.0 are.1 rows by_all

    pub rows_ask : AllOf (RowAsksNodes (length graph)) rows
    rows_ask = ask_nodes graph begins sound question asks are.0 are.1 rows by_all
