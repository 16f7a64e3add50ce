-- Which rows are kept, by verdicts on their questions, and that those that each right test makes ask
-- nodes of the graph.
use Rattle.std.proofs.Common.{◌≡◌, Bool, true, false, List, [], ◌∷◌, ◌++◌}
use Rattle.std.proofs.Common.{length, refl, sym, ap, subst, ◌∙◌}
use Rattle.cd_sets.specs.declared.question.Question.{Question}
use Rattle.cd_model.specs.AllOf.{AllOf}
use Rattle.cd_model.specs.BuiltIns.{built_ins}
use Rattle.cd_model.specs.Formula.{Graph, IsGraph}
use Rattle.cd_model.proofs.Ones.{one_on_left, one_on_right, each_of_lists}
use Rattle.cd_rules.specs.Members.{HasElement}
use Rattle.cd_rules.specs.Rows.{Row}
use Rattle.cd_products.specs.Inner.Tests.{IsTested, IsTest}
use Rattle.cd_products.proofs.Tests.{right_test, tests_agree}
use Rattle.cd_rows.specs.RecordRows.{RowAsksNodes}
use Rattle.cd_rows.specs.Inner.Refining.{keep_if, keep, needed}
use Rattle.cd_rows.proofs.RowsOfGraphs.{needed_ask}

abbrev kept_if : Bool → Row → List Row → List Row
kept_if = keep_if (λ box. true)

-- questions that were tested, and others
pub both_tested : (graph : Graph) (some others : List Question) (b : Bool)
    → IsTested graph some true → IsTested graph others b → IsTested graph (some ++ others) b
both_tested graph some others true each those =
    each_of_lists (HasElement graph) some others each those
both_tested graph some others false each one =
    one_on_right (λ question. HasElement graph question → ⊥) some others one

pub first_tested : (graph : Graph) (some others : List Question)
    → IsTested graph some false → IsTested graph (some ++ others) false
first_tested graph some others one =
    one_on_left (λ question. HasElement graph question → ⊥) some others one

-- a row that was tested is kept or dropped so by each right test
pub kept_by_answer : (graph : Graph) (row : Row) (answer b : Bool)
    → IsTested graph (needed row) answer → answer ≡ b
    → (test : List Question → Bool) → IsTest graph test → RowAsksNodes (length graph) row
    → keep test (row ∷ []) ≡ kept_if b row []
kept_by_answer graph row answer b is same test right asks = ap (λ b. kept_if b row [])
    (tests_agree graph (needed row) (test (needed row)) answer
    (right (needed row) (needed_ask (length graph) row asks)) is ∙ same)

-- the first row, and then the others
pub keep_apart : (test : List Question → Bool) (row : Row) (rows : List Row)
    → keep test (row ∷ []) ++ keep test rows ≡ keep test (row ∷ rows)
keep_apart test row rows = by_test (test (needed row))
  where
    by_test : (b : Bool)
        → kept_if b row [] ++ keep test rows ≡ kept_if b row (keep test rows)
    by_test true = refl
    by_test false = refl

-- what each right test makes asks nodes of the graph
pub made_ask : (graph : Graph) → ((more : Graph) × (graph ≡ built_ins ++ more)) → IsGraph graph
    → (rows : List Row) (made : (List Question → Bool) → List Row)
    → ((test : List Question → Bool) → IsTest graph test → rows ≡ made test)
    → ((test : List Question → Bool) → AllOf (RowAsksNodes (length graph)) (made test))
    → AllOf (RowAsksNodes (length graph)) rows
made_ask graph begins sound rows made is each =
    let found = right_test graph begins.0 begins.1 sound in
    subst (AllOf (RowAsksNodes (length graph))) (sym (is found.0 (λ box asks. found.1 box)))
    (each found.0)

-- so they do in an equal graph
pub ask_same : (old new : Graph) (rows others : List Row) → new ≡ old → rows ≡ others
    → AllOf (RowAsksNodes (length old)) others → AllOf (RowAsksNodes (length new)) rows
ask_same old new rows others same are each =
    subst (λ graph. AllOf (RowAsksNodes (length graph)) rows) (sym same)
    (subst (AllOf (RowAsksNodes (length old))) (sym are) each)
