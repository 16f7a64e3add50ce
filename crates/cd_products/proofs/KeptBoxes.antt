-- Which boxes are kept.
use Rattle.std.proofs.Common.{◌≡◌, Bool, true, false, List, [], ◌∷◌, ◌++◌, refl, ap}
use Rattle.std.proofs.Common.{length, subst, ◌∙◌}
use Rattle.cd_sets.specs.declared.node_id.NodeId.{NodeId}
use Rattle.cd_sets.specs.declared.question.Question.{Question}
use Rattle.cd_model.specs.AllOf.{AllOf}
use Rattle.cd_model.specs.Formula.{Graph}
use Rattle.cd_rules.specs.Family.{AsksNodes}
use Rattle.cd_products.specs.Boxes.{keep_if}
use Rattle.cd_products.specs.QuestionBoxes.{within_node, without_node}
use Rattle.cd_products.specs.Inner.Tests.{IsTested, IsTest, keep_boxes}
use Rattle.cd_products.proofs.Tests.{tests_agree}

abbrev kept_if : Bool → List Question → List (List Question) → List (List Question)
kept_if = keep_if Question NodeId within_node without_node (λ box. true)

-- a box that was tested is kept or dropped so by each right test
pub kept_by_answer : (graph : Graph) (box asked : List Question) (b answer : Bool)
    → IsTested graph asked b → asked ≡ box → b ≡ answer
    → (test : List Question → Bool) → IsTest graph test
    → AllOf (AsksNodes (length graph)) box
    → keep_boxes test (box ∷ []) ≡ kept_if answer box []
kept_by_answer graph box asked b answer tested same is test right asks =
    ap (λ b. kept_if b box []) (tests_agree graph box (test box) b (right box asks)
    (subst (λ box. IsTested graph box b) same tested) ∙ is)

-- the first box, and then the others
pub keep_apart : (test : List Question → Bool) (box : List Question) (boxes : List (List Question))
    → keep_boxes test (box ∷ []) ++ keep_boxes test boxes ≡ keep_boxes test (box ∷ boxes)
keep_apart test box boxes = by_test (test box)
  where
    by_test : (b : Bool)
        → kept_if b box [] ++ keep_boxes test boxes ≡ kept_if b box (keep_boxes test boxes)
    by_test true = refl
    by_test false = refl
