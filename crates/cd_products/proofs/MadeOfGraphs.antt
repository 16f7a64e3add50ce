-- Boxes that are what each right test makes are of the graph.
use Rattle.std.proofs.Common.{◌≡◌, Bool, List, ◌++◌, subst, sym}
use Rattle.cd_sets.specs.declared.question.Question.{Question}
use Rattle.cd_model.specs.BuiltIns.{built_ins}
use Rattle.cd_model.specs.Formula.{Graph, IsGraph}
use Rattle.cd_products.specs.Inner.Tests.{IsTest, AreOfGraph}
use Rattle.cd_products.proofs.Tests.{right_test}

pub made_of_graph : (graph : Graph) → ((more : Graph) × (graph ≡ built_ins ++ more))
    → IsGraph graph → (boxes : List (List Question))
    → (made : (List Question → Bool) → List (List Question))
    → ((test : List Question → Bool) → IsTest graph test → boxes ≡ made test)
    → ((test : List Question → Bool) → AreOfGraph graph (made test)) → AreOfGraph graph boxes
made_of_graph graph begins sound boxes made is each =
    let found = right_test graph begins.0 begins.1 sound in
    subst (AreOfGraph graph) (sym (is found.0 (λ box asks. found.1 box))) (each found.0)

-- they are of an equal graph too
pub of_same_graph : (old new : Graph) (boxes others : List (List Question)) → new ≡ old
    → boxes ≡ others → AreOfGraph old others → AreOfGraph new boxes
of_same_graph old new boxes others same are each =
    subst (λ graph. AreOfGraph graph boxes) (sym same) (subst (AreOfGraph old) (sym are) each)
