-- Nodes for unions and for what is outside questions, as the code puts them in.
use Rattle.std.proofs.Common.{◌≡◌, ◌<◌, ◌+◌, ◌↔◌, ◌++◌, true, List, [], ◌∷◌, length, sym, subst}
use Rattle.cd_sets.specs.declared.node_id.NodeId.{NodeId}
use Rattle.cd_sets.specs.declared.question.Question.{Question}
use Rattle.cd_model.specs.AllOf.{AllOf}
use Rattle.cd_model.specs.BuiltIns.{built_ins}
use Rattle.cd_model.specs.Formula.{Graph, Formula, IsFormula, IsGraph, Not, in_node}
use Rattle.cd_model.proofs.BothWays.{turned}
use Rattle.cd_rules.specs.Family.{AsksNodes}
use Rattle.cd_builders.specs.Unions.{IsFormulaOfUnion, IsNodeOfUnion}
use Rattle.cd_products.specs.Keeping.{IsFormulaOfQuestion}
use Rattle.cd_records.specs.Inner.Entries.{InOneQuestion}
use Rattle.cd_records.specs.Inner.Standing.{Adds, HoldsOutside, HoldsUnion}
use Rattle.cd_records.proofs.NodesStand.{adds_one, holds_new, holds_old, outside_new}

-- a node that is there already
pub known_holds : (graph more : Graph) → graph ≡ built_ins ++ more → IsGraph graph
    → (batch : List Formula) (asked : List Question) → AllOf (AsksNodes (length graph)) asked
    → (id : NodeId) → IsNodeOfUnion asked id → (questions : List Question) → asked ≡ questions
    → HoldsUnion graph batch questions id
known_holds graph more begins sound batch asked asks id is questions same =
    subst (λ (all : List Question). HoldsUnion graph batch all id) same
    (holds_old graph sound batch asked id
    (subst (λ (g : Graph). id.0 < length g) (sym begins)
    (is.node more (subst (λ (g : Graph). AllOf (AsksNodes (length g)) asked) begins asks)))
    (λ e. subst (λ (g : Graph). InOneQuestion (in_node g) asked e ↔ in_node g e id true)
    (sym begins) (turned (is.exact more e))))

module _ (graph : Graph) (sound : IsGraph graph) (batch new : List Formula) (id : NodeId)
    (at : id.0 ≡ length graph + length batch) where
  pub union_put : (questions : List Question) (f : Formula) → IsFormulaOfUnion graph questions f
      → new ≡ batch ++ f ∷ [] → HoldsUnion graph new questions id
  union_put questions f union added = subst
      (λ (all : List Formula). HoldsUnion graph all questions id) (sym added)
      (holds_new graph sound batch f union.sound id at questions union)

  pub outside_put : (question : Question) (inside f : Formula)
      → IsFormulaOfQuestion graph question inside → f ≡ Not inside
      → new ≡ batch ++ f ∷ [] → HoldsOutside graph new question id
  outside_put question inside f is_formula negated added = subst
      (λ (all : List Formula). HoldsOutside graph all question id) (sym added)
      (subst (λ (f : Formula). HoldsOutside graph (batch ++ f ∷ []) question id) (sym negated)
      (outside_new graph sound batch (Not inside) is_formula.sound id at question
      is_formula.elements))

-- the formulas of a graph that are added
pub adds_union : (graph : Graph) (batch new : List Formula) (questions : List Question)
    (f : Formula) → IsFormulaOfUnion graph questions f → new ≡ batch ++ f ∷ [] → Adds graph batch new
adds_union graph batch new questions f union added = adds_one graph batch f union.sound new added

pub adds_outside : (graph : Graph) (batch new : List Formula) (question : Question)
    (inside f : Formula) → IsFormulaOfQuestion graph question inside → f ≡ Not inside
    → new ≡ batch ++ f ∷ [] → Adds graph batch new
adds_outside graph batch new question inside f is_formula negated added =
    adds_one graph batch f (subst (IsFormula (length graph)) (sym negated) is_formula.sound) new
    added
