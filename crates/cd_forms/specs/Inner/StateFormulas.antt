-- Formulas for the states of sequences that are followed by what is in a node.
use Rattle.std.specs.Prelude.{◌≡◌, ◌⊎◌, ◌+◌, ◌++◌, ℕ, Bool, true, false, List, [], ◌∷◌, length}
use Rattle.std.specs.Prelude.{Some}
use Rattle.std.specs.List.{slice_get, AllZip}
use Rattle.cd_sets.specs.declared.node_id.NodeId.{NodeId}
use Rattle.cd_sets.specs.declared.question.Question.{Question}
use Rattle.cd_model.specs.AllOf.{AllOf}
use Rattle.cd_model.specs.BuiltIns.{node}
use Rattle.cd_model.specs.Formula.{Graph, Formula, Pair, Or, formulas_of, formula_at}
use Rattle.cd_rules.specs.Family.{AsksNodes}
use Rattle.cd_products.specs.Keeping.{IsFormulaOfQuestion}
use Rattle.cd_forms.specs.declared.of_sequences.step.Step.{Step}
use Rattle.cd_forms.specs.Inner.Asking.{asking}
use Rattle.cd_forms.specs.Inner.States.{State}

-- what items are asked asks nodes of a graph of so many
abbrev pub StepsAsk : (count : ℕ) → List Step → Type 0
StepsAsk count = AllOf (λ step. AsksNodes count step.item)

abbrev pub StatesAsk : (count : ℕ) → List State → Type 0
StatesAsk count = AllOf (λ state. StepsAsk count state.steps)

-- the node of what an item is asked: the one that is asked alone, or one that comes after others
abbrev pub IsItemNode : (after : ℕ) → List Question → Question → NodeId → Type 0
IsItemNode after items question id = (question ≡ asking id)
    ⊎ ((number : ℕ) × (slice_get items number ≡ Some question) × (id ≡ node (after + number)))

-- the pairs of a step, where the nodes of states come from `first` on
abbrev pub IsStepFormula : (first after : ℕ) → List Question → Step → Formula → Type 0
IsStepFormula first after items step f = (id : NodeId) × IsItemNode after items step.item id
    × (f ≡ Pair id (node (first + step.rest)))

abbrev pub when_ends : Bool → Formula → List Formula
when_ends true end = end ∷ []
when_ends false end = []

-- what comes after the empty sequence, and the pairs of all steps
abbrev pub IsStateFormula : (first after : ℕ) → List Question → (end : Formula) → State → Formula
    → Type 0
IsStateFormula first after items end state f = (members : List Formula)
    × AllZip (IsStepFormula first after items) state.steps members
    × (f ≡ Or (formulas_of (when_ends state.ends end ++ members)))

-- the formulas of all states, and then those of what items are asked
pub record AreStateFormulas (graph : Graph) (second : NodeId) (states : List State)
    (batch : List Formula) : Type 0 where
  pub items : List Question
  pub made : List Formula
  pub others : List Formula
  pub made_for_states : AllZip
      (IsStateFormula (length graph) (length graph + length states) items
      (formula_at graph second)) states made
  pub made_for_items : AllZip (IsFormulaOfQuestion graph) items others
  pub whole : batch ≡ made ++ others
