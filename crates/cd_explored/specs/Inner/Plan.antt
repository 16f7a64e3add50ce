-- What formulas are made from.
use Rattle.std.specs.Prelude.{◌≡◌, ℕ, ◌+◌, List, [], ◌∷◌, map, length, Some}
use Rattle.std.specs.List.{slice_get}
use Rattle.cd_sets.specs.declared.node_id.NodeId.{NodeId}
use Rattle.cd_syntax.specs.Name.{Name}
use Rattle.cd_syntax.specs.declared.constant.Constant.{Constant}
use Rattle.cd_syntax.specs.declared.constant.Constant.TheVariants.{Text}
use Rattle.cd_model.specs.AllOf.{AllOf}
use Rattle.cd_model.specs.BuiltIns.{node}
use Rattle.cd_model.specs.Formula.{Graph}
use Rattle.cd_model.specs.Thing.{IsElement}
use Rattle.cd_graph.specs.Nodes.{nodes}
use Rattle.cd_matching.specs.Kernel.{KernelNode, Put}
use Rattle.cd_matching.specs.Sequences.{thing_of}
use Rattle.cd_rules.specs.Family.{AsksNodes}
use Rattle.cd_filter.specs.Table.{Place}
use Rattle.cd_explored.specs.declared.plan.Plan.{Plan as CodePlan}
use Rattle.cd_explored.specs.declared.step.Step.{Step}
use Rattle.cd_explored.specs.declared.step.Step.TheVariants.{Puts}
use Rattle.cd_explored.specs.Inner.PlainSteps.{plain_places}
use Rattle.cd_explored.specs.Inner.Reached.{Rows, rows_of}

-- a graph, the number of the node of what is wanted first, the places that are explored and their
-- steps, and the text of the constant of each node of a kernel
pub record Plan : Type 0 where
  pub graph : Graph
  pub first : ℕ
  pub places : List Place
  pub rows : Rows
  pub texts : List (List ℕ)

abbrev pub plain_plan : CodePlan → Plan
plain_plan plan = record {
  graph = nodes plan.graph.now;
  first = plan.first;
  places = plain_places plan.explored.now.places;
  rows = rows_of plan.explored.now.steps.items;
  texts = map (λ text. text.items) plan.texts.now;
}

abbrev pub text_of : Constant → List ℕ
text_of (Text text) = text
text_of constant = []

abbrev pub text_in : KernelNode NodeId → List ℕ
text_in (Put variable constant) = text_of constant
text_in node = []

-- the constant of a step is an element
abbrev pub IsSoundStep : Step → Type 0
IsSoundStep (Puts variable constant) = IsElement (thing_of constant.now)
IsSoundStep step = Unit {0}

-- the questions of places ask nodes of the graph, and the constants are elements
pub record IsSoundPlan (plan : Plan) : Type 0 where
  pub asks : AllOf (λ place. AsksNodes (length plan.graph) place.question) plan.places
  pub constants : AllOf (AllOf IsSoundStep) plan.rows

-- each place stands once
abbrev pub StandOnce : List Place → Type 0
StandOnce places = (one other : ℕ) (place : Place) → slice_get places one ≡ Some place
    → slice_get places other ≡ Some place → one ≡ other

-- the plan of a kernel
abbrev pub plan_from : Graph → (first : ℕ) → List (KernelNode NodeId) → List Place → Rows → Plan
plan_from graph first kernel_nodes places rows = record {
  graph = graph;
  first = first;
  places = places;
  rows = rows;
  texts = map text_in kernel_nodes;
}

-- names, with nodes from a number on
abbrev pub named_from : (first : ℕ) → List Name → List (Name × NodeId)
named_from first [] = []
named_from first (name ∷ names) = (name, node first) ∷ named_from (first + 1) names
