-- The nodes of a graph that hold the sequences of a regular expression.
use Rattle.std.specs.Prelude.{◌≡◌, ℕ, ◌+◌, ◌<◌, Bool, List, ◌++◌, ◌↔◌, length}
use Rattle.cd_model.specs.Thing.{Thing}
use Rattle.cd_model.specs.AllOf.{AllOf}
use Rattle.cd_model.specs.Formula.{Graph, Formula, IsFormula, nodes}
use Rattle.cd_model.specs.BuiltIns.{node}
use Rattle.cd_model.specs.Interfaces.{Interfaces, admits}
use Rattle.cd_model.specs.Membership.{Answers, answers, value_answers}
use Rattle.cd_model.specs.Types.{Items, items, are_in, no_closure, closure_maps}
use Rattle.cd_regex.specs.Regular.{Regular, fits}

-- the items of an element, and of a value, in a graph: what each answers at its nodes
abbrev pub items_of : Graph → Thing → Items Answers
items_of graph is = items (nodes graph) no_closure is

abbrev pub value_items_of : Graph → Interfaces → Thing → Items Answers
value_items_of graph interfaces is =
    items (nodes graph) (closure_maps (nodes graph) (admits interfaces)) is

-- in each graph whose formulas from this number on begin with the batch, the first of these nodes
-- holds just the sequences whose items fit the expression
pub record HoldsSequences (first : ℕ) (regular : Regular) (batch : List Formula) : Type 0 where
  pub sound : AllOf (IsFormula (first + length batch)) batch
  pub some : 0 < length batch
  pub elements : (before after : Graph) (is : Thing) (answer : Bool) → length before ≡ first
      → answers (before ++ batch ++ after) is (node first) answer
      ↔ are_in (items_of (before ++ batch ++ after) is) (fits regular) answer
  pub values : (before after : Graph) (interfaces : Interfaces) (is : Thing) (answer : Bool)
      → length before ≡ first
      → value_answers (before ++ batch ++ after) interfaces is (node first) answer
      ↔ are_in (value_items_of (before ++ batch ++ after) interfaces is) (fits regular) answer
