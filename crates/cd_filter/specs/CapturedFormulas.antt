-- The formula of a node for a variable: the union of a formula for each step that gives the
-- variable something at a place that is reached.
use Rattle.std.specs.Prelude.{◌≡◌, ◌↔◌, ℕ, true, List, map}
use Rattle.cd_sets.specs.declared.node_id.NodeId.{NodeId}
use Rattle.cd_model.specs.AllOf.{AllOf, AnyOf}
use Rattle.cd_model.specs.Formula as formula
use Rattle.cd_model.specs.Formula.{Graph, Formula, formulas_of, at_formula, holds, nodes}
use Rattle.cd_model.specs.Thing.{Thing}
use Rattle.cd_model.specs.Types.{Mapping, reader, answers}
use Rattle.cd_filter.specs.CapturedNodes.{Reaches, GivesAt}
use Rattle.cd_filter.specs.Table.{Place, Step, Takes, Puts, Leads, Gathers, Table, HasStep}

-- a step at a place, and a formula for it
pub record Entry : Type 0 where
  pub place : Place
  pub step : Step
  pub formula : Formula

abbrev pub of_entry : Entry → Formula
of_entry entry = entry.formula

abbrev pub captured_formula : List Entry → Formula
captured_formula entries = formula.Or (formulas_of (map of_entry entries))

-- the steps that give the variable something by themselves
abbrev pub IsOfVariable : (variable : ℕ) → Step → Type 0
IsOfVariable variable (Takes other) = other ≡ variable
IsOfVariable variable (Puts other constant) = other ≡ variable
IsOfVariable variable (Leads but next) = ⊥
IsOfVariable variable (Gathers other item next) = other ≡ variable

-- the entries are of steps of the places that are reached, and each such step of the variable has
-- one
pub record AreReached (table : Table) (variable : ℕ) (place : Place) (entries : List Entry)
    : Type 0 where
  pub reached : AllOf
      (λ entry. Reaches table variable place entry.place × HasStep table entry.place entry.step)
      entries
  pub all : (last : Place) (step : Step) → Reaches table variable place last
      → HasStep table last step → IsOfVariable variable step
      → AnyOf (λ entry. (entry.place ≡ last) × (entry.step ≡ step)) entries

-- the formula holds exactly what the step gives, of things of a sort, where closures map so
abbrev pub IsStepFormula : Graph → (closed : ℕ → Mapping NodeId) → (Sort : Thing → Type 0)
    → (variable : ℕ) → (id : Place → NodeId) → Entry → Type 0
IsStepFormula graph closed Sort variable id entry = (d : Thing) → Sort d
    → holds (at_formula (reader (nodes graph) closed d)) entry.formula true
    ↔ GivesAt (answers (nodes graph) closed) Sort variable id entry.place d entry.step
