-- A node with the formula of what is reached holds what is given at the places that are reached.
use Rattle.std.proofs.Common.{◌≡◌, inl, inr, ℕ, true, List, [], ◌∷◌, map, sym, subst}
use Rattle.cd_sets.specs.declared.node_id.NodeId.{NodeId}
use Rattle.cd_model.specs.AllOf.{AllOf, AnyOf}
use Rattle.cd_model.specs.Formula.{Graph, Formula, formulas_of, formula_at, at_formula, holds}
use Rattle.cd_model.specs.Formula.{one_holds}
use Rattle.cd_model.specs.Formula.{nodes as at_node}
use Rattle.cd_model.specs.Thing.{Thing}
use Rattle.cd_model.specs.Types.{Answers, Mapping, reader, answers}
use Rattle.cd_filter.specs.CapturedFormulas.{Entry, of_entry, captured_formula, IsOfVariable}
use Rattle.cd_filter.specs.CapturedFormulas.{AreReached, IsStepFormula}
use Rattle.cd_filter.specs.CapturedNodes.{Reaches, GivesAt, IsNodeOf}
use Rattle.cd_filter.specs.Table.{Place, Step, Takes, Puts, Leads, Gathers, Table, HasStep}

-- a step that gives something is of the variable
of_variable : (answers : Thing → Answers NodeId) (Sort : Thing → Type 0) (variable : ℕ)
    (id : Place → NodeId) (place : Place) (d : Thing) (step : Step)
    → GivesAt answers Sort variable id place d step → IsOfVariable variable step
of_variable answers Sort variable id place d (Takes other) given = given.0
of_variable answers Sort variable id place d (Puts other constant) given = given.0
of_variable answers Sort variable id place d (Leads but next) given = absurd given
of_variable answers Sort variable id place d (Gathers other item next) given = given.0

module _ (graph : Graph) (closed : ℕ → Mapping NodeId) (Sort : Thing → Type 0) (variable : ℕ)
    (id : Place → NodeId) where
  abbrev in_it : Thing → Answers NodeId
  in_it = answers (at_node graph) closed

  abbrev HoldsOf : Thing → Formula → Type 0
  HoldsOf d f = holds (at_formula (reader (at_node graph) closed d)) f true

  abbrev Gives : Place → Thing → Step → Type 0
  Gives = GivesAt in_it Sort variable id

  abbrev GivesBy : Thing → Entry → Type 0
  GivesBy d entry = Gives entry.place d entry.step

  abbrev IsHeld : Entry → Type 0
  IsHeld = IsStepFormula graph closed Sort variable id

  abbrev AnyHolds : Thing → List Entry → Type 0
  AnyHolds d entries = one_holds (at_formula (reader (at_node graph) closed d))
      (formulas_of (map of_entry entries)) true

  any_gives : (d : Thing) → Sort d → (entries : List Entry) → AllOf IsHeld entries
      → AnyHolds d entries → AnyOf (GivesBy d) entries
  any_gives d sound [] held h = h
  any_gives d sound (entry ∷ entries) held (inl here) = inl ((held.0 d sound).0 here)
  any_gives d sound (entry ∷ entries) held (inr later) =
      inr (any_gives d sound entries held.1 later)

  gives_any : (d : Thing) → Sort d → (entries : List Entry) → AllOf IsHeld entries
      → (place : Place) (step : Step)
      → AnyOf (λ entry. (entry.place ≡ place) × (entry.step ≡ step)) entries
      → Gives place d step → AnyHolds d entries
  gives_any d sound [] held place step one given = absurd one
  gives_any d sound (entry ∷ entries) held place step (inl same) given =
      inl ((held.0 d sound).1
      (subst (λ (p : Place). Gives p d entry.step) (sym same.0)
      (subst (Gives place d) (sym same.1) given)))
  gives_any d sound (entry ∷ entries) held place step (inr later) given =
      inr (gives_any d sound entries held.1 place step later given)

  -- the steps that are reached, and no others
  module _ (table : Table) (place : Place) where
    found : (entries : List Entry) (d : Thing)
        → AllOf (λ entry. Reaches table variable place entry.place
        × HasStep table entry.place entry.step) entries
        → AnyOf (GivesBy d) entries
        → (last : Place) × (step : Step) × Reaches table variable place last
        × HasStep table last step × Gives last d step
    found [] d all one = absurd one
    found (entry ∷ entries) d all (inl here) =
        (entry.place, entry.step, all.0.0, all.0.1, here)
    found (entry ∷ entries) d all (inr later) = found entries d all.1 later

    pub formula_gives : (entries : List Entry)
        → formula_at graph (id place) ≡ captured_formula entries → AllOf IsHeld entries
        → AreReached table variable place entries
        → IsNodeOf in_it Sort table variable id place
    formula_gives entries is held reached d sound = (
      λ h. found entries d reached.reached
          (any_gives d sound entries held (subst (HoldsOf d) is h)),
      λ given. subst (HoldsOf d) (sym is)
          (gives_any d sound entries held given.0 given.1
          (reached.all given.0 given.1 given.2 given.3
          (of_variable in_it Sort variable id given.0 d given.1 given.4)) given.4),
    )
