-- The formulas that are made of sound equations are those of a graph.
use Rattle.std.proofs.Common.{◌≡◌, ℕ, zero, suc, ◌-◌, Bool, true, false, List, [], ◌∷◌, map, Option, Some, None}
use Rattle.std.proofs.Common.{refl, if◌then◌else◌}
use Rattle.std.specs.Prelude.{nat_le}
use Rattle.std.specs.List.{slice_get}
use Rattle.std.specs.Option.{unwrap_or}
use Rattle.cd_sets.specs.declared.node_id.NodeId.{NodeId}
use Rattle.cd_model.specs.AllOf.{AllOf}
use Rattle.cd_model.specs.BuiltIns.{node}
use Rattle.cd_model.specs.Formula.{Graph, Formula, Nothing, IsFormula, AreFormulas, formula_at, formulas_of}
use Rattle.cd_shared.specs.Equation.{Equation, Equations, Is, Same, And, Or}
use Rattle.cd_resolve.specs.Inner.Solves.{signed, made}
use Rattle.cd_resolve.specs.Inner.Filling.{so_far, with_made, filled}
use Rattle.cd_resolve.proofs.EachOne.{each_set}
use Rattle.cd_resolve.proofs.LinksRows.{found}

-- the formula of any number is one of the graph
at_is_formula : (nodes : ℕ) (graph : Graph) (number : ℕ) → AllOf (IsFormula nodes) graph
    → IsFormula nodes (unwrap_or (slice_get graph number) Nothing)
at_is_formula nodes [] number each = tt
at_is_formula nodes (is ∷ graph) zero each = each.0
at_is_formula nodes (is ∷ graph) (suc number) each = at_is_formula nodes graph number each.1

-- an equation that is a formula has one of a graph with so many nodes
abbrev pub FormulaIn : (nodes : ℕ) → Equation → Type 0
FormulaIn nodes (Is is) = IsFormula nodes is
FormulaIn nodes equation = Unit {0}

module _ (old : Graph) (first total : ℕ) (olds : AllOf (IsFormula total) old) where
  -- where each of the formulas so far is one of the graph
  module _ (formulas : List Formula) (each : AllOf (IsFormula total) formulas) where
    so_far_is : (id : NodeId) → IsFormula total (so_far old first formulas id)
    so_far_is id = by_test (nat_le first id.0)
      where
        by_test : (test : Bool)
            → IsFormula total (if test then formula_at formulas (node (id.0 - first)) else formula_at old id)
        by_test true = at_is_formula total formulas (id.0 - first) each
        by_test false = at_is_formula total old id.0 olds

    with_sign_is : (kept : Bool) (is : Formula) → IsFormula total is → IsFormula total (signed kept is)
    with_sign_is true is sound = sound
    with_sign_is false is sound = sound

    signs_are : (signs : List (Bool × NodeId)) → AreFormulas total
        (formulas_of (map (λ sign. signed sign.0 (so_far old first formulas sign.1)) signs))
    signs_are [] = tt
    signs_are (sign ∷ signs) = (with_sign_is sign.0 _ (so_far_is sign.1), signs_are signs)

    nodes_are : (ids : List NodeId) → AreFormulas total (formulas_of (map (so_far old first formulas) ids))
    nodes_are [] = tt
    nodes_are (id ∷ ids) = (so_far_is id, nodes_are ids)

    made_is : (equation : Equation) → FormulaIn total equation
        → IsFormula total (made (so_far old first formulas) equation)
    made_is (Is is) sound = sound
    made_is (Same id) sound = so_far_is id
    made_is (And signs) sound = signs_are signs
    made_is (Or ids) sound = nodes_are ids

    with_made_are : (number : ℕ) (equation : Option Equation)
        → ((is : Equation) → equation ≡ Some is → FormulaIn total is)
        → AllOf (IsFormula total) (with_made old first formulas number equation)
    with_made_are number None sound = each
    with_made_are number (Some equation) sound =
        each_set (IsFormula total) formulas number _ (made_is equation (sound equation refl)) each

  -- however many are made
  pub filled_are : (all : Equations) → ((number : ℕ) (equation : Equation) → found all number ≡ Some equation
      → FormulaIn total equation)
      → (order : List ℕ) (formulas : List Formula) → AllOf (IsFormula total) formulas
      → AllOf (IsFormula total) (filled old first all order formulas)
  filled_are all sound [] formulas each = each
  filled_are all sound (number ∷ order) formulas each = filled_are all sound order _
      (with_made_are formulas each number (found all number) (sound number))
