-- Equations between which all ways end have formulas that solve them.
use Rattle.std.proofs.Common.{ℕ, ◌<◌, ◌≤◌, List, length, map, refl, arith}
use Rattle.cd_model.specs.Formula.{Graph, Formula, IsGraph}
use Rattle.cd_shared.specs.Equation.{Equations}
use Rattle.cd_resolve.specs.Inner.Filling.{at_once, left, filled}
use Rattle.cd_resolve.specs.Inner.Links.{links}
use Rattle.cd_resolve.specs.Inner.Order.{Ends, IsOrder}
use Rattle.cd_resolve.specs.Inner.Solves.{AreEquations}
use Rattle.cd_resolve.proofs.LinksRows.{are_rows, links_length}
use Rattle.cd_resolve.proofs.Solved.{IsSolved, is_solved}
use Rattle.cd_nodes.proofs.Orders.{has_order}

pub has_solution : (old : Graph) → IsGraph old → (first : ℕ) → length old ≤ first → (equations : Equations)
    → AreEquations (length old) first equations
    → ((number : ℕ) → number < length equations → Ends (links first equations) number)
    → (batch : List Formula) × IsSolved old first equations batch
has_solution old olds first fits equations sound ends =
    (batch, is_solved old first fits equations sound olds batch (order.0, order.1, refl))
  where
    order : (order : List ℕ) × IsOrder (links first equations) order
    order = has_order (links first equations) (are_rows (length old) first equations fits sound)
        (λ number below. ends number (omega (arith, below, links_length first equations)))

    batch : List Formula
    batch = filled old first (map left equations) order.0 (map at_once equations)
