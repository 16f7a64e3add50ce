-- A node that has an equation has the formula that this gives, in a graph that solves the equations.
use Rattle.std.proofs.Common.{◌≡◌, ℕ, ap, ◌∙◌}
use Rattle.cd_sets.specs.declared.node_id.NodeId.{NodeId}
use Rattle.cd_model.specs.Formula.{Graph, formula_at}
use Rattle.cd_shared.specs.Equation.{Equation, Equations}
use Rattle.cd_resolve.specs.Inner.Equates.{IsAt}
use Rattle.cd_resolve.specs.Inner.Solves.{Solves, made}

pub solved : (graph : Graph) (first : ℕ) (equations : Equations) (id : NodeId) (equation : Equation)
    → Solves graph first equations → IsAt first equations id equation
    → formula_at graph id ≡ made (formula_at graph) equation
solved graph first equations id equation solves at =
    ap (formula_at graph) at.there ∙ solves.each at.number equation at.is
