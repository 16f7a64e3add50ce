-- Formulas of a graph in a longer one, and those that come after it.
use Rattle.std.proofs.Common.{◌≡◌, ◌+◌, ℕ, zero, [], ◌∷◌, ◌++◌, length}
use Rattle.std.proofs.Common.{refl, ap, ◌∙◌, arith}
use Rattle.cd_sets.specs.declared.node_id.NodeId.{NodeId}
use Rattle.cd_model.specs.BuiltIns.{node}
use Rattle.cd_model.specs.Formula.{Formula, Graph}
use Rattle.cd_model.specs.Formula.{formula_at}
use Rattle.cd_model.proofs.FormulasAmongMore.{formula_after}

-- the formula that is put after those of a graph
pub formula_last : (graph : Graph) (f : Formula) (id : NodeId) → id.0 ≡ length graph
    → formula_at (graph ++ f ∷ []) id ≡ f
formula_last graph f id is =
    let place : id.0 ≡ length graph + zero = omega (arith, is) in
    ap (λ (n : ℕ). formula_at (graph ++ f ∷ []) (node n)) place
    ∙ formula_after graph (f ∷ []) zero f refl
