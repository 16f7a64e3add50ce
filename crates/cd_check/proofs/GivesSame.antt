-- What is given in a graph that stayed.
use Rattle.std.proofs.Common.{◌≡◌, sym, subst}
use Rattle.cd_sets.specs.declared.node_id.NodeId.{NodeId}
use Rattle.cd_model.specs.Formula.{Graph}
use Rattle.cd_typing.specs.Typ.{Typ, Types}
use Rattle.cd_check.specs.Inner.Environment.{Nodes, Gives}

pub gives_same : (old : Graph) (nodes : Nodes) (graph same : Graph) → same ≡ graph → (fact : Types → Typ → Type 0) (id : NodeId)
    → Gives old nodes graph fact id → Gives old nodes same fact id
gives_same old nodes graph same is fact id gives = subst (λ whole. Gives old nodes whole fact id) (sym is) gives
