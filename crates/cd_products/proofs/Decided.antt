-- What elements answer at nodes is decided, and no thing answers both.
use Rattle.std.proofs.Common.{true, false}
use Rattle.cd_sets.specs.declared.node_id.NodeId.{NodeId}
use Rattle.cd_model.specs.Formula.{Graph, nodes, in_node}
use Rattle.cd_model.specs.Interfaces.{Interfaces, admits, value_in_node}
use Rattle.cd_model.specs.Thing.{Thing, IsElement}
use Rattle.cd_model.proofs.Apart.{element_apart, value_apart}
use Rattle.cd_model.proofs.ApartAtNodes.{nodes_keep}
use Rattle.cd_model.proofs.Decided.{element_decides}
use Rattle.cd_model.proofs.DecidedAtNodes.{nodes_decide}
use Rattle.cd_products.specs.QuestionBoxes.{AreDecided}

pub elements_decided : (graph : Graph) → AreDecided (in_node graph) IsElement
elements_decided graph e id sort = element_decides (nodes graph) (nodes_decide graph) e id

pub elements_apart : (graph : Graph) (e : Thing) (id : NodeId) → in_node graph e id true
    → in_node graph e id false → ⊥
elements_apart graph = element_apart (nodes graph) (nodes_keep graph)

pub values_apart : (graph : Graph) (interfaces : Interfaces) (v : Thing) (id : NodeId)
    → value_in_node graph interfaces v id true → value_in_node graph interfaces v id false → ⊥
values_apart graph interfaces = value_apart (nodes graph) (nodes_keep graph) (admits interfaces)
