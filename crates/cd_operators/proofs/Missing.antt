-- An element of one node that is outside another is none of the other's.
use Rattle.std.proofs.Common.{List, [], ◌∷◌}
use Rattle.cd_sets.specs.declared.node_id.NodeId.{NodeId}
use Rattle.cd_model.specs.Formula.{Graph, nodes}
use Rattle.cd_model.specs.Thing.{Thing}
use Rattle.cd_model.proofs.Apart.{element_apart}
use Rattle.cd_model.proofs.ApartAtNodes.{nodes_keep}
use Rattle.cd_rules.specs.Needs.{question}
use Rattle.cd_elements.specs.Table.{element_at}
use Rattle.cd_elements.specs.declared.shape.ElementId.{ElementId}
use Rattle.cd_verdicts.specs.Verdicts.{IsExact}
use Rattle.cd_verdicts.specs.declared.verdict.Verdict.TheVariants.{Inhabited}
use Rattle.cd_meaning.specs.Sets.{elements_of}
use Rattle.cd_operators.specs.Misfits.{Misses}

pub missing : (graph : Graph) (table : List Thing) (id needed : NodeId) (element : ElementId)
    → IsExact graph table (question (id ∷ []) (needed ∷ [])) (Inhabited element)
    → Misses graph table id (elements_of graph needed) element
missing graph table id needed element exact = record {
  named = exact.0;
  is_element = exact.1;
  inside = exact.2.0.0;
  missed = λ inside. element_apart (nodes graph) (nodes_keep graph) (element_at table element) needed inside exact.2.1.0;
}
