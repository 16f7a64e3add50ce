-- What is reported of two nodes, and that a node stands for what a text reads as in each longer graph.
use Rattle.std.proofs.Common.{List, ◌++◌}
use Rattle.std.specs.Prelude.{[], ◌∷◌, codes, encode_utf8_all}
use Rattle.cd_base.specs.declared.status.Status.TheVariants.{No}
use Rattle.cd_sets.specs.declared.node_id.NodeId.{NodeId}
use Rattle.cd_syntax.specs.TypeTree.{Declarations}
use Rattle.cd_model.specs.Thing.{Thing}
use Rattle.cd_model.specs.Canonical.{canonical}
use Rattle.cd_model.specs.Formula.{Graph, IsGraph}
use Rattle.cd_model.proofs.StandsKept.{stands_kept}
use Rattle.cd_rules.specs.Needs.{question}
use Rattle.cd_elements.specs.Table.{element_at}
use Rattle.cd_elements.specs.declared.shape.ElementId.{ElementId}
use Rattle.cd_verdicts.specs.Verdicts.{IsExact}
use Rattle.cd_verdicts.specs.declared.verdict.Verdict.TheVariants.{Inhabited}
use Rattle.cd_replies.specs.Bytes.{Bytes}
use Rattle.cd_replies.specs.Naming.{StandsForText}
use Rattle.cd_replies.specs.Reply.{says}
use Rattle.cd_sub.specs.Inner.Comparing.{outside, ComparesNodes}

pub reads_kept : (graph more : Graph) (id : NodeId) (declared : Declarations) (text : Bytes) → IsGraph graph
    → StandsForText graph id declared text → StandsForText (graph ++ more) id declared text
reads_kept graph more id declared text sound reads = record {
  type = reads.type;
  reads = reads.reads;
  stands = stands_kept graph more id reads.type sound reads.stands;
}

-- an element that was found is in the first node and outside the second
pub found : (graph : Graph) (table : List Thing) (first second : NodeId) (id : ElementId)
    → IsExact graph table (question (first ∷ []) (second ∷ [])) (Inhabited id)
    → ComparesNodes graph first second (says No (codes "no: " ++ encode_utf8_all (canonical (element_at table id))))
found graph table first second id exact = outside (element_at table id) exact.1 exact.2.0.0 exact.2.1.0
