-- What is said of two nodes of a graph.
use Rattle.std.specs.Prelude.{true, false, ◌++◌, codes, encode_utf8_all}
use Rattle.cd_base.specs.declared.status.Status.TheVariants.{Done, No}
use Rattle.cd_sets.specs.declared.node_id.NodeId.{NodeId}
use Rattle.cd_model.specs.Thing.{Thing, IsElement}
use Rattle.cd_model.specs.Canonical.{canonical}
use Rattle.cd_model.specs.Formula.{Graph}
use Rattle.cd_model.specs.Membership.{answers}
use Rattle.cd_replies.specs.Reply.{Reply, says}

-- each element of the first is in the second, or this one is outside
pub data ComparesNodes (graph : Graph) (first second : NodeId) : Reply → Type 0 where
  within : ((is : Thing) → IsElement is → answers graph is first true
      → answers graph is second true)
      → ComparesNodes graph first second (says Done (codes "yes"))
  outside : (element : Thing) → IsElement element → answers graph element first true
      → answers graph element second false
      → ComparesNodes graph first second
      (says No (codes "no: " ++ encode_utf8_all (canonical element)))
