-- The pattern of a branch over the nodes of a graph.
use Rattle.std.specs.Prelude.{◌≡◌, ◌++◌}
use Rattle.cd_sets.specs.declared.node_id.NodeId.{NodeId}
use Rattle.cd_syntax.specs.TypeTree.{Tree}
use Rattle.cd_model.specs.BuiltIns.{built_ins}
use Rattle.cd_model.specs.Formula.{Graph, IsGraph}
use Rattle.cd_model.specs.Scope.{Scope}
use Rattle.cd_matching.specs.Naming.{IsNamed}
use Rattle.cd_matching.specs.Pattern.{Pattern}
use Rattle.cd_matching.specs.PlainKernel.{plain_kernel}
use Rattle.cd_matching.specs.Takes.{IsResolved}
use Rattle.cd_matching.specs.WrittenPattern.{pattern_of}
use Rattle.cd_kernel.specs.Making.{TakesAlike}
use Rattle.cd_filter.specs.Accepting.{place, IsAcceptedFrom}
use Rattle.cd_sites.specs.declared.site.Site.{Site}

-- the graph is sound and begins with the built-in nodes, and nodes of it accept what the nodes of
-- the site's kernel take
pub record IsAccepted (graph : Graph) (site : Site) : Type 0 where
  pub begins : (more : Graph) × (graph ≡ built_ins ++ more)
  pub sound : IsGraph graph
  pub nodes : IsAcceptedFrom graph (plain_kernel site.kernel.now) site.accepted.first
  pub root : site.accepted.root ≡ place site.accepted.first site.kernel.now.root

-- and its kernel takes what the written pattern takes, no variable of which is at fault
pub record IsSite (graph : Graph) (scope : Scope) (written : Tree) (site : Site) : Type 0 where
  pub accepted : IsAccepted graph site
  pub pattern : Pattern NodeId
  pub resolved : IsResolved graph pattern scope written
  pub named : IsNamed (pattern_of scope written)
  pub alike : TakesAlike pattern (plain_kernel site.kernel.now)
