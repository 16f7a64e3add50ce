-- What is in a node and outside the accepted one of a site is what the written pattern leaves.
use Rattle.cd_sets.specs.declared.node_id.NodeId.{NodeId}
use Rattle.cd_syntax.specs.TypeTree.{Tree}
use Rattle.cd_model.specs.Formula.{Graph}
use Rattle.cd_model.specs.Scope.{Scope}
use Rattle.cd_meaning.specs.Sets.{◌⊆◌, elements_of}
use Rattle.cd_sites.specs.Inner.Differences.{IsDifference}
use Rattle.cd_sites.specs.Sites.{IsSite}
use Rattle.cd_sites.specs.TakenElements.{left_of}
use Rattle.cd_sites.specs.declared.site.Site.{Site}
use Rattle.cd_sites.proofs.WrittenTaken.{outside, left_outside}

module _ (graph new : Graph) (site : Site) (matched id : NodeId)
    (is_left : IsDifference graph matched site.accepted.root new id) (scope : Scope)
    (written : Tree) (is : IsSite graph scope written site) where
  pub left : elements_of new id ⊆ left_of scope written (elements_of graph matched)
  left e element here = let both = (is_left.elements e element).0 here in
      (both.0, outside graph scope written site is e element both.1)

  pub all_left : left_of scope written (elements_of graph matched) ⊆ elements_of new id
  all_left e element here = (is_left.elements e element).1
      (here.0, left_outside graph scope written site is e element here.1)
