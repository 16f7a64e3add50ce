-- What comes to a branch of what is in a node.
use Rattle.std.specs.Prelude.{◌<◌, List, [], length}
use Rattle.cd_sets.specs.declared.node_id.NodeId.{NodeId}
use Rattle.cd_syntax.specs.Name.{Name}
use Rattle.cd_syntax.specs.TypeTree.{Tree}
use Rattle.cd_model.specs.AllOf.{AllOf}
use Rattle.cd_model.specs.Formula.{Graph}
use Rattle.cd_model.specs.Scope.{Scope}
use Rattle.cd_model.specs.Thing.{Thing}
use Rattle.cd_meaning.specs.Sets.{elements_of}
use Rattle.cd_typing.specs.Branches.{HoldCaptured}
use Rattle.cd_sites.specs.Sites.{IsSite}
use Rattle.cd_sites.specs.TakenElements.{IsTakenFrom, TakesNone}
use Rattle.cd_sites.specs.declared.site.Site.{Site}
use Rattle.cd_coming.specs.CapturedTypes.{types_of, HoldNoMore}

module _ (graph : Graph) (matched : NodeId) (site : Site) where
  -- whatever pattern the site is of, it takes no element of the node
  abbrev pub NothingComes : Type 0
  NothingComes = (scope : Scope) (written : Tree) → IsSite graph scope written site
      → TakesNone scope written (elements_of graph matched)

  -- it takes one, and these nodes of a longer graph hold what its variables capture, and nothing else
  pub record SomethingComes (new : Graph) (own : List (Name × NodeId)) : Type 0 where
    pub taken : (scope : Scope) (written : Tree) → IsSite graph scope written site
        → (e : Thing) × IsTakenFrom scope written (elements_of graph matched) e
    pub hold : (scope : Scope) (written : Tree) → IsSite graph scope written site
        → HoldCaptured scope (types_of new own) [] written (elements_of graph matched)
    pub only : (scope : Scope) (written : Tree) → IsSite graph scope written site
        → HoldNoMore scope (types_of new own) written (elements_of graph matched)
    pub nodes : AllOf (λ one. one.1.0 < length new) own
