-- What is captured of elements of a node, in the graph that grew by the nodes for it.
use Rattle.std.proofs.Common.{◌≡◌, ◌<◌, ◌++◌, true, List, [], length, sym, subst}
use Rattle.cd_sets.specs.declared.node_id.NodeId.{NodeId}
use Rattle.cd_syntax.specs.Name.{Name}
use Rattle.cd_syntax.specs.TypeTree.{Tree}
use Rattle.cd_model.proofs.Extending.{kept_elements}
use Rattle.cd_model.specs.Formula.{Graph, IsGraph, in_node}
use Rattle.cd_model.specs.Scope.{Scope}
use Rattle.cd_model.specs.Thing.{Thing}
use Rattle.cd_matching.specs.PlainKernel.{plain_kernel}
use Rattle.cd_meaning.specs.Sets.{elements_of}
use Rattle.cd_typing.specs.Branches.{HoldCaptured}
use Rattle.cd_explored.specs.Captures.{AreExactCaptures}
use Rattle.cd_coming.specs.CapturedTypes.{types_of, HoldNoMore}
use Rattle.cd_sites.specs.Sites.{IsSite}
use Rattle.cd_sites.specs.declared.site.Site.{Site}
use Rattle.cd_coming.proofs.HeldCaptures.{names_in, ids_in, hold, hold_no_more, first_in}
use Rattle.cd_sites.proofs.SitesStay.{site_stays}

module _ (old new : Graph) (grows : (more : Graph) × (new ≡ old ++ more)) (sound : IsGraph new)
    (site : Site) (matched : NodeId) (below : matched.0 < length old)
    (all : List (Name × NodeId)) (names : names_in all ≡ (plain_kernel site.kernel.now).variables)
    (exact : AreExactCaptures new matched (plain_kernel site.kernel.now) (ids_in all))
    (scope : Scope) (written : Tree) (is : IsSite old scope written site) where
  still : IsSite new scope written site
  still = subst (λ (g : Graph). IsSite g scope written site) (sym grows.1)
      (site_stays old grows.0 (subst IsGraph grows.1 sound) site scope written is)

  in_new : (e : Thing) → elements_of old matched e → elements_of new matched e
  in_new e here = subst (λ (g : Graph). in_node g e matched true) (sym grows.1)
      ((kept_elements old grows.0 is.accepted.sound e matched true below).0 here)

  in_old : (e : Thing) → elements_of new matched e → elements_of old matched e
  in_old e here = (kept_elements old grows.0 is.accepted.sound e matched true below).1
      (subst (λ (g : Graph). in_node g e matched true) grows.1 here)

  pub held : HoldCaptured scope (types_of new all) [] written (elements_of old matched)
  held e captures first = hold new scope written site still matched all names exact e captures
      (first_in scope written (elements_of old matched) (elements_of new matched) in_new e captures
      first)

  pub held_alone : HoldNoMore scope (types_of new all) written (elements_of old matched)
  held_alone name t d type_is element inside =
      let found = hold_no_more new scope written site still matched all names exact name t d
      type_is element inside in (
        found.0,
        found.1,
        first_in scope written (elements_of new matched) (elements_of old matched) in_old found.0
            found.1 found.2,
        found.3,
      )
