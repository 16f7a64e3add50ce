-- The sites of patterns have nodes of what the patterns take.
use Rattle.std.proofs.Common.{◌<◌, true, inl, inr, List, [], ◌∷◌, Option, Some, None, length, map, sym, subst, arith}
use Rattle.cd_sets.specs.declared.node_id.NodeId.{NodeId}
use Rattle.cd_syntax.specs.Name.{Name}
use Rattle.cd_syntax.specs.TypeTree.{Tree}
use Rattle.cd_model.specs.Formula.{Graph, in_node}
use Rattle.cd_model.specs.Scope.{Scope}
use Rattle.cd_model.specs.Thing.{Thing, IsElement}
use Rattle.cd_model.proofs.DecidedAtNodes.{in_or_outside}
use Rattle.cd_matching.specs.Captures.{Captures}
use Rattle.cd_matching.specs.Takes.{WrittenTakes}
use Rattle.cd_matched.specs.Accepted.{IsAccepted, AreAccepted}
use Rattle.cd_sites.specs.Sites.{IsSite}
use Rattle.cd_sites.specs.declared.site.Site.{Site}
use Rattle.cd_sites.proofs.WrittenTaken.{inside, outside, takes_once}
use Rattle.cd_check.specs.declared.sites.Sited.{Sited}
use Rattle.cd_check.specs.Inner.Divided.{AreSited, sited_pattern, accepted_root}

abbrev IsSome : Option (Captures Name) → Type 0
IsSome None = ⊥
IsSome (Some captures) = Unit {0}

module _ (scope : Scope) (graph : Graph) where
  module _ (pattern : Tree) (site : Site) (is : IsSite graph scope pattern site) where
    taken_inside : (e : Thing) → IsElement e → (captures : Captures Name) → WrittenTakes scope pattern e (Some captures)
        → in_node graph e site.accepted.root true
    taken_inside e element captures takes = elim (in_or_outside graph e site.accepted.root) [
      | inl here ↦ here
      | inr out ↦ absurd (subst IsSome (takes_once graph scope pattern site is e (Some captures) None element takes
          (outside graph scope pattern site is e element out)) tt)
    ]

    pub root_accepted : IsAccepted scope graph pattern site.accepted.root
    root_accepted = record {
      node = subst (λ (id : NodeId). id.0 < length graph) (sym is.accepted.root)
          (omega (arith, is.accepted.nodes.sound.root, is.accepted.nodes.within));
      whole = λ e element comes. elim comes [
        | inl takes ↦ taken_inside e element takes.0 takes.1
        | inr none ↦ absurd none
      ];
      only = λ e element here. inl (inside graph scope pattern site is e element here);
    }

  pub all_accepted : (sites : List Sited) → AreSited graph scope sites
      → AreAccepted scope graph (map sited_pattern sites) (map accepted_root sites)
  all_accepted [] are = tt
  all_accepted (one ∷ sites) are = (root_accepted (sited_pattern one) one.site are.0.site, all_accepted sites are.1)
