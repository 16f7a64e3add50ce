-- What is said of what comes to a branch, by whether its pattern takes anything.
use Rattle.std.proofs.Common.{◌≡◌, ◌<◌, List, [], length, Option, Some, None, MatchOption, subst}
use Rattle.cd_sets.specs.declared.node_id.NodeId.{NodeId}
use Rattle.cd_syntax.specs.Name.{Name}
use Rattle.cd_syntax.specs.TypeTree.{Tree}
use Rattle.cd_model.specs.AllOf.{AllOf}
use Rattle.cd_model.specs.Formula.{Graph}
use Rattle.cd_model.specs.Scope.{Scope}
use Rattle.cd_model.specs.Thing.{Thing}
use Rattle.cd_elements.specs.Table.{Names, element_at}
use Rattle.cd_elements.specs.declared.shape.ElementId.{ElementId}
use Rattle.cd_meaning.specs.Sets.{elements_of}
use Rattle.cd_typing.specs.Branches.{HoldCaptured}
use Rattle.cd_sites.specs.Sites.{IsSite}
use Rattle.cd_sites.specs.TakenElements.{IsTakenFrom}
use Rattle.cd_sites.specs.declared.site.Site.{Site}
use Rattle.cd_coming.specs.CapturedTypes.{types_of, HoldNoMore}
use Rattle.cd_coming.specs.Coming.{NothingComes, SomethingComes}

module _ (graph : Graph) (matched : NodeId) (site : Site) (table : List Thing) (found : Option ElementId) where
  -- the element with this number is taken
  abbrev IsOne : ElementId → Type 0
  IsOne id = Names table id × ((scope : Scope) (written : Tree) → IsSite graph scope written site
      → IsTakenFrom scope written (elements_of graph matched) (element_at table id))

  module _ (taken : MatchOption found (NothingComes graph matched site) IsOne) where
    pub nothing : found ≡ None → NothingComes graph matched site
    nothing is = subst (λ (one : Option ElementId). MatchOption one (NothingComes graph matched site) IsOne) is taken

    -- in a graph of another name the types hold what is captured
    pub something : (id : ElementId) → found ≡ Some id → (same : Graph) → same ≡ graph → (new : Graph) (own : List (Name × NodeId))
        → ((scope : Scope) (written : Tree) → IsSite same scope written site
        → HoldCaptured scope (types_of new own) [] written (elements_of same matched))
        → ((scope : Scope) (written : Tree) → IsSite same scope written site
        → HoldNoMore scope (types_of new own) written (elements_of same matched))
        → AllOf (λ one. one.1.0 < length new) own → SomethingComes graph matched site new own
    something id is same here new own hold only nodes = record {
      taken = λ scope written of. (
        element_at table id,
        (subst (λ (one : Option ElementId). MatchOption one (NothingComes graph matched site) IsOne) is taken).1 scope written of,
      );
      hold = subst (λ (graph : Graph). (scope : Scope) (written : Tree) → IsSite graph scope written site
          → HoldCaptured scope (types_of new own) [] written (elements_of graph matched)) here hold;
      only = subst (λ (graph : Graph). (scope : Scope) (written : Tree) → IsSite graph scope written site
          → HoldNoMore scope (types_of new own) written (elements_of graph matched)) here only;
      nodes = nodes;
    }
