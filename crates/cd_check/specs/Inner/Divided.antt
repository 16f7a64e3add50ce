-- Patterns with their sites, and what is matched, divided among them.
use Rattle.std.specs.Prelude.{◌≡◌, ◌<◌, true, List, [], ◌∷◌, length, Some}
use Rattle.cd_sets.specs.declared.node_id.NodeId.{NodeId}
use Rattle.cd_syntax.specs.Name.{Name}
use Rattle.cd_syntax.specs.PlainTree.{plain}
use Rattle.cd_syntax.specs.TypeTree.{Tree}
use Rattle.cd_model.specs.AllOf.{AllOf}
use Rattle.cd_model.specs.Formula.{Graph}
use Rattle.cd_model.specs.Scope.{Scope}
use Rattle.cd_model.specs.Thing.{Thing, IsElement}
use Rattle.cd_matching.specs.Captures.{Captures}
use Rattle.cd_matching.specs.Takes.{WrittenTakes}
use Rattle.cd_meaning.specs.Sets.{elements_of}
use Rattle.cd_names.specs.ProgramFaults.{is_seen, names_of}
use Rattle.cd_sites.specs.Sites.{IsSite}
use Rattle.cd_check.specs.declared.sites.Coming.{Coming}
use Rattle.cd_check.specs.declared.sites.Division.{Division}
use Rattle.cd_check.specs.declared.sites.Sited.{Sited}
use Rattle.cd_check.specs.Inner.Bodies.{Leaves, LeavesNoMore}

abbrev pub sited_pattern : Sited → Tree
sited_pattern sited = plain sited.pattern.now

-- the node of what its pattern takes
abbrev pub accepted_root : Sited → NodeId
accepted_root sited = sited.site.accepted.root

abbrev pub coming_pattern : Coming → Tree
coming_pattern coming = sited_pattern coming.sited.now

-- where it takes an element, each name that it binds captures something
abbrev pub CaptureAll : Scope → Tree → Type 0
CaptureAll scope pattern = (e : Thing) (captures : Captures Name) (name : Name) → IsElement e
    → WrittenTakes scope pattern e (Some captures) → is_seen (names_of pattern) name ≡ true
    → (d : Thing) × (captures name ≡ Some d)

module _ (graph : Graph) (scope : Scope) where
  -- the site is that of the pattern, each variable of which captures something
  pub record IsSited (sited : Sited) : Type 0 where
    pub site : IsSite graph scope (sited_pattern sited) sited.site
    pub bound : CaptureAll scope (sited_pattern sited)

  abbrev pub AreSited : List Sited → Type 0
  AreSited = AllOf IsSited

  -- what is matched comes to the first pattern, what that leaves to the next, and the rest is left
  abbrev pub Come : (matched : NodeId) → List Coming → (rest : NodeId) → Type 0
  Come matched [] rest = (matched.0 < length graph) × (rest ≡ matched)
  Come matched (coming ∷ comings) rest = (coming.matched ≡ matched) × (matched.0 < length graph)
      × IsSited coming.sited.now × (next : NodeId)
      × Leaves scope (coming_pattern coming) (elements_of graph matched) (elements_of graph next)
      × Come next comings rest
      × LeavesNoMore scope (coming_pattern coming) (elements_of graph matched)
      (elements_of graph next)

  abbrev pub IsDivision : Division → Type 0
  IsDivision division = Come division.matched division.comings.items division.rest
