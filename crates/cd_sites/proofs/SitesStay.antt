-- A site stays one in each longer graph that is sound.
use Rattle.std.proofs.Common.{◌++◌, ap, ◌∙◌, append_assoc, sym, subst}
use Rattle.cd_syntax.specs.TypeTree.{Tree}
use Rattle.cd_model.specs.BuiltIns.{built_ins}
use Rattle.cd_model.specs.Formula.{Graph, IsGraph}
use Rattle.cd_model.specs.Scope.{Scope}
use Rattle.cd_matching.specs.PlainKernel.{plain_kernel}
use Rattle.cd_matching.proofs.ResolvedPatterns.{resolved_kept}
use Rattle.cd_empty.specs.Growth.{Grows}
use Rattle.cd_empty.specs.Seen.{Seen, graph_of}
use Rattle.cd_sites.specs.Sites.{IsAccepted, IsSite}
use Rattle.cd_sites.specs.declared.site.Site.{Site}
use Rattle.cd_sites.proofs.AcceptedStays.{accepted_stays}

module _ (graph more : Graph) (sound : IsGraph (graph ++ more)) (site : Site) where
  pub still_accepted : IsAccepted graph site → IsAccepted (graph ++ more) site
  still_accepted is = record {
    begins = (
      is.begins.0 ++ more,
      ap (λ (g : Graph). g ++ more) is.begins.1 ∙ append_assoc built_ins is.begins.0 more,
    );
    sound = sound;
    nodes = accepted_stays graph more (plain_kernel site.kernel.now) site.accepted.first is.nodes
        is.begins.0 is.begins.1;
    root = is.root;
  }

  pub site_stays : (scope : Scope) (written : Tree) → IsSite graph scope written site
      → IsSite (graph ++ more) scope written site
  site_stays scope written is = record {
    accepted = still_accepted is.accepted;
    pattern = is.pattern;
    resolved = resolved_kept graph more is.pattern scope written is.accepted.sound is.resolved;
    named = is.named;
    alike = is.alike;
  }

-- so does it where the world grew
pub site_grown : (old new : Seen) (scope : Scope) (written : Tree) (site : Site)
    → IsSite (graph_of old) scope written site → Grows old new → IsGraph (graph_of new)
    → IsSite (graph_of new) scope written site
site_grown old new scope written site is grows sound = let more = grows.graph in
    subst (λ (g : Graph). IsSite g scope written site) (sym more.1)
    (site_stays (graph_of old) more.0 (subst IsGraph more.1 sound) site scope written is)
