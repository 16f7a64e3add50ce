-- What is made of the kernel of a pattern is a site.
use Rattle.std.proofs.Common.{◌≡◌, ◌++◌, sym, ap, subst, ◌∙◌, append_assoc}
use Rattle.cd_syntax.specs.TypeTree.{Tree}
use Rattle.cd_model.specs.BuiltIns.{built_ins}
use Rattle.cd_model.specs.Formula.{Graph, IsGraph}
use Rattle.cd_model.specs.Scope.{Scope}
use Rattle.cd_matching.specs.PlainKernel.{plain_kernel}
use Rattle.cd_matching.specs.Takes.{IsResolved}
use Rattle.cd_matching.proofs.ResolvedPatterns.{resolved_kept}
use Rattle.cd_filter.specs.Accepting.{place, IsAcceptedFrom}
use Rattle.cd_resolved.specs.Kernels.{IsKernelOf}
use Rattle.cd_sites.specs.Sites.{IsSite}
use Rattle.cd_sites.specs.declared.site.Site.{Site}

-- in the graph with the nodes that accept it
pub is_site : (graph new : Graph) (site : Site) → IsGraph graph → (batch : Graph) → new ≡ graph ++ batch
    → (more : Graph) → graph ≡ built_ins ++ more → IsGraph new
    → IsAcceptedFrom new (plain_kernel site.kernel.now) site.accepted.first
    → site.accepted.root ≡ place site.accepted.first site.kernel.now.root
    → (scope : Scope) (written : Tree) → IsKernelOf graph scope written (plain_kernel site.kernel.now)
    → IsSite new scope written site
is_site graph new site before batch added more begins sound accepted root scope written kernel = record {
  accepted = record {
    begins = (more ++ batch, added ∙ ap (λ (g : Graph). g ++ batch) begins ∙ append_assoc built_ins more batch);
    sound = sound;
    nodes = accepted;
    root = root;
  };
  pattern = kernel.p;
  resolved = subst (λ (g : Graph). IsResolved g kernel.p scope written) (sym added)
      (resolved_kept graph batch kernel.p scope written before kernel.resolved);
  named = kernel.named;
  alike = kernel.alike;
}
