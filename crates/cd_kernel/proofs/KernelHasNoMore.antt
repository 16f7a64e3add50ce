-- The kernel that the code makes of a pattern has no node that is no part, and no variable that
-- does not stand in the pattern.
use Rattle.std.proofs.Common.{◌<◌, ◌≤◌, ℕ, true, [], length, refl, ◌∙◌, arith}
use Rattle.cd_sets.specs.declared.node_id.NodeId.{NodeId}
use Rattle.cd_model.specs.BuiltIns.{built_ins}
use Rattle.cd_matching.specs.Kernel.{IsSound}
use Rattle.cd_matching.specs.Naming.{IsNamed}
use Rattle.cd_matching.specs.Pattern.{Pattern}
use Rattle.cd_kernel.specs.Alternatives.{HasAlternatives}
use Rattle.cd_kernel.specs.Labelled.{HasLabels}
use Rattle.cd_kernel.specs.Making.{the_types}
use Rattle.cd_kernel.specs.Parts.{HasNoMore}
use Rattle.cd_kernel.specs.WellMade.{IsWellMade}
use Rattle.cd_kernel.specs.Inner.Building.{built, kernel_of}
use Rattle.cd_kernel.specs.Inner.Gathering.{with_variables}
use Rattle.cd_kernel.proofs.GatheredNames.{variables_among, among_numbered}
use Rattle.cd_kernel.proofs.GoodPatterns.{good}
use Rattle.cd_kernel.proofs.KernelIsMade.{kernel_is_made}
use Rattle.cd_kernel.proofs.KernelVariables.{variables_stand}
use Rattle.cd_kernel.proofs.MadeIsSound.{kernels_are_sound}
use Rattle.cd_kernel.proofs.PatternsReached.{pattern_parts}

kernel_has_no_more : (IsType : NodeId → Type 0) (p : Pattern NodeId) → IsNamed p → HasLabels p
    → IsWellMade IsType p → HasAlternatives p → HasNoMore IsType the_types p (kernel_of p)
kernel_has_no_more IsType p named labels well others =
    let variables = with_variables p [] in
    let nodes = (built variables true p []).1 in
    record {
      parts = pattern_parts variables nodes IsType (λ name. true) true p []
          (good p named labels, named, well, others)
          (λ name b. (refl, among_numbered variables name (variables_among p [] name ∙ b)))
          (λ number x h. h) (λ number none. absurd (omega (arith, none)));
      variables = variables_stand p;
    }

pub kernel_is_sound : (n : ℕ) (p : Pattern NodeId) → length built_ins ≤ n → IsNamed p
    → HasLabels p → IsWellMade (λ id. id.0 < n) p → HasAlternatives p
    → IsSound (λ id. id.0 < n) (kernel_of p)
kernel_is_sound n p long named labels well others =
    kernels_are_sound n p (kernel_of p) long (kernel_is_made p named labels) named well others
    (kernel_has_no_more (λ id. id.0 < n) p named labels well others)
