use Rattle.std.proofs.Common.{◌<◌, sym, ap, subst, ◌∙◌}
use Rattle.cd_sets.specs.declared.node_id.NodeId.{NodeId}
use Rattle.cd_matching.specs.Naming.{IsNamed}
use Rattle.cd_matching.specs.PlainKernel.{plain_kernel}
use Rattle.cd_matching.specs.PlainPattern.{plain}
use Rattle.cd_matching.specs.Take.{take}
use Rattle.cd_kernel.specs.Alternatives.{HasAlternatives}
use Rattle.cd_kernel.specs.Labelled.{HasLabels}
use Rattle.cd_kernel.specs.WellMade.{IsWellMade}
use Rattle.cd_kernel.proofs.CompletedNames.{completed_named}
use Rattle.cd_kernel.proofs.CompletedParts.{completed_has, completed_labels, completed_made}
use Rattle.cd_kernel.proofs.CompletedTakes.{takes_same}
use Rattle.cd_kernel.proofs.KernelsAreExact.{kernels_are_exact}
use Rattle.cd_kernel.proofs.make.kernel.Goals as goal

-- what is known of the pattern is known of the completed one
pub kernel_made-requires-clause-named : goal.kernel_made-requires-clause-named
kernel_made-requires-clause-named c = subst IsNamed (sym c.in_ok-complete.ensures)
    (completed_named (plain c.args.pattern.now) c.requires.named)

pub kernel_made-requires-clause-labels : goal.kernel_made-requires-clause-labels
kernel_made-requires-clause-labels c = subst HasLabels (sym c.in_ok-complete.ensures)
    (completed_labels (plain c.args.pattern.now) c.requires.labels)

-- it takes the same
pub returns-clause-takes : goal.returns-clause-takes
returns-clause-takes c = λ test nil any empty d.
    let takes = kernels_are_exact (plain c.in_ok-complete.complete)
    (plain_kernel c.in_ok-kernel_made.field-0) c.in_ok-kernel_made.ensures.made in
    takes test nil any empty d
    ∙ ap (λ p. take NodeId test p d) c.in_ok-complete.ensures
    ∙ takes_same NodeId test (plain c.args.pattern.now) d

pub returns-clause-sound : goal.returns-clause-sound
returns-clause-sound c = λ nodes long well.
    let p = plain c.args.pattern.now in
    c.in_ok-kernel_made.ensures.sound nodes long
    (subst (IsWellMade (λ id. id.0 < nodes)) (sym c.in_ok-complete.ensures)
    (completed_made (λ id. id.0 < nodes) p well))
    (subst HasAlternatives (sym c.in_ok-complete.ensures) (completed_has p))
