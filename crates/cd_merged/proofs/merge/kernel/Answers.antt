use Rattle.std.proofs.Common.{◌<◌}
use Rattle.cd_matching.specs.PlainKernel.{plain_kernel}
use Rattle.cd_matching.specs.PlainPattern.{plain}
use Rattle.cd_merged.proofs.ImagesAreSound.{merged_takes, merged_sound}
use Rattle.cd_merged.proofs.merge.kernel.Goals as goal

-- what is known of the kernel is known of the merged one
pub returns-clause-takes : goal.returns-clause-takes
returns-clause-takes c = merged_takes (plain c.args.pattern.now)
    (plain_kernel c.in_ok-kernel.kernel) (plain_kernel c.in_ok-merged.field-0)
    c.in_ok-merged.ensures c.in_ok-kernel.ensures.takes

pub returns-clause-sound : goal.returns-clause-sound
returns-clause-sound c = λ nodes long well. merged_sound (λ id. id.0 < nodes)
    (plain_kernel c.in_ok-kernel.kernel) (plain_kernel c.in_ok-merged.field-0)
    c.in_ok-merged.ensures (c.in_ok-kernel.ensures.sound nodes long well)
