use Rattle.std.proofs.Common.{◌<◌, sym, subst}
use Rattle.cd_matching.specs.Kernel.{IsSound}
use Rattle.cd_matching.specs.PlainPattern.{plain}
use Rattle.cd_kernel.specs.Making.{IsMade}
use Rattle.cd_kernel.proofs.KernelHasNoMore.{kernel_is_sound}
use Rattle.cd_kernel.proofs.KernelIsMade.{kernel_is_made}
use Rattle.cd_kernel.proofs.make.kernel_made.Goals as goal

pub returns-clause-made : goal.returns-clause-made
returns-clause-made c = let p = plain c.args.pattern.now in
    subst (IsMade p) (sym c.in_ok-make.ensures)
    (kernel_is_made p c.requires.named c.requires.labels)

pub returns-clause-sound : goal.returns-clause-sound
returns-clause-sound c = λ nodes long well others. let p = plain c.args.pattern.now in
    subst (IsSound (λ id. id.0 < nodes)) (sym c.in_ok-make.ensures)
    (kernel_is_sound nodes p long c.requires.named c.requires.labels well others)
