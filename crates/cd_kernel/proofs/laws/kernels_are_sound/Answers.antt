use Rattle.cd_kernel.proofs.MadeIsSound.{kernels_are_sound}
use Rattle.cd_kernel.proofs.laws.kernels_are_sound.Goals as goal

pub returns : goal.returns
returns c = kernels_are_sound
