use Rattle.cd_matching.proofs.SoundKernel.{greedy_is_sound}
use Rattle.cd_matching.proofs.examples.kernel_examples.Goals as goal

pub returns-clause-sound : goal.returns-clause-sound
returns-clause-sound c = greedy_is_sound
