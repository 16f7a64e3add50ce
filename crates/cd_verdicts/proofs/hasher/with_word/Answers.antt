use Rattle.std.proofs.Common.{refl}
use Rattle.cd_verdicts.specs.Hashing.{add_word}
use Rattle.cd_verdicts.proofs.hasher.with_word.Goals as goal

pub returns : goal.returns
unfolding add_word
returns c = refl
