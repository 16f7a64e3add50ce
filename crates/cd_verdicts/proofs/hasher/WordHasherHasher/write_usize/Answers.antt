use Rattle.std.proofs.Common.{refl}
use Rattle.cd_verdicts.proofs.WordsHashed.{one_word}
use Rattle.cd_verdicts.proofs.hasher.WordHasherHasher.write_usize.Goals as goal

-- the bytes of a number are one word
pub returns : goal.returns
returns c = rw (c.with_word-self.ensures, one_word c.args.self.now.state c.args.i c.ranges.i.fits) refl
