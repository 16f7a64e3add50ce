use Rattle.std.proofs.Common.{length, refl, arith}
use Rattle.std.proofs.lemmas.Bool.{eq-eqb}
use Rattle.std.proofs.lemmas.List.{take_all}
use Rattle.cd_verdicts.specs.Hashing.{add_bytes}
use Rattle.cd_verdicts.proofs.WordsHashed.{word_each}
use Rattle.cd_verdicts.proofs.hasher.WordHasherHasher.write.Goals as goal

-- eight bytes are one word
pub returns-then-bytes-eq8 : goal.returns-then-bytes-eq8
unfolding add_bytes
returns-then-bytes-eq8 c =
    rw (c.with_word-self.ensures, c.from_le_bytes-word.ensures, eq-eqb (length c.args.bytes.now) 8 c.if-bytes-eq8.true) refl

-- else each is one
pub returns : goal.returns
returns c =
    let all = take_all c.loop-byte.byte-index c.args.bytes.now (omega (arith, c.loop-byte-test.false)) in
    rw (c.loop-byte.invariant, all, word_each c.args.self.now.state c.args.bytes.now c.if-bytes-eq8.false) refl
