use Rattle.std.proofs.Common.{◌≡◌, take, fold}
use Rattle.cd_verdicts.specs.Hashing.{add_word}
use Rattle.cd_verdicts.proofs.hasher.WordHasherHasher.write.Given as goal

-- the first bytes are words
abbrev pub invariant-loop-byte : goal.invariant-loop-byte
invariant-loop-byte l = l.state ≡ fold add_word l.fn.self.state (take l.byte-index l.bytes)
