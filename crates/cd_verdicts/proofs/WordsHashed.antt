-- The bytes of a number are hashed as one word, and other bytes one by one.
use Rattle.std.proofs.Common.{◌≡◌, ◌<◌, ◌^◌, ℕ, List, length, fold, refl, ap}
use Rattle.std.proofs.lemmas.Bool.{ne_eqb}
use Rattle.std.proofs.lemmas.Nat.{from_le_bytes-to_le_bytes_8}
use Rattle.std.specs.Hash.{le_bytes}
use Rattle.cd_verdicts.specs.Hashing.{add_word, add_bytes}

pub one_word : (state number : ℕ) → number < 2 ^ 64 → add_bytes state (le_bytes 8 number) ≡ add_word state number
unfolding add_bytes le_bytes
one_word state number fits = ap (add_word state) (from_le_bytes-to_le_bytes_8 number fits)

pub word_each : (state : ℕ) (bytes : List ℕ) → (length bytes ≡ 8 → ⊥) → add_bytes state bytes ≡ fold add_word state bytes
unfolding add_bytes
word_each state bytes differs = rw (ne_eqb (length bytes) 8 differs) refl
