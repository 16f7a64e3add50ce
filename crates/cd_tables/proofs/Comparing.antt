-- How what a field spells compares with a word, one byte after the other.
use Rattle.std.proofs.Common.{arith, ◌≡◌, ◌∙◌, ap, refl, sym, ℕ, zero, suc, ◌<◌, ◌≤◌, List, [], ◌∷◌}
use Rattle.std.proofs.Common.{length, get_or, drop, drop-cons}
use Rattle.std.specs.Ordering.{nat_cmp, ordering_then}
use Rattle.std.specs.declared.cmp.Ordering.{Ordering}
use Rattle.std.specs.declared.cmp.Ordering.TheVariants.{Less, Equal, Greater}
use Rattle.std.specs.Cmp.Lexicographic.{slice_cmp}
use Rattle.std.proofs.lemmas.Cmp.{ranked}
use Rattle.cd_tables.specs.Spelling.{spelled}

-- an order that is decided stays
decided : (first second : Ordering) → (first ≡ Equal → ⊥) → first ≡ ordering_then first second
decided Less second other = refl
decided Equal second other = absurd (other refl)
decided Greater second other = refl

-- a byte other than 0 decides, where it differs from that of the word
byte_decides : (byte : ℕ) (bytes word : List ℕ) → (byte ≡ 0 → ⊥) → 1 ≤ length word → (byte ≡ get_or word 0 0 → ⊥)
    → nat_cmp byte (get_or word 0 0) ≡ slice_cmp nat_cmp (spelled (byte ∷ bytes)) word
byte_decides zero bytes word nonzero some other = absurd (nonzero refl)
byte_decides (suc n) bytes [] nonzero some other = absurd (omega arith)
byte_decides (suc n) bytes (byte ∷ word) nonzero some other =
    decided (nat_cmp (suc n) byte) (slice_cmp nat_cmp (spelled bytes) word)
    (λ equal. other (ranked (suc n) byte Equal (sym equal)))

-- the same at a place of a field
pub differ : (field word : List ℕ) (place : ℕ) → place < length field → (get_or field place 0 ≡ 0 → ⊥)
    → 1 ≤ length word → (get_or field place 0 ≡ get_or word 0 0 → ⊥)
    → nat_cmp (get_or field place 0) (get_or word 0 0) ≡ slice_cmp nat_cmp (spelled (drop place field)) word
differ field word place within nonzero some other =
    byte_decides (get_or field place 0) (drop (suc place) field) word nonzero some other
    ∙ ap (λ left. slice_cmp nat_cmp (spelled left) word) (sym (drop-cons field place 0 within))
