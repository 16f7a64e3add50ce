-- The bytes of a name spell `nil` where its characters do.
use Rattle.std.proofs.Common.{◌≡◌, ℕ, zero, suc, ◌<◌, List, Decides, bytes_eq, ap, sym, ◌∙◌, arith}
use Rattle.std.specs.Prelude.{codes, encode_utf8_all, slice_index}
use Rattle.std.specs.Str.{chars, IsUtf8}
use Rattle.std.proofs.lemmas.Bool.Decides.{same_from_decides}
use Rattle.std.proofs.lemmas.Slice.Eq.{bytes_eq-Decides}
use Rattle.std.proofs.lemmas.Str.{encodes-chars, encodes-IsAscii}
use Rattle.cd_print.proofs.Literals.{nil_characters}

nil_bytes : encode_utf8_all (codes "nil") ≡ codes "nil"
nil_bytes = encodes-IsAscii (codes "nil") (λ i. ascii i)
  where
    ascii : (i : ℕ) → slice_index (codes "nil") i < 128
    ascii zero = omega arith
    ascii (suc zero) = omega arith
    ascii (suc (suc zero)) = omega arith
    ascii (suc (suc (suc i))) = omega arith

pub nil_spelled : (name : List ℕ) → IsUtf8 name → bytes_eq name (codes "nil") ≡ bytes_eq (chars name) (codes "nil")
nil_spelled name utf8 =
    let by_bytes = bytes_eq-Decides name (codes "nil") in
    let by_characters = bytes_eq-Decides (chars name) (codes "nil") in
    let both : Decides (bytes_eq name (codes "nil")) (chars name ≡ codes "nil") = (
      λ yes. ap chars (by_bytes.0 yes) ∙ nil_characters,
      λ is. by_bytes.1 (sym (encodes-chars name utf8) ∙ ap encode_utf8_all is ∙ nil_bytes),
    ) in
    same_from_decides _ _ both by_characters
