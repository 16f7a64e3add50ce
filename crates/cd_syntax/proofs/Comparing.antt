-- Two texts are compared one character after the other.
use Rattle.std.proofs.Common.{◌≡◌, refl, ◌∙◌, sym, ap, ap₂, ℕ, ◌<◌, ◌≤◌, length, List, ◌∷◌, ◌++◌}
use Rattle.std.proofs.Common.{encode_utf8, arith}
use Rattle.std.proofs.lemmas.List.{nil_from_length}
use Rattle.std.proofs.lemmas.Str.{chars_past_char, chars-nil}
use Rattle.std.specs.Cmp.{nat_cmp_is}
use Rattle.std.specs.Cmp.Lexicographic.{slice_cmp}
use Rattle.std.specs.Ordering.{nat_cmp}
use Rattle.std.specs.Str.{chars, IsUtf8}
use Rattle.std.specs.declared.cmp.Ordering.{Ordering}
use Rattle.std.specs.declared.cmp.Ordering.TheVariants.{Less, Equal, Greater}

abbrev pub compared : (one other : List ℕ) → Ordering
compared one other = slice_cmp nat_cmp (chars one) (chars other)

-- both go on
goes_on : (one other one_rest other_rest : List ℕ) (c d : ℕ) → IsUtf8 one → IsUtf8 other
    → one ≡ encode_utf8 c ++ one_rest → other ≡ encode_utf8 d ++ other_rest
    → compared one other ≡ slice_cmp nat_cmp (c ∷ chars one_rest) (d ∷ chars other_rest)
goes_on one other one_rest other_rest c d is is_too goes goes_too = ap₂ (slice_cmp nat_cmp)
    (chars_past_char one one_rest c is goes) (chars_past_char other other_rest d is_too goes_too)

pub below : (one other one_rest other_rest : List ℕ) (c d : ℕ) → IsUtf8 one → IsUtf8 other
    → one ≡ encode_utf8 c ++ one_rest → other ≡ encode_utf8 d ++ other_rest → c < d
    → Less ≡ compared one other
below one other one_rest other_rest c d is is_too goes goes_too less =
    let order : Less ≡ nat_cmp c d = nat_cmp_is c d Less less in
    sym (goes_on one other one_rest other_rest c d is is_too goes goes_too ∙ rw (sym order) refl)

pub above : (one other one_rest other_rest : List ℕ) (c d : ℕ) → IsUtf8 one → IsUtf8 other
    → one ≡ encode_utf8 c ++ one_rest → other ≡ encode_utf8 d ++ other_rest → d < c
    → Greater ≡ compared one other
above one other one_rest other_rest c d is is_too goes goes_too less =
    let order : Greater ≡ nat_cmp c d = nat_cmp_is c d Greater less in
    sym (goes_on one other one_rest other_rest c d is is_too goes goes_too ∙ rw (sym order) refl)

pub along : (one other one_rest other_rest : List ℕ) (c d : ℕ) → IsUtf8 one → IsUtf8 other
    → one ≡ encode_utf8 c ++ one_rest → other ≡ encode_utf8 d ++ other_rest → d ≤ c → c ≤ d
    → compared one_rest other_rest ≡ compared one other
along one other one_rest other_rest c d is is_too goes goes_too not_less not_more =
    let order : Equal ≡ nat_cmp c d = nat_cmp_is c d Equal (omega (arith, not_less, not_more)) in
    sym (goes_on one other one_rest other_rest c d is is_too goes goes_too ∙ rw (sym order) refl)

-- the one ends first, or the other, or both
pub ends_before : (one other other_rest : List ℕ) (d : ℕ) → length one ≡ 0 → IsUtf8 other
    → other ≡ encode_utf8 d ++ other_rest
    → Less ≡ compared one other
ends_before one other other_rest d none is goes = sym (ap₂ (slice_cmp nat_cmp)
    (ap chars (nil_from_length one none) ∙ chars-nil) (chars_past_char other other_rest d is goes))

pub ends_after : (one other one_rest : List ℕ) (c : ℕ) → IsUtf8 one
    → one ≡ encode_utf8 c ++ one_rest → length other ≡ 0
    → Greater ≡ compared one other
ends_after one other one_rest c is goes none = sym (ap₂ (slice_cmp nat_cmp)
    (chars_past_char one one_rest c is goes)
    (ap chars (nil_from_length other none) ∙ chars-nil))

pub end_together : (one other : List ℕ) → length one ≡ 0 → length other ≡ 0
    → Equal ≡ compared one other
end_together one other none none_too = sym (ap₂ (slice_cmp nat_cmp)
    (ap chars (nil_from_length one none) ∙ chars-nil)
    (ap chars (nil_from_length other none_too) ∙ chars-nil))
