-- A name and a list of characters are compared one character after the other.
use Rattle.std.proofs.Common.{rules, arith, ◌≡◌, ◌∙◌, sym, ap, ℕ, suc, ◌-◌, ◌<◌, ◌≤◌, false, true, length, List, [], ◌∷◌, ◌++◌, drop, take, slice_index_or, bytes_eq, encode_utf8, nat_eq, ◌==◌}
use Rattle.std.specs.Prelude.{◌&&◌}
use Rattle.std.specs.Str.{chars, IsUtf8}
use Rattle.std.proofs.lemmas.List.{take_rest}
use Rattle.std.proofs.lemmas.Str.{chars_past_char, chars-nil}

-- both go on with the same character
pub same_first : (bs later cs : List ℕ) (c d : ℕ) → IsUtf8 bs → bs ≡ encode_utf8 c ++ later → 1 ≤ length cs → slice_index_or cs 0 d ≡ c
    → bytes_eq (chars later) (take (length cs - 1) (drop 1 cs)) ≡ bytes_eq (chars bs) cs
same_first bs later [] c d u e le f = absurd (omega (arith, le))
same_first bs later (x ∷ xs) c d u e le f = ap (λ l. bytes_eq (chars later) l) all ∙ ap (λ t. t && bytes_eq (chars later) xs) same ∙ ap (λ l. bytes_eq l (x ∷ xs)) (sym (chars_past_char bs later c u e))
  where
    all : take (suc (length xs) - 1) xs ≡ xs
    all = take_rest (x ∷ xs) 1

    same : true ≡ nat_eq c x
    same = search (rules, f)

-- the characters end before the name does
pub ends_early : (bs later cs : List ℕ) (c : ℕ) → IsUtf8 bs → bs ≡ encode_utf8 c ++ later → length cs < 1 → false ≡ bytes_eq (chars bs) cs
ends_early bs later [] c u e lt = ap (λ l. bytes_eq l []) (sym (chars_past_char bs later c u e))
ends_early bs later (x ∷ xs) c u e lt = absurd (omega (arith, lt))

-- both end together, or the name ends before the characters do
pub ends : (bs cs : List ℕ) → length bs ≡ 0 → (length cs == 0) ≡ bytes_eq (chars bs) cs
ends [] [] e = ap (λ l. bytes_eq l []) (sym chars-nil)
ends [] (x ∷ xs) e = some ∙ ap (λ l. bytes_eq l (x ∷ xs)) (sym chars-nil)
  where
    some : (length (x ∷ xs) == 0) ≡ false
    some = search rules
ends (b ∷ bs) cs e = absurd (omega (arith, e))
