-- Labels that are longer than all of some: rows of `a`.
use Rattle.std.proofs.Common.{◌≡◌, ℕ, zero, suc, ◌<◌, ◌≤◌, true, false, List, [], ◌∷◌, length, max, codes, bytes_eq}
use Rattle.std.proofs.Common.{inl, inr, refl, sym, ◌∙◌, ap, arith}
use Rattle.std.specs.List.{list_all}
use Rattle.std.proofs.lemmas.Bool.{true≢false}
use Rattle.std.proofs.lemmas.Slice.Eq.{bytes_eq-Decides}
use Rattle.cd_syntax.specs.Name.{Name, IsLabel, is_word, goes_on_word}
use Rattle.cd_model.proofs.Labels.{IsOneOf}

-- one `a`, and so many more
abbrev pub row_of_a : ℕ → Name
row_of_a zero = 97 ∷ []
row_of_a (suc n) = 97 ∷ row_of_a n

-- it is longer than the number
pub row_is_long : (n : ℕ) → length {A = ℕ} (row_of_a n) ≡ suc n
row_is_long zero = refl
row_is_long (suc n) = ap suc (row_is_long n)

-- it is a word, and not `_` alone
row_goes_on : (n : ℕ) → list_all goes_on_word (row_of_a n) ≡ true
row_goes_on zero = refl
row_goes_on (suc n) = row_goes_on n

row_is_word : (n : ℕ) → is_word (row_of_a n) ≡ true
row_is_word zero = refl
row_is_word (suc n) = row_goes_on n

row_is_no_line : (n : ℕ) → bytes_eq (row_of_a n) (codes "_") ≡ false
row_is_no_line zero = refl
row_is_no_line (suc n) = refl

-- a row of `a` is a label
pub row_is_label : (n : ℕ) → IsLabel (row_of_a n)
row_is_label n =
    (row_is_word n, λ same. true≢false (sym ((bytes_eq-Decides (row_of_a n) (codes "_")).1 same) ∙ row_is_no_line n))

-- the length of the longest of some labels
abbrev pub longest : List Name → ℕ
longest [] = 0
longest (name ∷ names) = max (length name) (longest names)

-- no label of these is longer
pub no_longer : (names : List Name) (label : Name) → IsOneOf names label → length label ≤ longest names
no_longer [] label one = elim one [ ]
no_longer (name ∷ names) label (inl same) = let equal = ap length same in omega arith
no_longer (name ∷ names) label (inr later) = let most = no_longer names label later in omega arith

-- names of different lengths differ
pub lengths_differ : (name label : Name) → length name < length label → bytes_eq name label ≡ false
lengths_differ name label shorter = by_test (bytes_eq name label) (bytes_eq-Decides name label).0
  where
    by_test : (same : _) → (same ≡ true → name ≡ label) → same ≡ false
    by_test true is = let equal = ap length (is refl) in absurd (omega arith)
    by_test false is = refl
