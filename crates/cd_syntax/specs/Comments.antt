-- Comments. They nest, and quotes in them mean nothing.
use Rattle.std.specs.Prelude.{ℕ, suc, ◌==◌, ◌&&◌, Bool, false, List, [], ◌∷◌, ◌≡◌}

-- the text begins with these two characters
abbrev pub begins_pair : ℕ → ℕ → List ℕ → Bool
begins_pair a b (c ∷ d ∷ rest) = (c == a) && (d == b)
begins_pair a b text = false

-- the text closes so many open comments, the last one at its end and not before
pub data Closes : (depth : ℕ) → List ℕ → Type 0 where
  last : Closes 1 (42 ∷ 41 ∷ [])
  close : (depth : ℕ) (rest : List ℕ) → Closes (suc depth) rest
      → Closes (suc (suc depth)) (42 ∷ 41 ∷ rest)
  another : (depth : ℕ) (rest : List ℕ) → Closes (suc depth) rest → Closes depth (40 ∷ 42 ∷ rest)
  -- any character where neither `(*` nor `*)` stands
  character : (depth c : ℕ) (rest : List ℕ) → begins_pair 40 42 (c ∷ rest) ≡ false
      → begins_pair 42 41 (c ∷ rest) ≡ false
      → Closes depth rest → Closes depth (c ∷ rest)

-- from a `(*` to the `*)` that closes it
pub data IsComment : List ℕ → Type 0 where
  comment : (inside : List ℕ) → Closes 1 inside → IsComment (40 ∷ 42 ∷ inside)
