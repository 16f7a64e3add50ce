-- What is split off a text, where a number goes on by what follows.
use Rattle.std.proofs.Common.{◌≡◌, ℕ, Bool, true, false, List, [], ◌∷◌, ◌++◌, refl, sym, ap, ◌∙◌, ◌⊎◌, inl, inr}
use Rattle.std.specs.Prelude.{◌&&◌, if◌then◌else◌}
use Rattle.std.proofs.lemmas.Bool.{and_parts, and_from, cases_Bool}
use Rattle.cd_lex.specs.Inner.Numerals.{split}

-- at each of these characters it goes on
abbrev pub through : (List ℕ → Bool) → List ℕ → Bool
through goes [] = true
through goes (c ∷ text) = goes (c ∷ text) && through goes text

module _ (goes : List ℕ → Bool) where
  pub split_more : (c : ℕ) (text : List ℕ) → goes (c ∷ text) ≡ true
      → split goes (c ∷ text) ≡ (c ∷ (split goes text).0, (split goes text).1)
  split_more c text is =
      ap (λ b. if b then (c ∷ (split goes text).0, (split goes text).1) else ([], c ∷ text)) is

  pub split_none : (c : ℕ) (text : List ℕ) → goes (c ∷ text) ≡ false
      → split goes (c ∷ text) ≡ ([], c ∷ text)
  split_none c text is =
      ap (λ b. if b then (c ∷ (split goes text).0, (split goes text).1) else ([], c ∷ text)) is

  pub together : (text : List ℕ) → text ≡ (split goes text).0 ++ (split goes text).1
  together [] = refl
  together (c ∷ text) = by (cases_Bool (goes (c ∷ text))) (together text)
    where
      by : (goes (c ∷ text) ≡ true) ⊎ (goes (c ∷ text) ≡ false)
          → text ≡ (split goes text).0 ++ (split goes text).1
          → c ∷ text ≡ (split goes (c ∷ text)).0 ++ (split goes (c ∷ text)).1
      by (inl is) on = ap (λ rest. c ∷ rest) on ∙ sym (ap (λ p. p.0 ++ p.1) (split_more c text is))
      by (inr is) on = sym (ap (λ p. p.0 ++ p.1) (split_none c text is))

  pub ends : goes [] ≡ false → (text : List ℕ) → goes (split goes text).1 ≡ false
  ends none [] = none
  ends none (c ∷ text) = by (cases_Bool (goes (c ∷ text))) (ends none text)
    where
      by : (goes (c ∷ text) ≡ true) ⊎ (goes (c ∷ text) ≡ false) → goes (split goes text).1 ≡ false
          → goes (split goes (c ∷ text)).1 ≡ false
      by (inl is) on = ap (λ p. goes p.1) (split_more c text is) ∙ on
      by (inr is) on = ap (λ p. goes p.1) (split_none c text is) ∙ is

  -- what it does at a character is decided by what is split off
  pub passes : ((c : ℕ) (text : List ℕ) → goes (c ∷ text) ≡ true
      → goes (c ∷ (split goes text).0) ≡ true)
      → (text : List ℕ) → through goes (split goes text).0 ≡ true
  passes near [] = refl
  passes near (c ∷ text) = by (cases_Bool (goes (c ∷ text))) (passes near text)
    where
      by : (goes (c ∷ text) ≡ true) ⊎ (goes (c ∷ text) ≡ false)
          → through goes (split goes text).0 ≡ true
          → through goes (split goes (c ∷ text)).0 ≡ true
      by (inl is) on =
          ap (λ p. through goes p.0) (split_more c text is)
          ∙ and_from (goes (c ∷ (split goes text).0)) (through goes (split goes text).0)
          (near c text is) on
      by (inr is) on = ap (λ p. through goes p.0) (split_none c text is)

  -- what is written is what is split off
  pub split_written : ((c : ℕ) (written rest : List ℕ) → goes (c ∷ written) ≡ true
      → goes (c ∷ written ++ rest) ≡ true)
      → (written rest : List ℕ) → through goes written ≡ true → goes rest ≡ false
      → split goes (written ++ rest) ≡ (written, rest)
  split_written longer [] [] are none = refl
  split_written longer [] (c ∷ rest) are none = split_none c rest none
  split_written longer (c ∷ written) rest are none =
      let parts = and_parts (goes (c ∷ written)) (through goes written) are in
      split_more c (written ++ rest) (longer c written rest parts.0)
      ∙ ap (λ p. (c ∷ p.0, p.1)) (split_written longer written rest parts.1 none)
