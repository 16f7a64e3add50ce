-- Among integers one stands first in an order, and it is one of them.
use Rattle.std.proofs.Common.{◌≡◌, ◌≢◌, ℤ, Bool, true, false, List, [], ◌∷◌, Some, refl, sym, ap, ◌∙◌, ◌⊎◌, inl, inr}
use Rattle.std.specs.Prelude.{if◌then◌else◌}
use Rattle.cd_model.specs.AllOf.{AllOf, AnyOf}
use Rattle.cd_model.specs.Thing.{Thing, Integer, Character, Atom, Pair, Xml, Record, Function, Closure}
use Rattle.cd_evaluation.specs.Operations.{first_among, extreme}

-- a thing is an integer
abbrev pub IsNumber : Thing → Type 0
IsNumber d = (n : ℤ) × (d ≡ Integer n)

-- it is the number, or one of the things
abbrev IsAmong : (found n : ℤ) → List Thing → Type 0
IsAmong found n ds = (found ≡ n) ⊎ AnyOf (λ one. one ≡ Integer found) ds

module _ (before : ℤ → ℤ → Bool) where
  -- where the first of the things comes before the number, and where not
  next_among : (n m found : ℤ) (rest : List Thing) (b : Bool)
      → IsAmong found (if b then m else n) rest → IsAmong found n (Integer m ∷ rest)
  next_among n m found rest true (inl same) = inr (inl (ap Integer (sym same)))
  next_among n m found rest true (inr later) = inr (inr later)
  next_among n m found rest false (inl same) = inl same
  next_among n m found rest false (inr later) = inr (inr later)

  among : (n found : ℤ) (ds : List Thing) → first_among before n ds ≡ Some found
      → IsAmong found n ds
  among n found [] is = inl (let same : n ≡ found = cc in sym same)
  among n found (Integer m ∷ rest) is =
      next_among n m found rest (before m n) (among (if before m n then m else n) found rest is)
  among n found (Character c ∷ rest) is = absurd cc
  among n found (Atom a ∷ rest) is = absurd cc
  among n found (Pair a b ∷ rest) is = absurd cc
  among n found (Xml a b c ∷ rest) is = absurd cc
  among n found (Record fields ∷ rest) is = absurd cc
  among n found (Function pairs ∷ rest) is = absurd cc
  among n found (Closure a b ∷ rest) is = absurd cc

  -- what is found is an item
  pub item_found : (found : ℤ) (ds : List Thing) → extreme before (Some ds) ≡ Some found
      → AnyOf (λ one. one ≡ Integer found) ds
  item_found found [] is = absurd cc
  item_found found (Integer n ∷ rest) is = elim (among n found rest is) [
    | inl same ↦ inl (ap Integer (sym same))
    | inr later ↦ inr later
  ]
  item_found found (Character c ∷ rest) is = absurd cc
  item_found found (Atom a ∷ rest) is = absurd cc
  item_found found (Pair a b ∷ rest) is = absurd cc
  item_found found (Xml a b c ∷ rest) is = absurd cc
  item_found found (Record fields ∷ rest) is = absurd cc
  item_found found (Function pairs ∷ rest) is = absurd cc
  item_found found (Closure a b ∷ rest) is = absurd cc

  among_integers : (n : ℤ) (ds : List Thing) → AllOf IsNumber ds
      → (found : ℤ) × (first_among before n ds ≡ Some found)
  among_integers n [] are = (n, refl)
  among_integers n (d ∷ rest) are =
      let m = are.0.0 in
      let later = among_integers (if before m n then m else n) rest are.1 in
      (later.0, ap (λ one. first_among before n (one ∷ rest)) are.0.1 ∙ later.1)

  -- among integers, one at least, something is found
  pub integers_found : (ds : List Thing) → AllOf IsNumber ds → ds ≢ []
      → (n : ℤ) × (extreme before (Some ds) ≡ Some n)
  integers_found [] are some = absurd (some refl)
  integers_found (d ∷ rest) are some =
      let found = among_integers are.0.0 rest are.1 in
      (found.0, ap (λ one. extreme before (Some (one ∷ rest))) are.0.1 ∙ found.1)
