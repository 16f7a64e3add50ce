-- What stands first in the order of integers is the least, or the greatest.
use Rattle.std.proofs.Common.{◌≡◌, ℤ, Bool, true, false, List, [], ◌∷◌, Some, refl, arith}
use Rattle.std.specs.Prelude.{int_lt, ◌≤ℤ◌, if◌then◌else◌}
use Rattle.std.proofs.lemmas.Int.{ints}
use Rattle.cd_model.specs.AllOf.{AllOf}
use Rattle.cd_model.specs.Thing.{Thing, Integer, Character, Atom, Pair, Xml, Record, Function, Closure}
use Rattle.cd_evaluation.specs.Operations.{first_among, extreme}

-- each is an integer that is no less
abbrev pub NoLess : ℤ → List Thing → Type 0
NoLess found ds = AllOf (λ d. (m : ℤ) × (d ≡ Integer m) × (found ≤ℤ m)) ds

abbrev pub NoGreater : ℤ → List Thing → Type 0
NoGreater found ds = AllOf (λ d. (m : ℤ) × (d ≡ Integer m) × (m ≤ℤ found)) ds

next_least_among : (n m found : ℤ) (rest : List Thing) (b : Bool) → int_lt m n ≡ b
    → (found ≤ℤ (if b then m else n)) × NoLess found rest
    → (found ≤ℤ n) × NoLess found (Integer m ∷ rest)
next_least_among n m found rest true first all =
    let one = all.0 in (omega (arith, ints), ((m, refl, all.0), all.1))
next_least_among n m found rest false first all =
    let one = all.0 in (all.0, ((m, refl, omega (arith, ints)), all.1))

pub least_among : (n found : ℤ) (ds : List Thing) → first_among (λ n m. int_lt n m) n ds ≡ Some found
    → (found ≤ℤ n) × NoLess found ds
least_among n found [] is = let same : n ≡ found = cc in (omega (arith, ints), tt)
least_among n found (Integer m ∷ rest) is =
    next_least_among n m found rest (int_lt m n) refl
    (least_among (if int_lt m n then m else n) found rest is)
least_among n found (Character c ∷ rest) is = absurd cc
least_among n found (Atom a ∷ rest) is = absurd cc
least_among n found (Pair a b ∷ rest) is = absurd cc
least_among n found (Xml a b c ∷ rest) is = absurd cc
least_among n found (Record fields ∷ rest) is = absurd cc
least_among n found (Function pairs ∷ rest) is = absurd cc
least_among n found (Closure a b ∷ rest) is = absurd cc

next_greatest_among : (n m found : ℤ) (rest : List Thing) (b : Bool) → int_lt n m ≡ b
    → ((if b then m else n) ≤ℤ found) × NoGreater found rest
    → (n ≤ℤ found) × NoGreater found (Integer m ∷ rest)
next_greatest_among n m found rest true first all =
    let one = all.0 in (omega (arith, ints), ((m, refl, all.0), all.1))
next_greatest_among n m found rest false first all =
    let one = all.0 in (all.0, ((m, refl, omega (arith, ints)), all.1))

pub greatest_among : (n found : ℤ) (ds : List Thing) → first_among (λ n m. int_lt m n) n ds ≡ Some found
    → (n ≤ℤ found) × NoGreater found ds
greatest_among n found [] is = let same : n ≡ found = cc in (omega (arith, ints), tt)
greatest_among n found (Integer m ∷ rest) is =
    next_greatest_among n m found rest (int_lt n m) refl
    (greatest_among (if int_lt n m then m else n) found rest is)
greatest_among n found (Character c ∷ rest) is = absurd cc
greatest_among n found (Atom a ∷ rest) is = absurd cc
greatest_among n found (Pair a b ∷ rest) is = absurd cc
greatest_among n found (Xml a b c ∷ rest) is = absurd cc
greatest_among n found (Record fields ∷ rest) is = absurd cc
greatest_among n found (Function pairs ∷ rest) is = absurd cc
greatest_among n found (Closure a b ∷ rest) is = absurd cc

-- of a sequence
pub least : (found : ℤ) (ds : List Thing) → extreme (λ n m. int_lt n m) (Some ds) ≡ Some found → NoLess found ds
least found [] is = absurd cc
least found (Integer n ∷ rest) is =
    let all = least_among n found rest is in ((n, refl, all.0), all.1)
least found (Character c ∷ rest) is = absurd cc
least found (Atom a ∷ rest) is = absurd cc
least found (Pair a b ∷ rest) is = absurd cc
least found (Xml a b c ∷ rest) is = absurd cc
least found (Record fields ∷ rest) is = absurd cc
least found (Function pairs ∷ rest) is = absurd cc
least found (Closure a b ∷ rest) is = absurd cc

pub greatest : (found : ℤ) (ds : List Thing) → extreme (λ n m. int_lt m n) (Some ds) ≡ Some found
    → NoGreater found ds
greatest found [] is = absurd cc
greatest found (Integer n ∷ rest) is =
    let all = greatest_among n found rest is in ((n, refl, all.0), all.1)
greatest found (Character c ∷ rest) is = absurd cc
greatest found (Atom a ∷ rest) is = absurd cc
greatest found (Pair a b ∷ rest) is = absurd cc
greatest found (Xml a b c ∷ rest) is = absurd cc
greatest found (Record fields ∷ rest) is = absurd cc
greatest found (Function pairs ∷ rest) is = absurd cc
greatest found (Closure a b ∷ rest) is = absurd cc
