-- The bounds of an interval of a set are in the set, and have 128 bits.
use Rattle.std.proofs.Common.{◌≡◌, ℕ, zero, suc, ℤ, ◌≤ℤ◌, ◌+ℤ◌, pos, true, List, [], ◌∷◌, Some, subst, arith}
use Rattle.std.proofs.lemmas.Int.{ints}
use Rattle.std.proofs.lemmas.Option.{same_Some}
use Rattle.std.specs.Prelude.{slice_get}
use Rattle.cd_syntax.specs.Integer.{LEAST, GREATEST}
use Rattle.cd_sets.specs.declared.interval.Interval.{Interval}
use Rattle.cd_sets.specs.Interval.{holds}
use Rattle.cd_sets.specs.Rises.{Rises, IsRising}
use Rattle.cd_sets.proofs.Rising.{rises_bounds}

pub record AreHeld (all : List Interval) (from : ℤ) (one : Interval) (to : ℤ) : Type 0 where
  pub low : holds all one.low ≡ true
  pub high : holds all one.high ≡ true
  pub begins : from ≤ℤ one.low
  pub some : one.low ≤ℤ one.high
  pub ends : (one.high +ℤ pos 2) ≤ℤ to

later_held : (first : Interval) (rest : List Interval) (from : ℤ) (one : Interval) (to : ℤ) → from ≤ℤ first.low → first.low ≤ℤ first.high
    → AreHeld rest (first.high +ℤ pos 2) one to → AreHeld (first ∷ rest) from one to
later_held first rest from one to begins some later = record {
  low = grind (arith, later.low);
  high = grind (arith, later.high);
  begins = let after = later.begins in omega (arith, ints);
  some = later.some;
  ends = later.ends;
}

held_from : (from : ℤ) (all : List Interval) (to : ℤ) (index : ℕ) (one : Interval) → Rises from all to → slice_get all index ≡ Some one
    → AreHeld all from one to
held_from from [] to index one rises is = absurd cc
held_from from (first ∷ rest) to zero one rises is =
    let some : first.low ≤ℤ first.high = rises.1 in
    subst (λ one. AreHeld (first ∷ rest) from one to) (same_Some first one is) (record {
      low = grind (arith, ints);
      high = grind (arith, ints);
      begins = rises.0;
      some = some;
      ends = rises_bounds (first.high +ℤ pos 2) rest to rises.2;
    })
held_from from (first ∷ rest) to (suc index) one rises is =
    later_held first rest from one to rises.0 rises.1 (held_from (first.high +ℤ pos 2) rest to index one rises.2 is)

pub bounds_held : (all : List Interval) (index : ℕ) (one : Interval) → IsRising all → slice_get all index ≡ Some one
    → AreHeld all LEAST one (GREATEST +ℤ pos 2)
bounds_held all index one rises is = held_from LEAST all (GREATEST +ℤ pos 2) index one rises is
