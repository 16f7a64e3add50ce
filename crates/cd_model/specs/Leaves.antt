-- Formulas that hold one thing without parts.
use Rattle.std.specs.Prelude.{ℕ, ℤ, [], ◌∷◌}
use Rattle.cd_sets.specs.Atoms.{listing}
use Rattle.cd_syntax.specs.Name.{Name}
use Rattle.cd_model.specs.Formula.{Formula, Ints, Chars, Atoms}

abbrev pub one_integer : ℤ → Formula
one_integer n = Ints (record { low = n; high = n } ∷ [])

abbrev pub one_character : ℕ → Formula
one_character c = Chars (record { low = c; high = c } ∷ [])

abbrev pub one_atom : Name → Formula
one_atom name = Atoms (listing (name ∷ []))
