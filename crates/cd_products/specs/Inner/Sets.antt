-- Formulas of sets.
use Rattle.std.specs.Prelude.{◌≡◌, ◌⊎◌, ◌++◌, true, ℤ, ℕ, List, [], ◌∷◌}
use Rattle.std.specs.Char.{IsScalar}
use Rattle.cd_sets.specs.Interval as integers
use Rattle.cd_sets.specs.Characters.{holds_character}
use Rattle.cd_sets.specs.Atoms as atoms
use Rattle.cd_syntax.specs.Name.{Name}
use Rattle.cd_model.specs.Formula.{Formula, IsFormula}
use Rattle.cd_rules.specs.BasicSets.{passes, integer_test, character_test, atom_test}
use Rattle.cd_normal.specs.declared.basic_sets.Basics.{Basics}
use Rattle.cd_products.specs.Inner.Basic.{is_basic}

-- the formula holds what is in the sets, and nothing else
pub record IsOfSets (sets : Basics) (f : Formula) : Type 0 where
  pub integers_are : (z : ℤ) → passes (integer_test z) f ≡ integers.holds sets.integers z
  pub characters_are : (c : ℕ) → IsScalar c
      → passes (character_test c) f ≡ holds_character sets.characters c
  pub atoms_are : (name : Name) → atoms.IsAtom name
      → passes (atom_test name) f ≡ atoms.holds sets.atoms name
  pub basic : is_basic f ≡ true
  pub sound : (count : ℕ) → IsFormula count f

-- a formula comes after others, unless it holds nothing
abbrev pub Adds : Formula → (HoldsNothing : Type 0) → (old new : List Formula) → Type 0
Adds f HoldsNothing old new = (new ≡ old ++ f ∷ []) ⊎ ((new ≡ old) × HoldsNothing)
