-- Sets of integers, of characters and of atoms that hold exactly what passes.
use Rattle.std.specs.Prelude.{◌≡◌, Bool, true, false, ℤ, ℕ, List, [], ◌∷◌}
use Rattle.std.specs.Char.{IsScalar}
use Rattle.cd_sets.specs.Interval as integers
use Rattle.cd_sets.specs.Characters.{holds_character}
use Rattle.cd_sets.specs.Atoms as atoms
use Rattle.cd_syntax.specs.Integer.{IsInteger}
use Rattle.cd_syntax.specs.Name.{Name}
use Rattle.cd_model.specs.Formula as formula
use Rattle.cd_model.specs.Formula.{Formula}
use Rattle.cd_rules.specs.BasicSets.{passes, integer_test, character_test, atom_test}
use Rattle.cd_normal.specs.declared.basic_sets.Basics.{Basics}

-- what the tests of a thing say of some formulas, as one answer
abbrev pub Passing : Type 0
Passing = (Formula → Bool) → Bool

abbrev pub AreExact : Passing → Basics → Type 0
AreExact passing sets =
    ((z : ℤ) → IsInteger z → integers.holds sets.integers z ≡ passing (integer_test z))
    × ((c : ℕ) → IsScalar c → holds_character sets.characters c ≡ passing (character_test c))
    × ((name : Name) → atoms.IsAtom name
    → atoms.holds sets.atoms name ≡ passing (atom_test name))

-- each of some sets holds exactly what passes the formula in its place
abbrev pub AreExactEach : List Formula → List Basics → Type 0
AreExactEach [] [] = Unit {0}
AreExactEach (one ∷ rest) (sets ∷ others) =
    AreExact (λ test. passes test one) sets × AreExactEach rest others
AreExactEach _ _ = ⊥

-- a formula of things that have parts, none of which passes these tests
abbrev pub has_parts : Formula → Bool
has_parts (formula.Pair first second) = true
has_parts (formula.Xml tag attributes content) = true
has_parts (formula.Record named rest) = true
has_parts (formula.Arrow argument mapped) = true
has_parts _ = false
