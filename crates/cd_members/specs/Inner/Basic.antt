-- Shapes of integers, characters and atoms.
use Rattle.std.specs.Prelude.{◌≡◌, true}
use Rattle.std.specs.Char.{IsScalar}
use Rattle.cd_sets.specs.Interval as integers
use Rattle.cd_sets.specs.Characters.{holds_character}
use Rattle.cd_sets.specs.Atoms as atoms
use Rattle.cd_syntax.specs.Integer.{IsInteger}
use Rattle.cd_syntax.specs.Name.{IsLabel}
use Rattle.cd_elements.specs.declared.shape.Shape.{Shape}
use Rattle.cd_elements.specs.declared.shape.Shape.TheVariants.{Int, Char, Atom}
use Rattle.cd_normal.specs.declared.basic_sets.Basics.{Basics}

-- the shape is of a thing that is in one of the sets
abbrev pub IsIn : Basics → Shape → Type 0
IsIn sets (Int n) = IsInteger n × (integers.holds sets.integers n ≡ true)
IsIn sets (Char c) = IsScalar c × (holds_character sets.characters c ≡ true)
IsIn sets (Atom name) = IsLabel name × (atoms.holds sets.atoms name ≡ true)
IsIn sets _ = ⊥
