-- Sets of integers, of characters and of atoms with nothing in them.
use Rattle.cd_sets.specs.Interval.{HoldsNothing}
use Rattle.cd_sets.specs.Characters.{HoldsNoCharacter}
use Rattle.cd_sets.specs.Atoms.{HoldsNoAtom}
use Rattle.cd_normal.specs.declared.basic_sets.Basics.{Basics}

abbrev pub HoldNothing : Basics → Type 0
HoldNothing sets = HoldsNothing sets.integers × HoldsNoCharacter sets.characters
    × HoldsNoAtom sets.atoms
