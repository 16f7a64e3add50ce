-- Patterns that are well made, and in which no name is at fault.
use Rattle.cd_syntax.specs.TypeTree.{Tree, Declarations}
use Rattle.cd_syntax.specs.WellMadePattern.{IsWellMadePattern}
use Rattle.cd_resolve.specs.Faults.{Fault}
use Rattle.cd_names.specs.ProgramFaults.{IsFaultOfPattern}

pub record IsSoundPattern (types : Declarations) (pattern : Tree) : Type 0 where
  pub well_made : IsWellMadePattern pattern
  pub sound : (fault : Fault) → IsFaultOfPattern types pattern fault → ⊥
