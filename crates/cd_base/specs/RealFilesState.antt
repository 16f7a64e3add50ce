-- The files of the system; their bytes are not known.
use Rattle.std.specs.Prelude.{ℕ, List, Option, None}
use Rattle.cd_base.specs.FilesState.{FilesState}

-- the count of faults, and the name of the latest read that failed
pub record RealFilesState : Type 0 where
  pub faults : ℕ
  pub last : Option (List ℕ)

abbrev pub files_state : RealFilesState → FilesState
files_state f = record { known = λ name. None; faults = f.faults; last = f.last }
