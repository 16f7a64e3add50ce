-- Files in memory: what they hold, and the reads that they are to refuse.
use Rattle.std.specs.Prelude.{◌≡◌, ℕ, List, Option, None, String, Vec, map, find, string_bytes, ◌⊎◌}
use Rattle.std.specs.Prelude.{Contains}
use Rattle.std.specs.Global.{Global}
use Rattle.std.specs.Option.{option_map}
use Rattle.std.specs.Str.{bytes_eq}
use Rattle.cd_base.specs.FilesState.{FilesState}

-- the files (a name and bytes each), the reads that fail, how many reads were made, the count of
-- faults, and the name of the latest read that failed
pub record MemoryFilesState : Type 0 where
  pub files : List (List ℕ × List ℕ)
  pub failing : List ℕ
  pub reads : ℕ
  pub faults : ℕ
  pub last : Option (List ℕ)

-- the names and the bytes of files of the code
abbrev pub contents : List (String Global × Vec ℕ Global) → List (List ℕ × List ℕ)
contents files = map (λ file. (string_bytes file.0, file.1.items)) files

-- the bytes of the first file of a name
abbrev pub held : List (List ℕ × List ℕ) → List ℕ → Option (List ℕ)
held files name = option_map (λ file. file.1) (find (λ file. bytes_eq file.0 name) files)

-- what is known of such files: all that they hold
abbrev pub memory_files : MemoryFilesState → FilesState
memory_files f = record { known = held f.files; faults = f.faults; last = f.last }

-- the read was to fail, or no file has its name
abbrev pub IsRefused : MemoryFilesState → ℕ → List ℕ → Type 0
IsRefused f read name = Contains f.failing read ⊎ (held f.files name ≡ None)
