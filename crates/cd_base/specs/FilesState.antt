-- What is known of files at one moment, and what a read does to it.
use Rattle.std.specs.Prelude.{◌≡◌, ℕ, ◌≤◌, List, Option, Some, IfSome, take}
use Rattle.cd_base.specs.Faults.{Rose}
use Rattle.cd_base.specs.declared.files.ReadError.{ReadError}
use Rattle.cd_base.specs.declared.files.ReadError.TheVariants.{Failed, Memory}

-- the bytes of the file of each name, where they are known; the count of faults, which never falls;
-- and the name of the latest read that failed
pub record FilesState : Type 0 where
  pub known : List ℕ → Option (List ℕ)
  pub faults : ℕ
  pub last : Option (List ℕ)

-- these are the first bytes of a file that is known: `most` of them, or all where there are fewer
abbrev pub IsPrefixOf : Option (List ℕ) → ℕ → List ℕ → Type 0
IsPrefixOf known most bytes = IfSome known (λ all. bytes ≡ take most all)

-- the count of faults rose by a read of this name, and what is known stayed
pub record FailsToRead (old new : FilesState) (name : List ℕ) : Type 0 where
  pub known : new.known ≡ old.known
  pub rose : Rose old.faults new.faults
  pub never_falls : old.faults ≤ new.faults
  pub last : new.last ≡ Some name

-- what a read that was refused leaves
abbrev pub AfterRefusedRead : ReadError → FilesState → FilesState → List ℕ → Type 0
AfterRefusedRead Failed old new name = FailsToRead old new name
AfterRefusedRead Memory old new name = new ≡ old
