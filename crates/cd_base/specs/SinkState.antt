-- What is known of a sink at one moment, and what a put does to it.
use Rattle.std.specs.Prelude.{◌≡◌, ℕ, ◌≤◌, List, Option, take}
use Rattle.std.specs.Io.KnownBytes.{Appends}
use Rattle.cd_base.specs.Faults.{Rose}
use Rattle.cd_base.specs.declared.sink.PutError.{PutError}
use Rattle.cd_base.specs.declared.sink.PutError.TheVariants.{Failed, Memory}

-- the bytes that were written, where they are known, and the count of faults, which never falls
pub record SinkState : Type 0 where
  pub known : Option (List ℕ)
  pub faults : ℕ

-- all the bytes were appended, and nothing failed
pub record Puts (old new : SinkState) (bytes : List ℕ) : Type 0 where
  pub known : Appends old.known new.known bytes
  pub faults : new.faults ≡ old.faults

-- a prefix of the bytes was appended
abbrev pub AppendsPrefix : SinkState → SinkState → List ℕ → Type 0
AppendsPrefix old new bytes = (n : ℕ) × Appends old.known new.known (take n bytes)

-- a prefix of the bytes was appended, and the count of faults rose
pub record FailsToPut (old new : SinkState) (bytes : List ℕ) : Type 0 where
  pub known : AppendsPrefix old new bytes
  pub rose : Rose old.faults new.faults
  pub never_falls : old.faults ≤ new.faults

-- a prefix of the bytes was appended, and nothing failed
pub record PutsPrefix (old new : SinkState) (bytes : List ℕ) : Type 0 where
  pub known : AppendsPrefix old new bytes
  pub faults : new.faults ≡ old.faults

-- what a put that was refused leaves
abbrev pub AfterRefusedPut : PutError → SinkState → SinkState → List ℕ → Type 0
AfterRefusedPut Failed old new bytes = FailsToPut old new bytes
AfterRefusedPut Memory old new bytes = PutsPrefix old new bytes
