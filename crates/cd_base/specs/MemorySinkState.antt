-- A sink in memory: what it holds, and the puts that it is to refuse.
use Rattle.std.specs.Prelude.{◌≡◌, ℕ, ◌==◌, List, ◌++◌, Option, Some, take, find}
use Rattle.std.specs.Option.{option_map}
use Rattle.cd_base.specs.SinkState.{SinkState}

-- the bytes so far, the puts that fail (each with how many bytes it keeps), how many puts were
-- made, and the count of faults
pub record MemorySinkState : Type 0 where
  pub bytes : List ℕ
  pub failing : List (ℕ × ℕ)
  pub puts : ℕ
  pub faults : ℕ

-- what is known of such a sink: all that it holds
abbrev pub sink_state : MemorySinkState → SinkState
sink_state s = record { known = Some s.bytes; faults = s.faults }

-- how many bytes the put of this number keeps, where it is to fail; the first entry of a number
-- counts
abbrev pub refusal_of : ℕ → List (ℕ × ℕ) → Option ℕ
refusal_of put failing = option_map (λ entry. entry.1) (find (λ entry. entry.0 == put) failing)

-- the put was to fail, and as many bytes were appended as it was to keep
abbrev pub RefusesAsPlanned : MemorySinkState → MemorySinkState → List ℕ → Type 0
RefusesAsPlanned old new bytes =
    (kept : ℕ) × (refusal_of new.puts old.failing ≡ Some kept)
    × (new.bytes ≡ old.bytes ++ take kept bytes)
