-- The characters of a text are read one after the other.
use Rattle.std.proofs.Common.{◌≡◌, ℕ, ◌<◌, List, ◌++◌, Option, option_map, length}
use Rattle.cd_model.specs.Thing.{Thing}
use Rattle.cd_cells.specs.Cells.{thing_at}
use Rattle.cd_evaluation.specs.Lists.{characters_of}

abbrev later : List ℕ → Option (List ℕ) → Option (List ℕ)
later text found = option_map (λ rest. text ++ rest) found

-- this text is read, and this value is left
pub record IsReadingText (table : List Thing) (v : Thing) (rest : ℕ) (text : List ℕ) : Type 0 where
  pub within : rest < length table
  pub goes : later text (characters_of (thing_at table rest)) ≡ characters_of v
