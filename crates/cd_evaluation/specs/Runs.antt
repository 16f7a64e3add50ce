-- Runs: how evaluation may end, with so many units. A unit is taken at each application, choice of
-- a branch, test, operator, word and splice, so that each run ends.
use Rattle.std.specs.Prelude.{◌≡◌, ℕ, zero, suc, List, [], ◌∷◌, Option, Some, None}
use Rattle.cd_model.specs.Thing.{Thing}

pub data Outcome : Type 0 where
  -- with a value; with a value that was raised and not caught
  Done : Thing → Outcome
  Raised : Thing → Outcome
  -- an integer beyond 128 bits
  Overflow : Outcome
  -- a unit is wanted, and none is left
  Spent : Outcome
  -- the language says nothing of what comes here
  Stuck : Outcome

-- an outcome, and the units that are left
pub record Result : Type 0 where
  pub outcome : Outcome
  pub left : ℕ

-- Which results so many units may have. That a pattern takes a value is a fact and not computed, so
-- this is a relation
abbrev pub Run : Type 1
Run = ℕ → Result → Type 0

-- this outcome, with no unit taken
abbrev pub ends : Outcome → Run
ends outcome units result = result ≡ record { outcome = outcome; left = units }

-- a unit is taken first
abbrev pub ticked : Run → Run
ticked run zero result = ends Spent zero result
ticked run (suc units) result = run units result

-- a run, and then what is done with its outcome
abbrev pub followed : Run → (Outcome → Run) → Run
followed run next units result =
    (middle : Result) × run units middle × next middle.outcome middle.left result

-- what is done with a value; any other outcome is that of the whole
abbrev pub on_value : (Thing → Run) → Outcome → Run
on_value next (Done v) = next v
on_value next (Raised v) = ends (Raised v)
on_value next Overflow = ends Overflow
on_value next Spent = ends Spent
on_value next Stuck = ends Stuck

abbrev pub bound : Run → (Thing → Run) → Run
bound run next = followed run (on_value next)

-- what is done with a value that was raised; any other outcome is that of the whole
abbrev pub on_raised : (Thing → Run) → Outcome → Run
on_raised next (Done v) = ends (Done v)
on_raised next (Raised v) = next v
on_raised next Overflow = ends Overflow
on_raised next Spent = ends Spent
on_raised next Stuck = ends Stuck

abbrev pub caught : Run → (Thing → Run) → Run
caught run next = followed run (on_raised next)

-- the value, if there is one
abbrev pub found : Option Thing → Outcome
found None = Stuck
found (Some v) = Done v

-- each value of a list goes through a run, from the left, and for each of them a unit is taken
abbrev pub for_each : (Thing → Run) → List Thing → (List Thing → Run) → Run
for_each run [] next = next []
for_each run (v ∷ rest) next =
    bound (ticked (run v)) (λ w. for_each run rest (λ results. next (w ∷ results)))
