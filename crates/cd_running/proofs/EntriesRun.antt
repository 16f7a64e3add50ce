-- What `transform` makes of the entries of a document: of each entry, with one unit, the sequence of its first number, or of 0.
use Rattle.std.proofs.Common.{◌≡◌, ℕ, zero, suc, ◌+◌, ◌≤◌, ◌%◌, List, [], ◌∷◌, map, Some, None, refl, sym, ap, subst, arith}
use Rattle.cd_model.specs.Thing.{Thing, NoField, IsValue}
use Rattle.cd_matching.specs.Sequences.{nil, sequence_of}
use Rattle.cd_typing.specs.Typed.{scope_of}
use Rattle.cd_evaluation.specs.Code.{Code}
use Rattle.cd_evaluation.specs.Environment.{Env}
use Rattle.cd_evaluation.specs.Evaluation.{chosen}
use Rattle.cd_evaluation.specs.Lists.{both_items, all_items}
use Rattle.cd_evaluation.specs.ProgramCode.{TakesAs, code_of}
use Rattle.cd_evaluation.specs.ProgramInterfaces.{interfaces_of}
use Rattle.cd_evaluation.specs.Runs.{Outcome, Done, Result, Run, for_each}
use Rattle.cd_running.specs.Workload.{numbers}
use Rattle.cd_running.specs.Inner.WorkProgram.{work_program, entry_pattern, entry_branches}
use Rattle.cd_running.specs.Inner.WorkValues.{integer, held, entry, entries, first_or_zero, firsts}
use Rattle.cd_running.proofs.DocumentIsValue.{entry_is_value}
use Rattle.cd_running.proofs.EntriesTaken.{answer_at, entry_taken, any_taken}

abbrev pub ended : Outcome → ℕ → Result
ended outcome left = record { outcome = outcome; left = left }

abbrev pub work_code : Code
work_code = code_of work_program

-- what is made of an entry, and of so many entries from a number on
abbrev piece : List Thing → Thing
piece held = sequence_of (first_or_zero held ∷ [])

abbrev pub pieces : (first count : ℕ) → List Thing
pieces first zero = []
pieces first (suc count) = piece (held first) ∷ pieces (suc first) count

-- the items of all these pieces, joined, are the first numbers
pub pieces_joined : (first count : ℕ) → all_items (pieces first count) ≡ Some (firsts first count)
pieces_joined first zero = refl
pieces_joined first (suc count) = ap (both_items (Some (first_or_zero (held first) ∷ []))) (pieces_joined (suc first) count)

module _ (call : Thing → Thing → Run) (env : Env) where
  abbrev pub sifted : Thing → Run
  sifted v = chosen work_code call entry_branches env v (Done nil)

  -- the first branch takes an entry that holds a number, and the second one any other
  by_numbers : (number : ℕ) (held : List ℕ) (v : Thing) → IsValue v
      → TakesAs (interfaces_of work_program) (scope_of work_program) entry_pattern v (answer_at number held)
      → (units : ℕ) → sifted v units (ended (Done (piece (map integer held))) units)
  by_numbers number [] v is taken units = (
    None,
    taken,
    (
      Some NoField,
      any_taken (interfaces_of work_program) (scope_of work_program) _ v is,
      (ended (Done (integer zero)) units, refl, refl),
    ),
  )
  by_numbers number (first ∷ rest) v is taken units = (answer_at number (first ∷ rest), taken, refl)

  pub entry_sifted : (number units : ℕ) → number ≤ 100000 → sifted (entry number) units (ended (Done (piece (held number))) units)
  entry_sifted number units small = by_numbers number (numbers (number % 3) number) (entry number) (entry_is_value number small)
      (entry_taken (interfaces_of work_program) (scope_of work_program) number (entry_is_value number small)) units

  -- each entry takes a unit, and then it goes on with what is made of all of them
  pub entries_run : (first count units left : ℕ) (next : List Thing → Run) (result : Result) → first + count ≤ 100000
      → units ≡ count + left → next (pieces first count) left result
      → for_each sifted (entries first count) next units result
  entries_run first zero units left next result small same goes_on =
      subst (λ (n : ℕ). next [] n result) (sym units_are) goes_on
    where
      units_are : units ≡ left
      units_are = omega (arith, same)
  entries_run first (suc count) units left next result small same goes_on =
      subst (λ (n : ℕ). for_each sifted (entries first (suc count)) next n result) (sym units_are) (
        ended (Done (piece (held first))) (count + left),
        entry_sifted first (count + left) (omega (arith, small)),
        entries_run (suc first) count (count + left) left (λ results. next (piece (held first) ∷ results)) result
            (omega (arith, small)) refl goes_on,
      )
    where
      units_are : units ≡ suc (count + left)
      units_are = omega (arith, same)
