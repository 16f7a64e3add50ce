-- The program's run on a document: it takes one unit for `main` and one for each entry.
use Rattle.std.proofs.Common.{◌≡◌, ℕ, zero, suc, ◌+◌, ◌≤◌, Some, refl, sym, ap, subst, arith}
use Rattle.std.specs.Prelude.{codes}
use Rattle.cd_model.specs.Thing.{Thing, Closure, NoField, Field}
use Rattle.cd_matching.specs.Sequences.{sequence_of}
use Rattle.cd_meaning.proofs.SequencesFollowed.{items_of_sequence}
use Rattle.cd_typing.specs.Typed.{scope_of}
use Rattle.cd_evaluation.specs.Code.{place_of}
use Rattle.cd_evaluation.specs.Environment.{Env}
use Rattle.cd_evaluation.specs.Evaluation.{eval, items_or_stuck, joined}
use Rattle.cd_evaluation.specs.Lists.{listed}
use Rattle.cd_evaluation.specs.Meaning.{calls}
use Rattle.cd_evaluation.specs.ProgramInterfaces.{interfaces_of}
use Rattle.cd_evaluation.specs.Runs.{Done, Result, Run, ends, for_each}
use Rattle.cd_evaluation.proofs.OneResult.{one_meaning}
use Rattle.cd_evaluation.proofs.ProgramTakes.{takes_once}
use Rattle.cd_safety.specs.SafeProgram.{ComesTo}
use Rattle.cd_running.specs.Inner.WorkProgram.{work_program, main, body}
use Rattle.cd_running.specs.Inner.WorkValues.{entries, document, result}
use Rattle.cd_running.proofs.DocumentIsValue.{document_is_value}
use Rattle.cd_running.proofs.EntriesTaken.{document_taken}
use Rattle.cd_running.proofs.EntriesRun.{ended, work_code, pieces_joined, sifted, entries_run}

-- what the body of `main` sees
abbrev seen : (size : ℕ) → Env
seen size = Field (codes "c") (sequence_of (entries zero size)) (Field (codes "main") (Closure (place_of main) NoField) NoField)

-- the body of `main` takes a unit for each entry
module _ (call : Thing → Thing → Run) where
  body_runs : (size left : ℕ) → size ≤ 100000
      → eval work_code call body (seen size) (size + left) (ended (Done (result size)) left)
  body_runs size left small = (
    ended (Done (sequence_of (entries zero size))) (size + left),
    refl,
    subst (λ all. items_or_stuck all (λ vs. for_each (sifted call (seen size)) vs (λ ws. ends (joined ws))) (size + left)
        (ended (Done (result size)) left)) (sym (items_of_sequence (entries zero size)))
        (entries_run call (seen size) zero size (size + left) left (λ ws. ends (joined ws)) (ended (Done (result size)) left)
        (omega (arith, small)) refl (ap (λ all. ended (listed all) left) (sym (pieces_joined zero size)))),
  )

-- the run uses one unit more than there are entries, and leaves the others
pub work_runs : (size left : ℕ) → size ≤ 100000
    → ComesTo work_program main (document size) (suc size + left) (record { outcome = Done (result size); left = left })
work_runs size left small =
    subst (λ (units : ℕ). ComesTo work_program main (document size) units (ended (Done (result size)) left)) (sym units_are) (
      Some (Field (codes "c") (sequence_of (entries zero size)) NoField),
      document_taken (interfaces_of work_program) (scope_of work_program) size (document_is_value size small),
      body_runs (calls work_code (size + left)) size left small,
    )
  where
    units_are : suc size + left ≡ suc (size + left)
    units_are = omega arith

-- it has no other result with as many units
pub one_result : (size left : ℕ) → size ≤ 100000 → (r : Result)
    → ComesTo work_program main (document size) (suc size + left) r → r ≡ record { outcome = Done (result size); left = left }
one_result size left small r comes = one_meaning work_code (takes_once work_program) (Closure (place_of main) NoField) (document size)
    (suc size + left) r (ended (Done (result size)) left) comes (work_runs size left small)

-- both for a number of units that is given
pub work_runs_with : (size left units : ℕ) → size ≤ 100000 → suc size + left ≡ units
    → ComesTo work_program main (document size) units (record { outcome = Done (result size); left = left })
work_runs_with size left units small same =
    subst (λ (n : ℕ). ComesTo work_program main (document size) n (ended (Done (result size)) left)) same (work_runs size left small)

pub one_result_with : (size left units : ℕ) → size ≤ 100000 → suc size + left ≡ units → (r : Result)
    → ComesTo work_program main (document size) units r → r ≡ record { outcome = Done (result size); left = left }
one_result_with size left units small same r comes =
    one_result size left small r (subst (λ (n : ℕ). ComesTo work_program main (document size) n r) (sym same) comes)
