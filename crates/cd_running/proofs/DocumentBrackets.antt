-- Few brackets are open at once in the documents of the workload.
use Rattle.std.proofs.Common.{ℕ, zero, suc, ◌%◌, ◌≤◌, max, Bool, true, false, List, [], ◌∷◌, map, arith, if◌then◌else◌}
use Rattle.cd_model.specs.AllOf.{AllOf}
use Rattle.cd_model.specs.Thing.{Thing}
use Rattle.cd_matching.specs.Sequences.{sequence_of}
use Rattle.cd_print.specs.Brackets.{brackets, along, is_text}
use Rattle.cd_running.specs.Workload.{numbers}
use Rattle.cd_running.specs.Inner.WorkValues.{integer, held, entry, entries, document}

abbrev AreFew : (most : ℕ) → List Thing → Type 0
AreFew most = AllOf (λ v. brackets v ≤ most)

-- a text has no bracket, and a row one and those of its parts
either_few : (test : Bool) (first second most : ℕ) → first ≤ most → second ≤ most
    → (if test then 0 else suc (max first second)) ≤ suc most
either_few true first second most one two = omega arith
either_few false first second most one two = omega arith

few_along : (most : ℕ) (things : List Thing) → AreFew most things → along (sequence_of things) ≤ most
few_along most [] few = omega arith
few_along most (first ∷ rest) few =
    let others = few_along most rest few.1 in
    let own = few.0 in
    omega arith

few_in_sequence : (most : ℕ) (things : List Thing) → AreFew most things → brackets (sequence_of things) ≤ suc most
few_in_sequence most [] few = omega arith
few_in_sequence most (first ∷ rest) few =
    either_few (is_text (sequence_of (first ∷ rest))) (brackets first) (along (sequence_of rest)) most few.0 (few_along most rest few.1)

-- the numbers in an entry have none, whatever is left of its own
numbers_are_few : (left number : ℕ) → AreFew 0 (map integer (numbers left number))
numbers_are_few zero number = tt
numbers_are_few (suc zero) number = (omega arith, tt)
numbers_are_few (suc (suc left)) number = (omega arith, (omega arith, tt))

entry_has_few : (number : ℕ) → brackets (entry number) ≤ 2
entry_has_few number =
    let content = few_in_sequence 0 (held number) (numbers_are_few (number % 3) number) in
    omega (arith, content)

entries_are_few : (first count : ℕ) → AreFew 2 (entries first count)
entries_are_few first zero = tt
entries_are_few first (suc count) = (entry_has_few first, entries_are_few (suc first) count)

pub document_has_few : (size : ℕ) → brackets (document size) ≤ 4
document_has_few size =
    let content = few_in_sequence 2 (entries zero size) (entries_are_few zero size) in
    omega (arith, content)
