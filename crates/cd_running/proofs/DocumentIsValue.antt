-- The documents of the workload are values and data, and so elements, and their entries too.
use Rattle.std.proofs.Common.{ℕ, zero, suc, pos, ◌+◌, ◌≤◌, ◌%◌, [], ◌∷◌, List, map, refl, arith}
use Rattle.std.specs.Prelude.{codes}
use Rattle.std.proofs.lemmas.Int.{ints}
use Rattle.cd_syntax.specs.Integer.{IsInteger}
use Rattle.cd_syntax.specs.Name.{IsLabel}
use Rattle.cd_model.specs.AllOf.{AllOf}
use Rattle.cd_model.specs.Thing.{Thing, IsElement, IsValue, IsData}
use Rattle.cd_model.proofs.Closures.{data_are_elements}
use Rattle.cd_model.proofs.SoundBuiltIns.{a_label, nil_is_label}
use Rattle.cd_matching.specs.Sequences.{sequence_of}
use Rattle.cd_running.specs.Workload.{numbers}
use Rattle.cd_running.specs.Inner.WorkValues.{integer, held, entry, entries, document}

-- the names in a document are labels
pub log_label : IsLabel (codes "log")
log_label = a_label (codes "log") refl refl

pub e_label : IsLabel (codes "e")
e_label = a_label (codes "e") refl refl

pub n_label : IsLabel (codes "n")
n_label = a_label (codes "n") refl refl

-- small numbers are of 128 bits
pub is_integer : (n : ℕ) → n ≤ 1000000 → IsInteger (pos n)
is_integer n small = omega (arith, ints, small)

-- the sequence of values is one, and that of data is data
pub sequence_is_value : (things : List Thing) → AllOf IsValue things → IsValue (sequence_of things)
sequence_is_value [] are = nil_is_label
sequence_is_value (v ∷ things) are = (are.0, sequence_is_value things are.1)

sequence_is_data : (things : List Thing) → AllOf IsData things → IsData (sequence_of things)
sequence_is_data [] are = tt
sequence_is_data (v ∷ things) are = (are.0, sequence_is_data things are.1)

-- what an entry holds, and an entry
numbers_are_values : (left number : ℕ) → number ≤ 100000 → AllOf IsValue (map integer (numbers left number))
numbers_are_values zero number small = tt
numbers_are_values (suc zero) number small = (is_integer number (omega (arith, small)), tt)
numbers_are_values (suc (suc left)) number small =
    (is_integer number (omega (arith, small)), (is_integer (suc number) (omega (arith, small)), tt))

numbers_are_data : (left number : ℕ) → AllOf IsData (map integer (numbers left number))
numbers_are_data zero number = tt
numbers_are_data (suc zero) number = (tt, tt)
numbers_are_data (suc (suc left)) number = (tt, (tt, tt))

pub held_is_value : (number : ℕ) → number ≤ 100000 → IsValue (sequence_of (held number))
held_is_value number small = sequence_is_value (held number) (numbers_are_values (number % 3) number small)

pub entry_is_value : (number : ℕ) → number ≤ 100000 → IsValue (entry number)
entry_is_value number small = (
  tt,
  tt,
  e_label,
  ((tt, tt), (n_label, is_integer number (omega (arith, small)), tt)),
  held_is_value number small,
)

entry_is_data : (number : ℕ) → IsData (entry number)
entry_is_data number = (tt, (tt, tt), sequence_is_data (held number) (numbers_are_data (number % 3) number))

-- so many entries from a number on
entries_are_values : (first count : ℕ) → first + count ≤ 100000 → AllOf IsValue (entries first count)
entries_are_values first zero small = tt
entries_are_values first (suc count) small =
    (entry_is_value first (omega (arith, small)), entries_are_values (suc first) count (omega (arith, small)))

entries_are_data : (first count : ℕ) → AllOf IsData (entries first count)
entries_are_data first zero = tt
entries_are_data first (suc count) = (entry_is_data first, entries_are_data (suc first) count)

-- the document of so many entries
pub document_is_value : (size : ℕ) → size ≤ 100000 → IsValue (document size)
document_is_value size small = (
  tt,
  tt,
  log_label,
  (tt, tt),
  sequence_is_value (entries zero size) (entries_are_values zero size (omega (arith, small))),
)

pub document_is_data : (size : ℕ) → IsData (document size)
document_is_data size = (tt, tt, sequence_is_data (entries zero size) (entries_are_data zero size))

pub document_is_element : (size : ℕ) → size ≤ 100000 → IsElement (document size)
document_is_element size small =
    data_are_elements (document size) (document_is_value size small) (document_is_data size)
