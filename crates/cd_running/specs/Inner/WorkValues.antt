-- The values of the workload's documents, and what its program makes of them.
use Rattle.std.specs.Prelude.{ℕ, zero, suc, pos, ◌%◌, List, [], ◌∷◌, map, codes}
use Rattle.cd_model.specs.Thing.{Thing, Integer, Atom, Xml, Record, NoField, Field}
use Rattle.cd_matching.specs.Sequences.{sequence_of}
use Rattle.cd_running.specs.Workload.{numbers}

abbrev pub integer : ℕ → Thing
integer n = Integer (pos n)

-- the entry of a number, and what it holds
abbrev pub held : ℕ → List Thing
held number = map integer (numbers (number % 3) number)

abbrev pub entry : ℕ → Thing
entry number = Xml (Atom (codes "e")) (Record (Field (codes "n") (integer number) NoField))
    (sequence_of (held number))

-- so many entries, the first of them of this number
abbrev pub entries : (first count : ℕ) → List Thing
entries first zero = []
entries first (suc count) = entry first ∷ entries (suc first) count

abbrev pub document : (size : ℕ) → Thing
document size = Xml (Atom (codes "log")) (Record NoField) (sequence_of (entries zero size))

-- what the program makes of an entry: its first number, or 0 where it has none
abbrev pub first_or_zero : List Thing → Thing
first_or_zero [] = integer zero
first_or_zero (v ∷ rest) = v

abbrev pub firsts : (first count : ℕ) → List Thing
firsts first zero = []
firsts first (suc count) = first_or_zero (held first) ∷ firsts (suc first) count

abbrev pub result : (size : ℕ) → Thing
result size = sequence_of (firsts zero size)
