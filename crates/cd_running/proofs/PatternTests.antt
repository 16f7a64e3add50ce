-- The tests that stand for the types in the program's patterns.
use Rattle.std.proofs.Common.{◌≡◌, Bool, true, false, bytes_eq, refl, sym, true≢false}
use Rattle.std.proofs.lemmas.Slice.Eq.{bytes_eq-Decides}
use Rattle.cd_syntax.specs.Name.{Name}
use Rattle.cd_model.specs.Thing.{Thing, Integer, Atom, Record, NoField}
use Rattle.cd_model.specs.Types.{chosen}

abbrev pub Test : Type 0
Test = Thing → Bool

-- whether a thing is this atom, an integer, a record without fields, and anything
abbrev pub is_atom : Name → Test
is_atom name (Atom other) = bytes_eq other name
is_atom name d = false

abbrev pub is_integer : Test
is_integer (Integer n) = true
is_integer d = false

abbrev pub is_bare : Test
is_bare (Record NoField) = true
is_bare d = false

abbrev pub is_any : Test
is_any d = true

-- a label is itself, so what is chosen by that is the first
first_chosen : {one : Type 0} (other : Type 0) (same : Bool) → same ≡ true → one → chosen same one other
first_chosen other true is there = there
first_chosen other false is there = absurd (true≢false (sym is))

pub chosen_here : (label : Name) {one : Type 0} (other : Type 0) → one → chosen (bytes_eq label label) one other
chosen_here label other there = first_chosen other (bytes_eq label label) ((bytes_eq-Decides label label).1 refl) there
