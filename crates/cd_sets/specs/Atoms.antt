-- Sets of atoms: finitely many, or all but finitely many.
use Rattle.std.specs.Prelude.{◌≡◌, ◌≢◌, ℕ, ◌==◌, Bool, true, false, ◌&&◌, ◌||◌, not, List, [], ◌∷◌}
use Rattle.std.specs.Prelude.{IsTrue, codes, map, String, string_bytes, bytes_eq, if◌then◌else◌}
use Rattle.std.specs.Char.{is_ascii_alphabetic, is_ascii_alphanumeric}
use Rattle.std.specs.List.{All, list_all, list_any, IsDistinct}

-- a byte that a name may begin with, and one that it may go on with
abbrev pub begins_name : ℕ → Bool
begins_name byte = is_ascii_alphabetic byte || byte == 95

abbrev pub goes_on_name : ℕ → Bool
goes_on_name byte = is_ascii_alphanumeric byte || byte == 95

-- an ASCII letter or `_`, and then ASCII letters, digits and `_`
abbrev pub is_name : List ℕ → Bool
is_name [] = false
is_name (byte ∷ bytes) = begins_name byte && list_all goes_on_name bytes

-- an atom is a name other than `_` alone
abbrev pub IsAtom : List ℕ → Type 0
IsAtom name = IsTrue (is_name name) × (name ≢ codes "_")

-- a set of atoms: the listed names, or all names but those
pub record Atoms : Type 0 where
  pub all_but : Bool
  pub names : List (List ℕ)

-- one of the names is this one
abbrev pub is_listed : List (List ℕ) → List ℕ → Bool
is_listed names name = list_any (bytes_eq name) names

-- the bytes of each name
abbrev pub texts : {Z : Type 0} → List (String Z) → List (List ℕ)
texts names = map string_bytes names

-- each listed name is an atom, and each stands once
pub record AreAtoms (names : List (List ℕ)) : Type 0 where
  pub each : All IsAtom names
  pub once : IsDistinct bytes_eq names

-- the set holds the name
abbrev pub holds : Atoms → List ℕ → Bool
holds set name = if set.all_but then not (is_listed set.names name) else is_listed set.names name

-- no atom is in the set
abbrev pub HoldsNoAtom : Atoms → Type 0
HoldsNoAtom set = (name : List ℕ) → IsAtom name → holds set name ≡ false

-- the set of these names, and the set of all atoms but these
abbrev pub listing : List (List ℕ) → Atoms
listing names = record { all_but = false; names = names }

abbrev pub leaving_out : List (List ℕ) → Atoms
leaving_out names = record { all_but = true; names = names }

-- what is asked of a name: that it is listed, or that it is not
abbrev pub is_kept : Bool → Bool → Bool
is_kept true listed = listed
is_kept false listed = not listed
