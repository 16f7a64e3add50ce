-- Names: words, labels and the names of atoms.
use Rattle.std.specs.Prelude.{◌≡◌, ◌≢◌, ℕ, ◌==◌, Bool, false, ◌&&◌, ◌||◌, List, [], ◌∷◌, Option}
use Rattle.std.specs.Prelude.{Some, None, IsTrue, codes}
use Rattle.std.specs.Int.{is_in_range}
use Rattle.std.specs.Char.{is_ascii_alphabetic, is_ascii_alphanumeric}
use Rattle.std.specs.List.{list_all}
use Rattle.std.specs.Ordering.{nat_cmp}
use Rattle.std.specs.Cmp.Lexicographic.{slice_cmp}
use Rattle.std.specs.declared.cmp.Ordering.TheVariants.{Less}

-- a name is the list of its characters
abbrev pub Name : Type 0
Name = List ℕ

-- a character that a word may begin with, and one that it may go on with
abbrev pub begins_word : ℕ → Bool
begins_word c = is_ascii_alphabetic c || c == 95

abbrev pub goes_on_word : ℕ → Bool
goes_on_word c = is_ascii_alphanumeric c || c == 95

-- an ASCII letter or `_`, and then ASCII letters, digits and `_`
abbrev pub is_word : Name → Bool
is_word [] = false
is_word (c ∷ cs) = begins_word c && list_all goes_on_word cs

-- a label, or the name of an atom: a word other than `_` alone
abbrev pub IsLabel : Name → Type 0
IsLabel name = IsTrue (is_word name) × (name ≢ codes "_")

-- a label is above the one before it, if there is one
abbrev pub IsAbove : Option Name → Name → Type 0
IsAbove None label = Unit {0}
IsAbove (Some before) label = slice_cmp nat_cmp before label ≡ Less

-- a name that a type may have, where none is built in under it: it begins with A to Z
abbrev pub is_type_name : Name → Bool
is_type_name [] = false
is_type_name (c ∷ cs) = is_in_range 65 90 c

-- the first character of a name
abbrev pub first : Name → Option ℕ
first [] = None
first (c ∷ cs) = Some c

-- the one character of a name that has just one
abbrev pub only : Name → Option ℕ
only (c ∷ []) = Some c
only name = None
