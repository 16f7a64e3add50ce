-- Sequences as things: pairs that end in the atom `nil`.
use Rattle.std.specs.Prelude.{ℕ, Bool, true, false, List, [], ◌∷◌, Option, Some, None, option_map}
use Rattle.std.specs.Prelude.{bytes_eq, codes, if◌then◌else◌}
use Rattle.cd_syntax.specs.declared.constant.Constant.{Constant}
use Rattle.cd_syntax.specs.declared.constant.Constant.TheVariants as constant
use Rattle.cd_model.specs.Thing.{Thing, Integer, Character, Atom, Pair}

abbrev pub nil : Thing
nil = Atom (codes "nil")

abbrev pub sequence_of : List Thing → Thing
sequence_of [] = nil
sequence_of (first ∷ rest) = Pair first (sequence_of rest)

-- the items of a sequence, and None of another thing
abbrev pub items : Thing → Option (List Thing)
items (Atom name) = if bytes_eq name (codes "nil") then Some [] else None
items (Pair first second) = option_map (λ rest. first ∷ rest) (items second)
items d = None

abbrev pub is_no_item : Option (List Thing) → Bool
is_no_item (Some []) = true
is_no_item _ = false

abbrev pub text_of : List ℕ → Thing
text_of [] = nil
text_of (c ∷ text) = Pair (Character c) (text_of text)

-- the thing that a constant is
abbrev pub thing_of : Constant → Thing
thing_of (constant.Int n) = Integer n
thing_of (constant.Char c) = Character c
thing_of (constant.Atom name) = Atom name
thing_of (constant.Text text) = text_of text
thing_of constant.Nil = nil
