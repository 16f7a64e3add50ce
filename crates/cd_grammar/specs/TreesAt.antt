-- Tokens, trees and expressions of sequences by their places in a text.
use Rattle.std.specs.Prelude.{ℕ, ◌+◌, pos, true, false, [], length, codes, Some}
use Prim.Native.String.{String}
use Rattle.cd_syntax.specs.declared.sign.Sign.{Sign as ASign}
use Rattle.cd_syntax.specs.declared.tokens.Span.{Span}
use Rattle.cd_syntax.specs.declared.tokens.Token.{Token}
use Rattle.cd_syntax.specs.declared.tokens.TokenKind.TheVariants as token
use Rattle.cd_syntax.specs.declared.builtin.BuiltinName.{BuiltinName}
use Rattle.cd_syntax.specs.declared.builtin.BuiltinName.TheVariants as builtin
use Rattle.cd_syntax.specs.Signs.{characters}
use Rattle.cd_syntax.specs.Tokens.{at}
use Rattle.cd_syntax.specs.TypeTree.{Tree, tree, Kind, Builtin, Ints, Chars, Record, Named}
use Rattle.cd_syntax.specs.TypeTree.{Signed, Field, Declaration, fields_of}
use Rattle.cd_syntax.specs.TypeTree.{Regular, regular, RegularKind, Item}
use Rattle.cd_syntax.specs.TypeTree.{Closed}

abbrev pub place : (from to : ℕ) → Span
place from to = record { from = from; to = to }

-- tokens from a byte on
abbrev pub sign_at : ASign → (from : ℕ) → Token
sign_at is from = at (token.Sign is) (place from (from + length (characters is)))

abbrev pub word_at : String → (from : ℕ) → Token
word_at name from = at (token.Word (codes name)) (place from (from + length (codes name)))

abbrev pub digit_at : (n from : ℕ) → Token
digit_at n from = at (token.Int (pos n)) (place from (from + 1))

-- between quotes, and an atom after its backquote
abbrev pub chars_at : String → (from : ℕ) → Token
chars_at text from = at (token.Chars (codes text)) (place from (from + length (codes text) + 2))

abbrev pub text_at : String → (from : ℕ) → Token
text_at text from = at (token.Text (codes text)) (place from (from + length (codes text) + 2))

abbrev pub atom_at : String → (from : ℕ) → Token
atom_at name from = at (token.Atom (codes name)) (place from (from + length (codes name) + 1))

-- a tree, and an expression, from one byte to another
abbrev pub tree_from : (from to : ℕ) → Kind → Tree
tree_from from to kind = tree (place from to) kind

abbrev pub regular_from : (from to : ℕ) → RegularKind → Regular
regular_from from to kind = regular (place from to) kind

-- trees from a byte on: a digit, a type name and one that is built in, and `_`
abbrev pub number_at : (n from : ℕ) → Tree
number_at n from = tree_from from (from + 1) (Ints (Some (pos n)) (Some (pos n)))

abbrev pub named_at : String → (from : ℕ) → Tree
named_at name from = tree_from from (from + length (codes name)) (Named (codes name))

abbrev pub built_in_at : String → BuiltinName → (from : ℕ) → Tree
built_in_at name is from = tree_from from (from + length (codes name)) (Builtin is)

abbrev pub ints_at : (from : ℕ) → Tree
ints_at from = built_in_at "Int" builtin.Int from

abbrev pub chars_type_at : (from : ℕ) → Tree
chars_type_at from = built_in_at "Char" builtin.Char from

abbrev pub any_at : (from : ℕ) → Tree
any_at from = built_in_at "_" builtin.Any from

-- a tree after a sign
abbrev pub kept : Tree → Signed
kept is = record { kept = true; tree = is }

abbrev pub taken_off : Tree → Signed
taken_off is = record { kept = false; tree = is }

-- a field from a byte on, and one that may be absent
abbrev pub field_at : String → (from : ℕ) → Tree → Field
field_at label from is = record {
  label = codes label;
  at = from;
  optional = false;
  tree = is;
}

abbrev pub optional_at : String → (from : ℕ) → Tree → Field
optional_at label from is = record { label = codes label; at = from; optional = true; tree = is }

abbrev pub declared_at : String → (from : ℕ) → Tree → Declaration
declared_at name from is = record { name = codes name; at = from; tree = is }

-- no attributes, before a `>` at this byte
abbrev pub no_attributes_at : (from : ℕ) → Tree
no_attributes_at from = tree_from from from (Record (fields_of []) Closed)

-- a type that is one item, and characters that each are one
abbrev pub item : Tree → Regular
item (tree span kind) = regular span (Item (tree span kind))

abbrev pub letter_from : (from to c : ℕ) → Regular
letter_from from to c = item (tree_from from to (Chars c c))
