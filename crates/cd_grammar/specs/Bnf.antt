-- Grammars as lines of text, each with what it makes.
use Rattle.std.specs.Prelude.{ℕ, zero, suc, List, [], ◌∷◌, ◌++◌, map, length}
use Rattle.std.specs.Prelude.{nat_eq, nat_lt, bytes_eq, codes}
use Prim.Native.String.{String}
use Rattle.cd_lr.specs.Grammar.{Symbol, Terminal, Nonterminal}
use Rattle.cd_lr.specs.Tables.{choose}
use Rattle.cd_grammar.specs.declared.make.Make.{Make}

-- A line `NAME = PARTS`. A part is a nonterminal, a kind of tokens (`Int`), or a sign or word after
-- `'`, or after `^` where it opens a level for itself and for what stands right of it in the line.
pub record Line : Type 0 where
  pub text : List ℕ
  pub make : Make

infix 75 ◌⟼◌
abbrev pub ◌⟼◌ : String → Make → Line
text ⟼ make = record { text = codes text; make = make }

-- what stands in a text in the place of each `~`
abbrev pub marked : (mark : List ℕ) → List ℕ → List ℕ
marked mark [] = []
marked mark (c ∷ rest) =
    let more = marked mark rest in choose (nat_eq c 126) (mark ++ more) (c ∷ more)

abbrev pub with_mark : (mark : List ℕ) → Line → Line
with_mark mark line = record { text = marked mark line.text; make = line.make }

-- the words between blanks: the first one and the others
abbrev pub words : List ℕ → List ℕ × List (List ℕ)
words [] = ([], [])
words (c ∷ rest) =
    let more = words rest in
    choose (nat_eq c 32) ([], more.0 ∷ more.1) (c ∷ more.0, more.1)

-- the number of a name among these, or how many there are
abbrev pub number_of : List (List ℕ) → List ℕ → ℕ
number_of [] name = zero
number_of (first ∷ rest) name =
    let more = number_of rest name in
    choose (bytes_eq first name) zero (suc more)

-- the rule that a line is, by the names of terminals and nonterminals in the order of their numbers
module _ (terminals nonterminals : List (List ℕ)) where
  abbrev pub named : List ℕ → Symbol
  named name =
      choose (nat_lt (number_of nonterminals name) (length nonterminals))
      (Nonterminal (number_of nonterminals name)) (Terminal 0 (number_of terminals name))

  abbrev pub symbol : List ℕ → Symbol
  symbol [] = named []
  symbol (c ∷ name) =
      choose (nat_eq c 39) (Terminal 0 (number_of terminals (39 ∷ name)))
      (choose (nat_eq c 94) (Terminal 1 (number_of terminals (39 ∷ name))) (named (c ∷ name)))

  abbrev pub after_equal : List (List ℕ) → List Symbol
  after_equal [] = []
  after_equal (equal ∷ parts) = map symbol parts

  abbrev pub left_side : List ℕ → ℕ
  left_side text = number_of nonterminals (words text).0

  abbrev pub right_side : List ℕ → List Symbol
  right_side text = after_equal (words text).1
