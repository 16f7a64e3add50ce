-- The language: which tokens write which type, which file of declarations, and which program.
use Rattle.std.specs.Prelude.{◌≡◌, ℕ, zero, Bool, true, false, List, [], ◌∷◌, ◌++◌, map}
use Rattle.std.specs.Prelude.{Option, Some, None, slice_get}
use Rattle.cd_syntax.specs.declared.tokens.Span.{Span}
use Rattle.cd_syntax.specs.declared.tokens.Token.{Token}
use Rattle.cd_syntax.specs.TypeTree.{Tree, Declaration, Declarations, declarations_of}
use Rattle.cd_program.specs.Expr.{Program}
use Rattle.cd_lr.specs.Grammar.{Grammar, Whole}
use Rattle.cd_lr.specs.TableGrammar.{grammar}
use Rattle.cd_grammar.specs.declared.goal.Goal.{Goal}
use Rattle.cd_grammar.specs.declared.goal.Goal.TheVariants as goal
use Rattle.cd_grammar.specs.Bnf.{Line}
use Rattle.cd_grammar.specs.Parts.{Part, AToken, ATree, AFile, AProgram, Junk}
use Rattle.cd_grammar.specs.Makes.{made}
use Rattle.cd_grammar.specs.Rules.{lines}
use Rattle.cd_grammar.specs.Terminals.{terminal_of, terminal_of_goal}
use Rattle.cd_grammar.specs.Tables.{tables}

-- what stands in a text to the grammar: first what it is to be, then its tokens; and a token that
-- may come after these
pub data Entry : Type 0 where
  To : Goal → Entry
  Read : Token → Entry
  Later : Token → Entry

abbrev pub kind_of : Entry → ℕ
kind_of (To goal) = terminal_of_goal goal
kind_of (Read token) = terminal_of token.kind
kind_of (Later token) = terminal_of token.kind

-- at any depth stand what the text is to be, which opens nothing, and what may come
abbrev pub is_free : Entry → Bool
is_free (To goal) = true
is_free (Read token) = false
is_free (Later token) = true

-- a part, and where it stands
abbrev pub Placed : Type 0
Placed = Span × Part

abbrev pub nowhere : Span
nowhere = record { from = zero; to = zero }

abbrev pub value_of : Entry → Placed
value_of (To goal) = (nowhere, Junk)
value_of (Read token) = (token.span, AToken token)
value_of (Later token) = (token.span, AToken token)

-- from the beginning of the first part to the end of the last one
abbrev pub end_of : ℕ → List Placed → ℕ
end_of to [] = to
end_of to (next ∷ rest) = end_of next.0.to rest

abbrev pub place_of : List Placed → Span
place_of [] = nowhere
place_of (first ∷ rest) = record { from = first.0.from; to = end_of first.0.to rest }

abbrev pub made_by : Option Line → Span → List Part → Part
made_by None here parts = Junk
made_by (Some line) here parts = made line.make here parts

abbrev pub build : ℕ → List Placed → Placed
build rule parts =
    (place_of parts, made_by (slice_get lines rule) (place_of parts) (map (λ part. part.1) parts))

abbrev pub cduce_grammar : Grammar Entry Placed
cduce_grammar = grammar tables kind_of value_of is_free build

-- the tokens write the part, at most so deep
abbrev pub Writes : Goal → (depth : ℕ) → List Token → Part → Type 0
Writes goal depth tokens part =
    (place : Span) × Whole cduce_grammar depth (To goal ∷ map Read tokens) (place, part)

-- what begins with the tokens, which are at most so deep; the tokens to come may stand at any depth
abbrev pub Begins : Goal → (depth : ℕ) → List Token → Type 0
Begins goal depth tokens =
    (more : List Token) × (part : Placed)
    × Whole cduce_grammar depth (To goal ∷ map Read tokens ++ map Later more) part

-- the tokens write the type, at most so deep, the declarations, and the program
abbrev pub IsTree : (depth : ℕ) → List Token → Tree → Type 0
IsTree depth tokens is = Writes goal.TypeText depth tokens (ATree is)

abbrev pub AreDeclared : (depth : ℕ) → List Token → Declarations → Type 0
AreDeclared depth tokens declarations = Writes goal.TypeFile depth tokens (AFile declarations)

abbrev pub IsProgram : (depth : ℕ) → List Token → Program → Type 0
IsProgram depth tokens program =
    (types : List Declaration) × (program.types ≡ declarations_of types)
    × Writes goal.ProgramText depth tokens (AProgram types program.functions)
