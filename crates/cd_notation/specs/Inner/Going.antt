-- A text of which a prefix is read.
use Rattle.std.specs.Prelude.{◌≡◌, ℕ, false, List, ◌⊎◌, Result, Ok, Err}
use Rattle.cd_syntax.specs.declared.tokens.Token.{Token}
use Rattle.cd_syntax.specs.declared.fault.TextError.{TextError}
use Rattle.cd_syntax.specs.declared.fault.TextError.TheVariants.{Fault}
use Rattle.cd_syntax.specs.declared.fault.TextFault.{TextFault}
use Rattle.cd_syntax.specs.declared.fault.TextFault.TheVariants.{Syntax}
use Rattle.cd_syntax.specs.Tokens.{Lexes}
use Rattle.cd_syntax.specs.Faults.{IfFault, HasFirstFault}
use Rattle.cd_documents.specs.Machine.{State, start, run}
use Rattle.cd_documents.specs.Reading.{most_open}
use Rattle.cd_cells.specs.declared.values.Values.{Values}
use Rattle.cd_cells.specs.declared.cell.ValueId.{ValueId}
use Rattle.cd_lex.specs.declared.lexer.Lexer.{Lexer}
use Rattle.cd_lex.specs.Lexing.{LexesOn, FailsOn}
use Rattle.cd_notation.specs.declared.form.Expecting.{Expecting}
use Rattle.cd_notation.specs.declared.form.Expecting.TheVariants.{Nothing}
use Rattle.cd_notation.specs.declared.reader.Reader.{Reader}
use Rattle.cd_notation.specs.Inner.Leading.{Stands}

-- the text has tokens, and the machine goes on with the rest of them from this state
pub record Makes (text : List ℕ) (now : State) (rest : List Token) : Type 0 where
  pub all : List Token
  pub lexes : Lexes false 0 text all
  pub runs : run most_open start all ≡ run most_open now rest

-- what is left of the text, and the state: what the rest lexes as follows what was read
pub record Going (text : List ℕ) (lexer : Lexer) (values : Values) (next : Expecting)
    (reader : Reader) : Type 0 where
  pub now : State
  pub stands : Stands values next reader now
  pub makes : (rest : List Token) → LexesOn lexer rest → Makes text now rest
  pub fails : (fault : TextFault) → FailsOn lexer fault → HasFirstFault false 0 text fault

-- what is left of a text whose tokens alone matter
pub record Passing (old lexer : Lexer) : Type 0 where
  pub lexes : (rest : List Token) → LexesOn lexer rest
      → (all : List Token) × LexesOn old all
  pub fails : (fault : TextFault) → FailsOn lexer fault → FailsOn old fault

-- the rest of a text has tokens and the first fault is the given one, or it is that of the rest
abbrev pub IsFirstOf : Lexer → (given first : TextFault) → Type 0
IsFirstOf lexer given first =
    ((first ≡ given) × (tokens : List Token) × LexesOn lexer tokens) ⊎ FailsOn lexer first

abbrev pub IsRefusal : Lexer → (given : TextFault) → TextError → Type 0
IsRefusal lexer given error = IfFault error (IsFirstOf lexer given)

-- the value at the end of a text
abbrev pub ended_of : Expecting → ℕ → Result ValueId TextError
ended_of (Nothing id) end = Ok id
ended_of _ end = Err (Fault (Syntax end))
