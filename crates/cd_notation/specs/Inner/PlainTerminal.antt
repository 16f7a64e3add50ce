-- What a token is in a document, and the names of tokens.
use Rattle.cd_syntax.specs.Name.{Name, IsLabel}
use Rattle.cd_documents.specs.Terminal as plain
use Rattle.cd_documents.specs.Terminal.{Terminal}
use Rattle.cd_notation.specs.declared.terminal.Terminal.{Terminal as ATerminal}
use Rattle.cd_notation.specs.declared.terminal.Terminal.TheVariants as the

-- with the characters of the token
abbrev pub plain_terminal : ATerminal → Name → Terminal
plain_terminal (the.Number n) name = plain.Number n
plain_terminal the.Letters name = plain.Letters name
plain_terminal the.Text name = plain.Text name
plain_terminal the.Atom name = plain.AnAtom name
plain_terminal the.Label name = plain.Label name
plain_terminal the.OpenTuple name = plain.OpenTuple
plain_terminal the.CloseTuple name = plain.CloseTuple
plain_terminal the.OpenSequence name = plain.OpenSequence
plain_terminal the.CloseSequence name = plain.CloseSequence
plain_terminal the.OpenRecord name = plain.OpenRecord
plain_terminal the.CloseRecord name = plain.CloseRecord
plain_terminal the.OpenTag name = plain.OpenTag
plain_terminal the.CloseTag name = plain.CloseTag
plain_terminal the.Equal name = plain.Equal
plain_terminal the.Comma name = plain.Comma
plain_terminal the.Semicolon name = plain.Semicolon
plain_terminal the.Other name = plain.NoTerminal

-- the name of an atom, and a label, is a word but `_`
abbrev pub IsNamed : ATerminal → Name → Type 0
IsNamed the.Atom name = IsLabel name
IsNamed the.Label name = IsLabel name
IsNamed _ name = Unit {0}
