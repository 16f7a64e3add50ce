-- The words and the names of atoms among the tokens of a text are labels, but the word `_`.
use Rattle.std.proofs.Common.{ℕ, ◌+◌, Bool, false, List, map}
use Rattle.std.specs.List.{AllByRecursion as AllOf}
use Rattle.cd_syntax.specs.declared.tokens.Token.{Token}
use Rattle.cd_syntax.specs.declared.tokens.TokenKind.{TokenKind}
use Rattle.cd_syntax.specs.Name.{IsLabel}
use Rattle.cd_syntax.specs.Tokens.{bytes, joins, IsLexemeOf, Lexes, word, number, negative, chars, text, atom, sign}
use Rattle.cd_syntax.specs.Tokens.{nothing, dropped, token}
use Rattle.cd_grammar.specs.Language.{Read}
use Rattle.cd_grammar.proofs.SortedTokens.{IsNamed, IsProper}

written_is_named : (joined : Bool) (written after : List ℕ) (kind : TokenKind) → IsLexemeOf joined written after kind
    → IsNamed IsLabel kind
written_is_named joined _ _ _ (word name after is ends) = λ other. (is, other)
written_is_named joined _ _ _ (number digits after are ends fits) = tt
written_is_named joined _ _ _ (negative digits after apart are ends fits) = tt
written_is_named joined _ _ _ (chars written characters after quotes) = tt
written_is_named joined _ _ _ (text written characters after quotes) = tt
written_is_named joined _ _ _ (atom name after label ends) = label
written_is_named joined _ _ _ (sign is after longest no_pair no_number) = tt

pub tokens_are_proper : (joined : Bool) (at : ℕ) (source : List ℕ) (tokens : List Token)
    → Lexes joined at source tokens → AllOf (IsProper IsLabel) (map Read tokens)
tokens_are_proper _ _ _ _ (nothing joined at) = tt
tokens_are_proper _ _ _ _ (dropped joined at written after tokens drops lexes) =
    tokens_are_proper false (at + bytes written) after tokens lexes
tokens_are_proper _ _ _ _ (token joined at written after kind tokens writes lexes) =
    let others = tokens_are_proper (joins kind) (at + bytes written) after tokens lexes in
    (written_is_named joined written after kind writes, others)
