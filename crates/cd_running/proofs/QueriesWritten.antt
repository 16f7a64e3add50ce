-- The tokens of a query write its type.
use Rattle.std.proofs.Common.{refl, ℕ, ◌+◌, pos, List, [], ◌∷◌}
use Rattle.cd_syntax.specs.declared.sign.Sign.TheVariants as sign
use Rattle.cd_syntax.specs.declared.tokens.Token.{Token}
use Rattle.cd_syntax.specs.declared.tokens.TokenKind.TheVariants as token
use Rattle.cd_syntax.specs.Tokens.{at}
use Rattle.cd_tables.specs.Rows.{row_of}
use Rattle.cd_grammar.specs.declared.goal.Goal.TheVariants as goal
use Rattle.cd_grammar.specs.Parts.{ATree}
use Rattle.cd_grammar.specs.Language.{IsTree}
use Rattle.cd_grammar.specs.TreesAt.{place}
use Rattle.cd_grammar.proofs.Runs.{written}
use Rattle.cd_running.specs.Inner.WorkQueries.{integers_up_to}

-- the tokens of `[(0--number)*]`, where these begin after the number
abbrev pub tokens_after : (first second third end number : ℕ) → List Token
tokens_after first second third end number =
    at (token.Sign sign.OpenBracket) (place 0 1)
    ∷ at (token.Sign sign.OpenParenthesis) (place 1 2)
    ∷ at (token.Int (pos 0)) (place 2 3)
    ∷ at (token.Sign sign.To) (place 3 5)
    ∷ at (token.Int (pos number)) (place 5 first)
    ∷ at (token.Sign sign.CloseParenthesis) (place first second)
    ∷ at (token.Sign sign.Star) (place second third)
    ∷ at (token.Sign sign.CloseBracket) (place third end)
    ∷ []

-- and where the number has so many digits
abbrev pub query_tokens : (digits number : ℕ) → List Token
query_tokens digits number = tokens_after (5 + digits) (6 + digits) (7 + digits) (8 + digits) number

pub query_written : (digits number : ℕ) → IsTree 1000 (query_tokens digits number) (integers_up_to digits number)
unfolding row_of
query_written digits number =
    written goal.TypeText 1000 100 (query_tokens digits number) (ATree (integers_up_to digits number)) refl
