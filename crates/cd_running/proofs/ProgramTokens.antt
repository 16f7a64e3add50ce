-- The tokens of the workload's program.
use Rattle.std.proofs.Common.{List, [], ◌∷◌, ◌++◌}
use Rattle.cd_syntax.specs.declared.sign.Sign.TheVariants as sign
use Rattle.cd_syntax.specs.declared.tokens.Token.{Token}
use Rattle.cd_grammar.specs.TreesAt.{word_at, sign_at, digit_at}

-- `type Log = <log>[Entry*]`
abbrev pub log_tokens : List Token
log_tokens =
    word_at "type" 0 ∷ word_at "Log" 5 ∷ sign_at sign.Equal 9 ∷ sign_at sign.Less 11 ∷ word_at "log" 12
    ∷ sign_at sign.Greater 15 ∷ sign_at sign.OpenBracket 16 ∷ word_at "Entry" 17 ∷ sign_at sign.Star 22
    ∷ sign_at sign.CloseBracket 23 ∷ []

-- `type Entry = <e n=Int>[Int*]`
abbrev pub entry_tokens : List Token
entry_tokens =
    word_at "type" 25 ∷ word_at "Entry" 30 ∷ sign_at sign.Equal 36 ∷ sign_at sign.Less 38 ∷ word_at "e" 39
    ∷ word_at "n" 41 ∷ sign_at sign.Equal 42 ∷ word_at "Int" 43 ∷ sign_at sign.Greater 46
    ∷ sign_at sign.OpenBracket 47 ∷ word_at "Int" 48 ∷ sign_at sign.Star 51 ∷ sign_at sign.CloseBracket 52 ∷ []

-- `let fun main (Log -> [Int*])`
abbrev pub head_tokens : List Token
head_tokens =
    word_at "let" 54 ∷ word_at "fun" 58 ∷ word_at "main" 62 ∷ sign_at sign.OpenParenthesis 67 ∷ word_at "Log" 68
    ∷ sign_at sign.Arrow 72 ∷ sign_at sign.OpenBracket 75 ∷ word_at "Int" 76 ∷ sign_at sign.Star 79
    ∷ sign_at sign.CloseBracket 80 ∷ sign_at sign.CloseParenthesis 81 ∷ []

-- `<log>c -> transform c with <e n=k>[x::Int _*] -> x | _ -> [0]`
abbrev pub body_tokens : List Token
body_tokens =
    sign_at sign.Less 85 ∷ word_at "log" 86 ∷ sign_at sign.Greater 89 ∷ word_at "c" 90 ∷ sign_at sign.Arrow 92
    ∷ word_at "transform" 95 ∷ word_at "c" 105 ∷ word_at "with" 107 ∷ sign_at sign.Less 112 ∷ word_at "e" 113
    ∷ word_at "n" 115 ∷ sign_at sign.Equal 116 ∷ word_at "k" 117 ∷ sign_at sign.Greater 118
    ∷ sign_at sign.OpenBracket 119 ∷ word_at "x" 120 ∷ sign_at sign.ColonColon 121 ∷ word_at "Int" 123
    ∷ word_at "_" 127 ∷ sign_at sign.Star 128 ∷ sign_at sign.CloseBracket 129 ∷ sign_at sign.Arrow 131
    ∷ word_at "x" 134 ∷ sign_at sign.Or 136 ∷ word_at "_" 138 ∷ sign_at sign.Arrow 140
    ∷ sign_at sign.OpenBracket 143 ∷ digit_at 0 144 ∷ sign_at sign.CloseBracket 145 ∷ []

abbrev pub program_tokens : List Token
program_tokens = log_tokens ++ (entry_tokens ++ (head_tokens ++ body_tokens))
