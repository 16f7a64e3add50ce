-- The text of the workload's program lexes to its tokens.
use Rattle.std.proofs.Common.{◌≡◌, refl, subst, true, false, List, [], ◌∷◌, ◌++◌}
use Rattle.std.specs.Prelude.{codes}
use Rattle.std.specs.Str.{chars}
use Prim.Native.String.{String}
use Rattle.cd_syntax.specs.declared.sign.Sign.TheVariants as sign
use Rattle.cd_syntax.specs.Tokens.{Lexes}
use Rattle.cd_lex.specs.Inner.SignTable.{first_sign}
use Rattle.cd_running.specs.Workload.{program_text}
use Rattle.cd_running.proofs.ProgramTokens.{program_tokens}
use Rattle.cd_running.proofs.PiecesSpelled.{Piece, Blank, AWord, AMark, Digits, text_of, tokens_of, are_right, spelled}

abbrev space : Piece
space = Blank 32

abbrev line_feed : Piece
line_feed = Blank 10

abbrev called : String → Piece
called name = AWord (codes name)

-- `type Log = <log>[Entry*]`
abbrev log_pieces : List Piece
log_pieces =
    called "type" ∷ space ∷ called "Log" ∷ space ∷ AMark sign.Equal ∷ space ∷ AMark sign.Less ∷ called "log"
    ∷ AMark sign.Greater ∷ AMark sign.OpenBracket ∷ called "Entry" ∷ AMark sign.Star ∷ AMark sign.CloseBracket
    ∷ line_feed ∷ []

-- `type Entry = <e n=Int>[Int*]`
abbrev entry_pieces : List Piece
entry_pieces =
    called "type" ∷ space ∷ called "Entry" ∷ space ∷ AMark sign.Equal ∷ space ∷ AMark sign.Less ∷ called "e"
    ∷ space ∷ called "n" ∷ AMark sign.Equal ∷ called "Int" ∷ AMark sign.Greater ∷ AMark sign.OpenBracket
    ∷ called "Int" ∷ AMark sign.Star ∷ AMark sign.CloseBracket ∷ line_feed ∷ []

-- `let fun main (Log -> [Int*])`
abbrev head_pieces : List Piece
head_pieces =
    called "let" ∷ space ∷ called "fun" ∷ space ∷ called "main" ∷ space ∷ AMark sign.OpenParenthesis
    ∷ called "Log" ∷ space ∷ AMark sign.Arrow ∷ space ∷ AMark sign.OpenBracket ∷ called "Int" ∷ AMark sign.Star
    ∷ AMark sign.CloseBracket ∷ AMark sign.CloseParenthesis ∷ line_feed ∷ []

-- `  <log>c -> transform c with <e n=k>[x::Int _*] -> x | _ -> [0]`
abbrev body_pieces : List Piece
body_pieces =
    space ∷ space ∷ AMark sign.Less ∷ called "log" ∷ AMark sign.Greater ∷ called "c" ∷ space ∷ AMark sign.Arrow
    ∷ space ∷ called "transform" ∷ space ∷ called "c" ∷ space ∷ called "with" ∷ space ∷ AMark sign.Less
    ∷ called "e" ∷ space ∷ called "n" ∷ AMark sign.Equal ∷ called "k" ∷ AMark sign.Greater
    ∷ AMark sign.OpenBracket ∷ called "x" ∷ AMark sign.ColonColon ∷ called "Int" ∷ space ∷ called "_"
    ∷ AMark sign.Star ∷ AMark sign.CloseBracket ∷ space ∷ AMark sign.Arrow ∷ space ∷ called "x" ∷ space
    ∷ AMark sign.Or ∷ space ∷ called "_" ∷ space ∷ AMark sign.Arrow ∷ space ∷ AMark sign.OpenBracket
    ∷ Digits (codes "0") ∷ AMark sign.CloseBracket ∷ line_feed ∷ []

abbrev pieces : List Piece
pieces = log_pieces ++ (entry_pieces ++ (head_pieces ++ body_pieces))

-- the pieces stand as they are to, and their text and tokens are those of the program
pieces_are_right : are_right false pieces ≡ true
unfolding first_sign
pieces_are_right = refl

text_is : text_of pieces ≡ chars program_text
unfolding chars
text_is = refl

tokens_are : tokens_of 0 pieces ≡ program_tokens
unfolding lib.Utf8.encode
tokens_are = refl

pub program_spelled : Lexes false 0 (chars program_text) program_tokens
program_spelled =
    subst (λ text. Lexes false 0 text program_tokens) text_is
    (subst (Lexes false 0 (text_of pieces)) tokens_are (spelled false 0 pieces pieces_are_right))
