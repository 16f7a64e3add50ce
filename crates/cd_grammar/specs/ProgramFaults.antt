-- Texts that are no programs, as their tokens.
use Rattle.std.specs.Prelude.{List, [], ◌∷◌}
use Rattle.cd_syntax.specs.declared.sign.Sign.TheVariants as sign
use Rattle.cd_syntax.specs.declared.tokens.Token.{Token}
use Rattle.cd_grammar.specs.TreesAt.{sign_at, word_at, digit_at, chars_at}
use Rattle.cd_grammar.specs.ProgramExamples.{WrongText, wrong}

-- the first token that no program has there, by its number
abbrev pub wrong_programs : List WrongText
wrong_programs =
    -- `type A=x`
    wrong 3 (word_at "type" 0 ∷ word_at "A" 5 ∷ sign_at sign.Equal 6 ∷ word_at "x" 7 ∷ [])
    -- `type A=1;;;;`
    ∷ wrong 5 (word_at "type" 0 ∷ word_at "A" 5 ∷ sign_at sign.Equal 6 ∷ digit_at 1 7
    ∷ sign_at sign.Semicolons 8 ∷ sign_at sign.Semicolons 10 ∷ [])
    -- `x`
    ∷ wrong 0 (word_at "x" 0 ∷ [])
    -- `let f (A->A) x->x`
    ∷ wrong 1 (word_at "let" 0 ∷ word_at "f" 4 ∷ sign_at sign.OpenParenthesis 6 ∷ word_at "A" 7
    ∷ sign_at sign.Arrow 8 ∷ word_at "A" 10 ∷ sign_at sign.CloseParenthesis 11 ∷ word_at "x" 13
    ∷ sign_at sign.Arrow 14 ∷ word_at "x" 16 ∷ [])
    -- `let fun F (A->A) x->x`
    ∷ wrong 2 (word_at "let" 0 ∷ word_at "fun" 4 ∷ word_at "F" 8 ∷ sign_at sign.OpenParenthesis 10
    ∷ word_at "A" 11 ∷ sign_at sign.Arrow 12 ∷ word_at "A" 14 ∷ sign_at sign.CloseParenthesis 15
    ∷ word_at "x" 17 ∷ sign_at sign.Arrow 18 ∷ word_at "x" 20 ∷ [])
    -- `let fun f (A) x->x`
    ∷ wrong 5 (word_at "let" 0 ∷ word_at "fun" 4 ∷ word_at "f" 8 ∷ sign_at sign.OpenParenthesis 10
    ∷ word_at "A" 11 ∷ sign_at sign.CloseParenthesis 12 ∷ word_at "x" 14 ∷ sign_at sign.Arrow 15
    ∷ word_at "x" 17 ∷ [])
    -- `let fun f (x->A) x->x`
    ∷ wrong 4 (word_at "let" 0 ∷ word_at "fun" 4 ∷ word_at "f" 8 ∷ sign_at sign.OpenParenthesis 10
    ∷ word_at "x" 11 ∷ sign_at sign.Arrow 12 ∷ word_at "A" 14 ∷ sign_at sign.CloseParenthesis 15
    ∷ word_at "x" 17 ∷ sign_at sign.Arrow 18 ∷ word_at "x" 20 ∷ [])
    -- `let fun f (A->x) x->x`
    ∷ wrong 6 (word_at "let" 0 ∷ word_at "fun" 4 ∷ word_at "f" 8 ∷ sign_at sign.OpenParenthesis 10
    ∷ word_at "A" 11 ∷ sign_at sign.Arrow 12 ∷ word_at "x" 14 ∷ sign_at sign.CloseParenthesis 15
    ∷ word_at "x" 17 ∷ sign_at sign.Arrow 18 ∷ word_at "x" 20 ∷ [])
    ∷ []

-- the same in patterns
abbrev pub wrong_patterns : List WrongText
wrong_patterns =
    -- `let fun f (A->A) x where A=1->x`
    wrong 9 (word_at "let" 0 ∷ word_at "fun" 4 ∷ word_at "f" 8 ∷ sign_at sign.OpenParenthesis 10
    ∷ word_at "A" 11 ∷ sign_at sign.Arrow 12 ∷ word_at "A" 14 ∷ sign_at sign.CloseParenthesis 15
    ∷ word_at "x" 17 ∷ word_at "where" 19 ∷ word_at "A" 25 ∷ sign_at sign.Equal 26 ∷ digit_at 1 27
    ∷ sign_at sign.Arrow 28 ∷ word_at "x" 30 ∷ [])
    -- `let fun f (A->A) x::A->x`
    ∷ wrong 9 (word_at "let" 0 ∷ word_at "fun" 4 ∷ word_at "f" 8 ∷ sign_at sign.OpenParenthesis 10
    ∷ word_at "A" 11 ∷ sign_at sign.Arrow 12 ∷ word_at "A" 14 ∷ sign_at sign.CloseParenthesis 15
    ∷ word_at "x" 17 ∷ sign_at sign.ColonColon 18 ∷ word_at "A" 20 ∷ sign_at sign.Arrow 21
    ∷ word_at "x" 23 ∷ [])
    -- `let fun f (A->A) (x:=y)->x`
    ∷ wrong 11 (word_at "let" 0 ∷ word_at "fun" 4 ∷ word_at "f" 8 ∷ sign_at sign.OpenParenthesis 10
    ∷ word_at "A" 11 ∷ sign_at sign.Arrow 12 ∷ word_at "A" 14 ∷ sign_at sign.CloseParenthesis 15
    ∷ sign_at sign.OpenParenthesis 17 ∷ word_at "x" 18 ∷ sign_at sign.Becomes 19 ∷ word_at "y" 21
    ∷ sign_at sign.CloseParenthesis 22 ∷ sign_at sign.Arrow 23 ∷ word_at "x" 25 ∷ [])
    -- `let fun f (A->A) (x:='ab')->x`
    ∷ wrong 11 (word_at "let" 0 ∷ word_at "fun" 4 ∷ word_at "f" 8 ∷ sign_at sign.OpenParenthesis 10
    ∷ word_at "A" 11 ∷ sign_at sign.Arrow 12 ∷ word_at "A" 14 ∷ sign_at sign.CloseParenthesis 15
    ∷ sign_at sign.OpenParenthesis 17 ∷ word_at "x" 18 ∷ sign_at sign.Becomes 19 ∷ chars_at "ab" 21
    ∷ sign_at sign.CloseParenthesis 25 ∷ sign_at sign.Arrow 26 ∷ word_at "x" 28 ∷ [])
    -- `let fun f (A->A) [X::A]->x`
    ∷ wrong 10 (word_at "let" 0 ∷ word_at "fun" 4 ∷ word_at "f" 8 ∷ sign_at sign.OpenParenthesis 10
    ∷ word_at "A" 11 ∷ sign_at sign.Arrow 12 ∷ word_at "A" 14 ∷ sign_at sign.CloseParenthesis 15
    ∷ sign_at sign.OpenBracket 17 ∷ word_at "X" 18 ∷ sign_at sign.ColonColon 19 ∷ word_at "A" 21
    ∷ sign_at sign.CloseBracket 22 ∷ sign_at sign.Arrow 23 ∷ word_at "x" 25 ∷ [])
    -- `let fun f (A->A) {a=x b=y}->x`
    ∷ wrong 12 (word_at "let" 0 ∷ word_at "fun" 4 ∷ word_at "f" 8 ∷ sign_at sign.OpenParenthesis 10
    ∷ word_at "A" 11 ∷ sign_at sign.Arrow 12 ∷ word_at "A" 14 ∷ sign_at sign.CloseParenthesis 15
    ∷ sign_at sign.OpenBrace 17 ∷ word_at "a" 18 ∷ sign_at sign.Equal 19 ∷ word_at "x" 20
    ∷ word_at "b" 22 ∷ sign_at sign.Equal 23 ∷ word_at "y" 24 ∷ sign_at sign.CloseBrace 25
    ∷ sign_at sign.Arrow 26 ∷ word_at "x" 28 ∷ [])
    -- `let fun f (A->A) 'ab'->x`
    ∷ wrong 8 (word_at "let" 0 ∷ word_at "fun" 4 ∷ word_at "f" 8 ∷ sign_at sign.OpenParenthesis 10
    ∷ word_at "A" 11 ∷ sign_at sign.Arrow 12 ∷ word_at "A" 14 ∷ sign_at sign.CloseParenthesis 15
    ∷ chars_at "ab" 17 ∷ sign_at sign.Arrow 21 ∷ word_at "x" 23 ∷ [])
    -- `let fun f (A->A) fun->x`
    ∷ wrong 8 (word_at "let" 0 ∷ word_at "fun" 4 ∷ word_at "f" 8 ∷ sign_at sign.OpenParenthesis 10
    ∷ word_at "A" 11 ∷ sign_at sign.Arrow 12 ∷ word_at "A" 14 ∷ sign_at sign.CloseParenthesis 15
    ∷ word_at "fun" 17 ∷ sign_at sign.Arrow 20 ∷ word_at "x" 22 ∷ [])
    ∷ []

-- the same in expressions
abbrev pub wrong_exprs : List WrongText
wrong_exprs =
    -- `let fun f (A->A) x->1<2<3`
    wrong 13 (word_at "let" 0 ∷ word_at "fun" 4 ∷ word_at "f" 8 ∷ sign_at sign.OpenParenthesis 10
    ∷ word_at "A" 11 ∷ sign_at sign.Arrow 12 ∷ word_at "A" 14 ∷ sign_at sign.CloseParenthesis 15
    ∷ word_at "x" 17 ∷ sign_at sign.Arrow 18 ∷ digit_at 1 20 ∷ sign_at sign.Less 21 ∷ digit_at 2 22
    ∷ sign_at sign.Less 23 ∷ digit_at 3 24 ∷ [])
    -- `let fun f (A->A) x->f <a>[]`
    ∷ wrong 13 (word_at "let" 0 ∷ word_at "fun" 4 ∷ word_at "f" 8 ∷ sign_at sign.OpenParenthesis 10
    ∷ word_at "A" 11 ∷ sign_at sign.Arrow 12 ∷ word_at "A" 14 ∷ sign_at sign.CloseParenthesis 15
    ∷ word_at "x" 17 ∷ sign_at sign.Arrow 18 ∷ word_at "f" 20 ∷ sign_at sign.Less 22
    ∷ word_at "a" 23 ∷ sign_at sign.Greater 24 ∷ sign_at sign.OpenBracket 25
    ∷ sign_at sign.CloseBracket 26 ∷ [])
    -- `let fun f (A->A) x->not not x`
    ∷ wrong 11 (word_at "let" 0 ∷ word_at "fun" 4 ∷ word_at "f" 8 ∷ sign_at sign.OpenParenthesis 10
    ∷ word_at "A" 11 ∷ sign_at sign.Arrow 12 ∷ word_at "A" 14 ∷ sign_at sign.CloseParenthesis 15
    ∷ word_at "x" 17 ∷ sign_at sign.Arrow 18 ∷ word_at "not" 20 ∷ word_at "not" 24 ∷ word_at "x" 28
    ∷ [])
    -- `let fun f (A->A) x->'ab'`
    ∷ wrong 10 (word_at "let" 0 ∷ word_at "fun" 4 ∷ word_at "f" 8 ∷ sign_at sign.OpenParenthesis 10
    ∷ word_at "A" 11 ∷ sign_at sign.Arrow 12 ∷ word_at "A" 14 ∷ sign_at sign.CloseParenthesis 15
    ∷ word_at "x" 17 ∷ sign_at sign.Arrow 18 ∷ chars_at "ab" 20 ∷ [])
    -- `let fun f (A->A) x->A`
    ∷ wrong 10 (word_at "let" 0 ∷ word_at "fun" 4 ∷ word_at "f" 8 ∷ sign_at sign.OpenParenthesis 10
    ∷ word_at "A" 11 ∷ sign_at sign.Arrow 12 ∷ word_at "A" 14 ∷ sign_at sign.CloseParenthesis 15
    ∷ word_at "x" 17 ∷ sign_at sign.Arrow 18 ∷ word_at "A" 20 ∷ [])
    -- `let fun f (A->A) x->_`
    ∷ wrong 10 (word_at "let" 0 ∷ word_at "fun" 4 ∷ word_at "f" 8 ∷ sign_at sign.OpenParenthesis 10
    ∷ word_at "A" 11 ∷ sign_at sign.Arrow 12 ∷ word_at "A" 14 ∷ sign_at sign.CloseParenthesis 15
    ∷ word_at "x" 17 ∷ sign_at sign.Arrow 18 ∷ word_at "_" 20 ∷ [])
    -- `let fun f (A->A) x->{a=1;;b=2}`
    ∷ wrong 14 (word_at "let" 0 ∷ word_at "fun" 4 ∷ word_at "f" 8 ∷ sign_at sign.OpenParenthesis 10
    ∷ word_at "A" 11 ∷ sign_at sign.Arrow 12 ∷ word_at "A" 14 ∷ sign_at sign.CloseParenthesis 15
    ∷ word_at "x" 17 ∷ sign_at sign.Arrow 18 ∷ sign_at sign.OpenBrace 20 ∷ word_at "a" 21
    ∷ sign_at sign.Equal 22 ∷ digit_at 1 23 ∷ sign_at sign.Semicolons 24 ∷ word_at "b" 26
    ∷ sign_at sign.Equal 27 ∷ digit_at 2 28 ∷ sign_at sign.CloseBrace 29 ∷ [])
    -- `let fun f (A->A) x->{..}`
    ∷ wrong 11 (word_at "let" 0 ∷ word_at "fun" 4 ∷ word_at "f" 8 ∷ sign_at sign.OpenParenthesis 10
    ∷ word_at "A" 11 ∷ sign_at sign.Arrow 12 ∷ word_at "A" 14 ∷ sign_at sign.CloseParenthesis 15
    ∷ word_at "x" 17 ∷ sign_at sign.Arrow 18 ∷ sign_at sign.OpenBrace 20 ∷ sign_at sign.Dots 21
    ∷ sign_at sign.CloseBrace 23 ∷ [])
    -- `let fun f (A->A) x->[1|2]`
    ∷ wrong 12 (word_at "let" 0 ∷ word_at "fun" 4 ∷ word_at "f" 8 ∷ sign_at sign.OpenParenthesis 10
    ∷ word_at "A" 11 ∷ sign_at sign.Arrow 12 ∷ word_at "A" 14 ∷ sign_at sign.CloseParenthesis 15
    ∷ word_at "x" 17 ∷ sign_at sign.Arrow 18 ∷ sign_at sign.OpenBracket 20 ∷ digit_at 1 21
    ∷ sign_at sign.Or 22 ∷ digit_at 2 23 ∷ sign_at sign.CloseBracket 24 ∷ [])
    -- `let fun f (A->A) x->[A]`
    ∷ wrong 11 (word_at "let" 0 ∷ word_at "fun" 4 ∷ word_at "f" 8 ∷ sign_at sign.OpenParenthesis 10
    ∷ word_at "A" 11 ∷ sign_at sign.Arrow 12 ∷ word_at "A" 14 ∷ sign_at sign.CloseParenthesis 15
    ∷ word_at "x" 17 ∷ sign_at sign.Arrow 18 ∷ sign_at sign.OpenBracket 20 ∷ word_at "A" 21
    ∷ sign_at sign.CloseBracket 22 ∷ [])
    -- `let fun f (A->A) x->r.1`
    ∷ wrong 12 (word_at "let" 0 ∷ word_at "fun" 4 ∷ word_at "f" 8 ∷ sign_at sign.OpenParenthesis 10
    ∷ word_at "A" 11 ∷ sign_at sign.Arrow 12 ∷ word_at "A" 14 ∷ sign_at sign.CloseParenthesis 15
    ∷ word_at "x" 17 ∷ sign_at sign.Arrow 18 ∷ word_at "r" 20 ∷ sign_at sign.Dot 21 ∷ digit_at 1 22
    ∷ [])
    -- `let fun f (A->A) x->f not x`
    ∷ wrong 11 (word_at "let" 0 ∷ word_at "fun" 4 ∷ word_at "f" 8 ∷ sign_at sign.OpenParenthesis 10
    ∷ word_at "A" 11 ∷ sign_at sign.Arrow 12 ∷ word_at "A" 14 ∷ sign_at sign.CloseParenthesis 15
    ∷ word_at "x" 17 ∷ sign_at sign.Arrow 18 ∷ word_at "f" 20 ∷ word_at "not" 22 ∷ word_at "x" 26
    ∷ [])
    -- `let fun f (A->A) x->1+match x with y->y`
    ∷ wrong 12 (word_at "let" 0 ∷ word_at "fun" 4 ∷ word_at "f" 8 ∷ sign_at sign.OpenParenthesis 10
    ∷ word_at "A" 11 ∷ sign_at sign.Arrow 12 ∷ word_at "A" 14 ∷ sign_at sign.CloseParenthesis 15
    ∷ word_at "x" 17 ∷ sign_at sign.Arrow 18 ∷ digit_at 1 20 ∷ sign_at sign.Plus 21
    ∷ word_at "match" 22 ∷ word_at "x" 28 ∷ word_at "with" 30 ∷ word_at "y" 35
    ∷ sign_at sign.Arrow 36 ∷ word_at "y" 38 ∷ [])
    -- `let fun f (A->A) x->x in x`
    ∷ wrong 11 (word_at "let" 0 ∷ word_at "fun" 4 ∷ word_at "f" 8 ∷ sign_at sign.OpenParenthesis 10
    ∷ word_at "A" 11 ∷ sign_at sign.Arrow 12 ∷ word_at "A" 14 ∷ sign_at sign.CloseParenthesis 15
    ∷ word_at "x" 17 ∷ sign_at sign.Arrow 18 ∷ word_at "x" 20 ∷ word_at "in" 22 ∷ word_at "x" 25
    ∷ [])
    -- `let fun f (A->A) x->()`
    ∷ wrong 11 (word_at "let" 0 ∷ word_at "fun" 4 ∷ word_at "f" 8 ∷ sign_at sign.OpenParenthesis 10
    ∷ word_at "A" 11 ∷ sign_at sign.Arrow 12 ∷ word_at "A" 14 ∷ sign_at sign.CloseParenthesis 15
    ∷ word_at "x" 17 ∷ sign_at sign.Arrow 18 ∷ sign_at sign.OpenParenthesis 20
    ∷ sign_at sign.CloseParenthesis 21 ∷ [])
    -- `let fun f (A->A) x-><_>x`
    ∷ wrong 11 (word_at "let" 0 ∷ word_at "fun" 4 ∷ word_at "f" 8 ∷ sign_at sign.OpenParenthesis 10
    ∷ word_at "A" 11 ∷ sign_at sign.Arrow 12 ∷ word_at "A" 14 ∷ sign_at sign.CloseParenthesis 15
    ∷ word_at "x" 17 ∷ sign_at sign.Arrow 18 ∷ sign_at sign.Less 20 ∷ word_at "_" 21
    ∷ sign_at sign.Greater 22 ∷ word_at "x" 23 ∷ [])
    -- `let fun f (A->A) x-><a x=?1>x`
    ∷ wrong 13 (word_at "let" 0 ∷ word_at "fun" 4 ∷ word_at "f" 8 ∷ sign_at sign.OpenParenthesis 10
    ∷ word_at "A" 11 ∷ sign_at sign.Arrow 12 ∷ word_at "A" 14 ∷ sign_at sign.CloseParenthesis 15
    ∷ word_at "x" 17 ∷ sign_at sign.Arrow 18 ∷ sign_at sign.Less 20 ∷ word_at "a" 21
    ∷ word_at "x" 23 ∷ sign_at sign.EqualQuestion 24 ∷ digit_at 1 26 ∷ sign_at sign.Greater 27
    ∷ word_at "x" 28 ∷ [])
    -- `let fun f (A->A) x-><a x=1+2>x`
    ∷ wrong 15 (word_at "let" 0 ∷ word_at "fun" 4 ∷ word_at "f" 8 ∷ sign_at sign.OpenParenthesis 10
    ∷ word_at "A" 11 ∷ sign_at sign.Arrow 12 ∷ word_at "A" 14 ∷ sign_at sign.CloseParenthesis 15
    ∷ word_at "x" 17 ∷ sign_at sign.Arrow 18 ∷ sign_at sign.Less 20 ∷ word_at "a" 21
    ∷ word_at "x" 23 ∷ sign_at sign.Equal 24 ∷ digit_at 1 25 ∷ sign_at sign.Plus 26 ∷ digit_at 2 27
    ∷ sign_at sign.Greater 28 ∷ word_at "x" 29 ∷ [])
    -- `let fun f (A->A) x->x::y`
    ∷ wrong 11 (word_at "let" 0 ∷ word_at "fun" 4 ∷ word_at "f" 8 ∷ sign_at sign.OpenParenthesis 10
    ∷ word_at "A" 11 ∷ sign_at sign.Arrow 12 ∷ word_at "A" 14 ∷ sign_at sign.CloseParenthesis 15
    ∷ word_at "x" 17 ∷ sign_at sign.Arrow 18 ∷ word_at "x" 20 ∷ sign_at sign.ColonColon 21
    ∷ word_at "y" 23 ∷ [])
    -- `let fun f (A->A) x->x/ @a`
    ∷ wrong 12 (word_at "let" 0 ∷ word_at "fun" 4 ∷ word_at "f" 8 ∷ sign_at sign.OpenParenthesis 10
    ∷ word_at "A" 11 ∷ sign_at sign.Arrow 12 ∷ word_at "A" 14 ∷ sign_at sign.CloseParenthesis 15
    ∷ word_at "x" 17 ∷ sign_at sign.Arrow 18 ∷ word_at "x" 20 ∷ sign_at sign.Slash 21
    ∷ sign_at sign.At 23 ∷ word_at "a" 24 ∷ [])
    -- `let fun f (A->A) x->x/1`
    ∷ wrong 12 (word_at "let" 0 ∷ word_at "fun" 4 ∷ word_at "f" 8 ∷ sign_at sign.OpenParenthesis 10
    ∷ word_at "A" 11 ∷ sign_at sign.Arrow 12 ∷ word_at "A" 14 ∷ sign_at sign.CloseParenthesis 15
    ∷ word_at "x" 17 ∷ sign_at sign.Arrow 18 ∷ word_at "x" 20 ∷ sign_at sign.Slash 21
    ∷ digit_at 1 22 ∷ [])
    -- `let fun f (A->A) x->select x from y in x`
    ∷ wrong 10 (word_at "let" 0 ∷ word_at "fun" 4 ∷ word_at "f" 8 ∷ sign_at sign.OpenParenthesis 10
    ∷ word_at "A" 11 ∷ sign_at sign.Arrow 12 ∷ word_at "A" 14 ∷ sign_at sign.CloseParenthesis 15
    ∷ word_at "x" 17 ∷ sign_at sign.Arrow 18 ∷ word_at "select" 20 ∷ word_at "x" 27
    ∷ word_at "from" 29 ∷ word_at "y" 34 ∷ word_at "in" 36 ∷ word_at "x" 39 ∷ [])
    -- `let fun f (A->A) x->(select x from y)`
    ∷ wrong 15 (word_at "let" 0 ∷ word_at "fun" 4 ∷ word_at "f" 8 ∷ sign_at sign.OpenParenthesis 10
    ∷ word_at "A" 11 ∷ sign_at sign.Arrow 12 ∷ word_at "A" 14 ∷ sign_at sign.CloseParenthesis 15
    ∷ word_at "x" 17 ∷ sign_at sign.Arrow 18 ∷ sign_at sign.OpenParenthesis 20 ∷ word_at "select" 21
    ∷ word_at "x" 28 ∷ word_at "from" 30 ∷ word_at "y" 35 ∷ sign_at sign.CloseParenthesis 36 ∷ [])
    -- `let fun f (A->A) x->(select x from y in x where y, z in x)`
    ∷ wrong 19 (word_at "let" 0 ∷ word_at "fun" 4 ∷ word_at "f" 8 ∷ sign_at sign.OpenParenthesis 10
    ∷ word_at "A" 11 ∷ sign_at sign.Arrow 12 ∷ word_at "A" 14 ∷ sign_at sign.CloseParenthesis 15
    ∷ word_at "x" 17 ∷ sign_at sign.Arrow 18 ∷ sign_at sign.OpenParenthesis 20 ∷ word_at "select" 21
    ∷ word_at "x" 28 ∷ word_at "from" 30 ∷ word_at "y" 35 ∷ word_at "in" 37 ∷ word_at "x" 40
    ∷ word_at "where" 42 ∷ word_at "y" 48 ∷ sign_at sign.Comma 49 ∷ word_at "z" 51 ∷ word_at "in" 53
    ∷ word_at "x" 56 ∷ sign_at sign.CloseParenthesis 57 ∷ [])
    ∷ []

-- programs that are begun
abbrev pub begun_programs : List (List Token)
begun_programs =
    -- `type A=1 let`
    (word_at "type" 0 ∷ word_at "A" 5 ∷ sign_at sign.Equal 6 ∷ digit_at 1 7 ∷ word_at "let" 9 ∷ [])
    -- `type A=`
    ∷ (word_at "type" 0 ∷ word_at "A" 5 ∷ sign_at sign.Equal 6 ∷ [])
    -- `type`
    ∷ (word_at "type" 0 ∷ [])
    -- `let fun f`
    ∷ (word_at "let" 0 ∷ word_at "fun" 4 ∷ word_at "f" 8 ∷ [])
    -- `let fun f (A->A)`
    ∷ (word_at "let" 0 ∷ word_at "fun" 4 ∷ word_at "f" 8 ∷ sign_at sign.OpenParenthesis 10
    ∷ word_at "A" 11 ∷ sign_at sign.Arrow 12 ∷ word_at "A" 14 ∷ sign_at sign.CloseParenthesis 15
    ∷ [])
    -- `let fun f (A->A) x`
    ∷ (word_at "let" 0 ∷ word_at "fun" 4 ∷ word_at "f" 8 ∷ sign_at sign.OpenParenthesis 10
    ∷ word_at "A" 11 ∷ sign_at sign.Arrow 12 ∷ word_at "A" 14 ∷ sign_at sign.CloseParenthesis 15
    ∷ word_at "x" 17 ∷ [])
    -- `let fun f (A->A) x->x|`
    ∷ (word_at "let" 0 ∷ word_at "fun" 4 ∷ word_at "f" 8 ∷ sign_at sign.OpenParenthesis 10
    ∷ word_at "A" 11 ∷ sign_at sign.Arrow 12 ∷ word_at "A" 14 ∷ sign_at sign.CloseParenthesis 15
    ∷ word_at "x" 17 ∷ sign_at sign.Arrow 18 ∷ word_at "x" 20 ∷ sign_at sign.Or 21 ∷ [])
    -- `let fun f (A->A) x->x;;let fun`
    ∷ (word_at "let" 0 ∷ word_at "fun" 4 ∷ word_at "f" 8 ∷ sign_at sign.OpenParenthesis 10
    ∷ word_at "A" 11 ∷ sign_at sign.Arrow 12 ∷ word_at "A" 14 ∷ sign_at sign.CloseParenthesis 15
    ∷ word_at "x" 17 ∷ sign_at sign.Arrow 18 ∷ word_at "x" 20 ∷ sign_at sign.Semicolons 21
    ∷ word_at "let" 23 ∷ word_at "fun" 27 ∷ [])
    ∷ []

-- programs whose last expression is begun
abbrev pub begun_exprs : List (List Token)
begun_exprs =
    -- `let fun main (Int->Int) x->x+`
    (word_at "let" 0 ∷ word_at "fun" 4 ∷ word_at "main" 8 ∷ sign_at sign.OpenParenthesis 13
    ∷ word_at "Int" 14 ∷ sign_at sign.Arrow 17 ∷ word_at "Int" 19 ∷ sign_at sign.CloseParenthesis 22
    ∷ word_at "x" 24 ∷ sign_at sign.Arrow 25 ∷ word_at "x" 27 ∷ sign_at sign.Plus 28 ∷ [])
    -- `let fun f (Int->Int) x-><a>`
    ∷ (word_at "let" 0 ∷ word_at "fun" 4 ∷ word_at "f" 8 ∷ sign_at sign.OpenParenthesis 10
    ∷ word_at "Int" 11 ∷ sign_at sign.Arrow 14 ∷ word_at "Int" 16 ∷ sign_at sign.CloseParenthesis 19
    ∷ word_at "x" 21 ∷ sign_at sign.Arrow 22 ∷ sign_at sign.Less 24 ∷ word_at "a" 25
    ∷ sign_at sign.Greater 26 ∷ [])
    -- `let fun f (A->A) x->`
    ∷ (word_at "let" 0 ∷ word_at "fun" 4 ∷ word_at "f" 8 ∷ sign_at sign.OpenParenthesis 10
    ∷ word_at "A" 11 ∷ sign_at sign.Arrow 12 ∷ word_at "A" 14 ∷ sign_at sign.CloseParenthesis 15
    ∷ word_at "x" 17 ∷ sign_at sign.Arrow 18 ∷ [])
    -- `let fun f (A->A) x->if x then y`
    ∷ (word_at "let" 0 ∷ word_at "fun" 4 ∷ word_at "f" 8 ∷ sign_at sign.OpenParenthesis 10
    ∷ word_at "A" 11 ∷ sign_at sign.Arrow 12 ∷ word_at "A" 14 ∷ sign_at sign.CloseParenthesis 15
    ∷ word_at "x" 17 ∷ sign_at sign.Arrow 18 ∷ word_at "if" 20 ∷ word_at "x" 23 ∷ word_at "then" 25
    ∷ word_at "y" 30 ∷ [])
    -- `let fun f (A->A) x->let y=1 in`
    ∷ (word_at "let" 0 ∷ word_at "fun" 4 ∷ word_at "f" 8 ∷ sign_at sign.OpenParenthesis 10
    ∷ word_at "A" 11 ∷ sign_at sign.Arrow 12 ∷ word_at "A" 14 ∷ sign_at sign.CloseParenthesis 15
    ∷ word_at "x" 17 ∷ sign_at sign.Arrow 18 ∷ word_at "let" 20 ∷ word_at "y" 24
    ∷ sign_at sign.Equal 25 ∷ digit_at 1 26 ∷ word_at "in" 28 ∷ [])
    -- `let fun f (A->A) x->match x with`
    ∷ (word_at "let" 0 ∷ word_at "fun" 4 ∷ word_at "f" 8 ∷ sign_at sign.OpenParenthesis 10
    ∷ word_at "A" 11 ∷ sign_at sign.Arrow 12 ∷ word_at "A" 14 ∷ sign_at sign.CloseParenthesis 15
    ∷ word_at "x" 17 ∷ sign_at sign.Arrow 18 ∷ word_at "match" 20 ∷ word_at "x" 26
    ∷ word_at "with" 28 ∷ [])
    -- `let fun f (A->A) x->[1`
    ∷ (word_at "let" 0 ∷ word_at "fun" 4 ∷ word_at "f" 8 ∷ sign_at sign.OpenParenthesis 10
    ∷ word_at "A" 11 ∷ sign_at sign.Arrow 12 ∷ word_at "A" 14 ∷ sign_at sign.CloseParenthesis 15
    ∷ word_at "x" 17 ∷ sign_at sign.Arrow 18 ∷ sign_at sign.OpenBracket 20 ∷ digit_at 1 21 ∷ [])
    -- `let fun f (A->A) x->{a=1;`
    ∷ (word_at "let" 0 ∷ word_at "fun" 4 ∷ word_at "f" 8 ∷ sign_at sign.OpenParenthesis 10
    ∷ word_at "A" 11 ∷ sign_at sign.Arrow 12 ∷ word_at "A" 14 ∷ sign_at sign.CloseParenthesis 15
    ∷ word_at "x" 17 ∷ sign_at sign.Arrow 18 ∷ sign_at sign.OpenBrace 20 ∷ word_at "a" 21
    ∷ sign_at sign.Equal 22 ∷ digit_at 1 23 ∷ sign_at sign.Semicolon 24 ∷ [])
    -- `let fun f (A->A) x->r.`
    ∷ (word_at "let" 0 ∷ word_at "fun" 4 ∷ word_at "f" 8 ∷ sign_at sign.OpenParenthesis 10
    ∷ word_at "A" 11 ∷ sign_at sign.Arrow 12 ∷ word_at "A" 14 ∷ sign_at sign.CloseParenthesis 15
    ∷ word_at "x" 17 ∷ sign_at sign.Arrow 18 ∷ word_at "r" 20 ∷ sign_at sign.Dot 21 ∷ [])
    -- `let fun f (A->A) x->f (x,`
    ∷ (word_at "let" 0 ∷ word_at "fun" 4 ∷ word_at "f" 8 ∷ sign_at sign.OpenParenthesis 10
    ∷ word_at "A" 11 ∷ sign_at sign.Arrow 12 ∷ word_at "A" 14 ∷ sign_at sign.CloseParenthesis 15
    ∷ word_at "x" 17 ∷ sign_at sign.Arrow 18 ∷ word_at "f" 20 ∷ sign_at sign.OpenParenthesis 22
    ∷ word_at "x" 23 ∷ sign_at sign.Comma 24 ∷ [])
    -- `let fun f (A->A) x->not`
    ∷ (word_at "let" 0 ∷ word_at "fun" 4 ∷ word_at "f" 8 ∷ sign_at sign.OpenParenthesis 10
    ∷ word_at "A" 11 ∷ sign_at sign.Arrow 12 ∷ word_at "A" 14 ∷ sign_at sign.CloseParenthesis 15
    ∷ word_at "x" 17 ∷ sign_at sign.Arrow 18 ∷ word_at "not" 20 ∷ [])
    -- `let fun f (A->A) x->fun (A->A)`
    ∷ (word_at "let" 0 ∷ word_at "fun" 4 ∷ word_at "f" 8 ∷ sign_at sign.OpenParenthesis 10
    ∷ word_at "A" 11 ∷ sign_at sign.Arrow 12 ∷ word_at "A" 14 ∷ sign_at sign.CloseParenthesis 15
    ∷ word_at "x" 17 ∷ sign_at sign.Arrow 18 ∷ word_at "fun" 20 ∷ sign_at sign.OpenParenthesis 24
    ∷ word_at "A" 25 ∷ sign_at sign.Arrow 26 ∷ word_at "A" 28 ∷ sign_at sign.CloseParenthesis 29
    ∷ [])
    -- `let fun f (A->A) x->x/`
    ∷ (word_at "let" 0 ∷ word_at "fun" 4 ∷ word_at "f" 8 ∷ sign_at sign.OpenParenthesis 10
    ∷ word_at "A" 11 ∷ sign_at sign.Arrow 12 ∷ word_at "A" 14 ∷ sign_at sign.CloseParenthesis 15
    ∷ word_at "x" 17 ∷ sign_at sign.Arrow 18 ∷ word_at "x" 20 ∷ sign_at sign.Slash 21 ∷ [])
    -- `let fun f (A->A) x->(select x from y in x`
    ∷ (word_at "let" 0 ∷ word_at "fun" 4 ∷ word_at "f" 8 ∷ sign_at sign.OpenParenthesis 10
    ∷ word_at "A" 11 ∷ sign_at sign.Arrow 12 ∷ word_at "A" 14 ∷ sign_at sign.CloseParenthesis 15
    ∷ word_at "x" 17 ∷ sign_at sign.Arrow 18 ∷ sign_at sign.OpenParenthesis 20 ∷ word_at "select" 21
    ∷ word_at "x" 28 ∷ word_at "from" 30 ∷ word_at "y" 35 ∷ word_at "in" 37 ∷ word_at "x" 40 ∷ [])
    ∷ []
