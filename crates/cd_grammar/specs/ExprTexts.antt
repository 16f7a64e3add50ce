-- Expressions as their tokens, and the trees that they write. Each is E in
-- `let fun f (A->A) x->(E)`, from byte 21 on, where four levels are open.
use Rattle.std.specs.Prelude.{pos, neg_ℤ, List, [], ◌∷◌, codes}
use Rattle.cd_syntax.specs.declared.sign.Sign.TheVariants as sign
use Rattle.cd_syntax.specs.declared.constant.Constant.TheVariants as constants
use Rattle.cd_program.specs.declared.operator.Op.TheVariants as op
use Rattle.cd_program.specs.declared.operator.BuiltIn.TheVariants as built_in
use Rattle.cd_program.specs.Expr as code
use Rattle.cd_grammar.specs.TreesAt.{sign_at, word_at, digit_at, chars_at, text_at, atom_at}
use Rattle.cd_grammar.specs.ExprsAt.{negative_at, expr_from, used_at, value_at, chain_from}
use Rattle.cd_grammar.specs.ExprsAt.{expr_field_at, no_fields_at}
use Rattle.cd_grammar.specs.ProgramExamples.{ProgramExample, body}

-- constants and variables
abbrev pub constant_exprs : List ProgramExample
constant_exprs =
    -- `1`
    body 4 (digit_at 1 21 ∷ []) 22 (value_at 1 21)
    -- `-1`
    ∷ body 4 (negative_at 1 21 ∷ [])
    23 (expr_from 21 23 (code.Constant (constants.Int (neg_ℤ (pos 1)))))
    -- `'a'`
    ∷ body 4 (chars_at "a" 21 ∷ []) 24 (expr_from 21 24 (code.Constant (constants.Char 97)))
    -- `"ab"`
    ∷ body 4 (text_at "ab" 21 ∷ [])
    25 (expr_from 21 25 (code.Constant (constants.Text (codes "ab"))))
    -- `` `a ``
    ∷ body 4 (atom_at "a" 21 ∷ []) 23 (expr_from 21 23 (code.Constant (constants.Atom (codes "a"))))
    -- `x`
    ∷ body 4 (word_at "x" 21 ∷ []) 22 (used_at "x" 21)
    -- `[]`
    ∷ body 5 (sign_at sign.OpenBracket 21 ∷ sign_at sign.CloseBracket 22 ∷ [])
    23 (expr_from 21 23 (code.Sequence (code.items_of [])))
    -- `{}`
    ∷ body 5 (sign_at sign.OpenBrace 21 ∷ sign_at sign.CloseBrace 22 ∷ [])
    23 (expr_from 21 23 (code.Record (code.fields_of [])))
    ∷ []

-- parentheses
abbrev pub group_exprs : List ProgramExample
group_exprs =
    -- `(1)`
    body 5 (sign_at sign.OpenParenthesis 21 ∷ digit_at 1 22 ∷ sign_at sign.CloseParenthesis 23 ∷ [])
    24 (value_at 1 22)
    -- `(1,2)`
    ∷ body 5 (sign_at sign.OpenParenthesis 21 ∷ digit_at 1 22 ∷ sign_at sign.Comma 23
    ∷ digit_at 2 24 ∷ sign_at sign.CloseParenthesis 25 ∷ [])
    26 (expr_from 21 26 (code.Tuple (code.exprs_of (value_at 1 22 ∷ value_at 2 24 ∷ []))))
    -- `(1,2,3)`
    ∷ body 5 (sign_at sign.OpenParenthesis 21 ∷ digit_at 1 22 ∷ sign_at sign.Comma 23
    ∷ digit_at 2 24 ∷ sign_at sign.Comma 25 ∷ digit_at 3 26 ∷ sign_at sign.CloseParenthesis 27 ∷ [])
    28 (expr_from 21 28 (code.Tuple (code.exprs_of (value_at 1 22 ∷ value_at 2 24 ∷ value_at 3 26
    ∷ []))))
    ∷ []

-- operators of one level are one chain
abbrev pub operator_exprs : List ProgramExample
operator_exprs =
    -- `x-1`
    body 4 (word_at "x" 21 ∷ sign_at sign.Minus 22 ∷ digit_at 1 23 ∷ [])
    24 (chain_from 21 24 (used_at "x" 21) (code.Operand op.Minus (value_at 1 23) ∷ []))
    -- `(x)+1+2`
    ∷ body 5 (sign_at sign.OpenParenthesis 21 ∷ word_at "x" 22 ∷ sign_at sign.CloseParenthesis 23
    ∷ sign_at sign.Plus 24 ∷ digit_at 1 25 ∷ sign_at sign.Plus 26 ∷ digit_at 2 27 ∷ [])
    28 (chain_from 21 28 (used_at "x" 22) (code.Operand op.Plus (value_at 1 25) ∷ code.Operand
    op.Plus (value_at 2 27) ∷ []))
    -- `1||2||3`
    ∷ body 4 (digit_at 1 21 ∷ sign_at sign.OrOr 22 ∷ digit_at 2 24 ∷ sign_at sign.OrOr 25
    ∷ digit_at 3 27 ∷ [])
    28 (chain_from 21 28 (value_at 1 21) (code.Operand op.Or (value_at 2 24) ∷ code.Operand op.Or
    (value_at 3 27) ∷ []))
    -- `1&&2&&3`
    ∷ body 4 (digit_at 1 21 ∷ sign_at sign.AndAnd 22 ∷ digit_at 2 24 ∷ sign_at sign.AndAnd 25
    ∷ digit_at 3 27 ∷ [])
    28 (chain_from 21 28 (value_at 1 21) (code.Operand op.And (value_at 2 24) ∷ code.Operand op.And
    (value_at 3 27) ∷ []))
    -- `1@2@3`
    ∷ body 4 (digit_at 1 21 ∷ sign_at sign.At 22 ∷ digit_at 2 23 ∷ sign_at sign.At 24
    ∷ digit_at 3 25 ∷ [])
    26 (chain_from 21 26 (value_at 1 21) (code.Operand op.Concat (value_at 2 23) ∷ code.Operand
    op.Concat (value_at 3 25) ∷ []))
    -- `1+2-3`
    ∷ body 4 (digit_at 1 21 ∷ sign_at sign.Plus 22 ∷ digit_at 2 23 ∷ sign_at sign.Minus 24
    ∷ digit_at 3 25 ∷ [])
    26 (chain_from 21 26 (value_at 1 21) (code.Operand op.Plus (value_at 2 23) ∷ code.Operand
    op.Minus (value_at 3 25) ∷ []))
    -- `1-2+3`
    ∷ body 4 (digit_at 1 21 ∷ sign_at sign.Minus 22 ∷ digit_at 2 23 ∷ sign_at sign.Plus 24
    ∷ digit_at 3 25 ∷ [])
    26 (chain_from 21 26 (value_at 1 21) (code.Operand op.Minus (value_at 2 23) ∷ code.Operand
    op.Plus (value_at 3 25) ∷ []))
    -- `1*2*3`
    ∷ body 4 (digit_at 1 21 ∷ sign_at sign.Star 22 ∷ digit_at 2 23 ∷ sign_at sign.Star 24
    ∷ digit_at 3 25 ∷ [])
    26 (chain_from 21 26 (value_at 1 21) (code.Operand op.Times (value_at 2 23) ∷ code.Operand
    op.Times (value_at 3 25) ∷ []))
    -- `1 div 2 div 3`
    ∷ body 4 (digit_at 1 21 ∷ word_at "div" 23 ∷ digit_at 2 27 ∷ word_at "div" 29 ∷ digit_at 3 33
    ∷ [])
    34 (chain_from 21 34 (value_at 1 21) (code.Operand op.Div (value_at 2 27) ∷ code.Operand op.Div
    (value_at 3 33) ∷ []))
    -- `1 mod 2 mod 3`
    ∷ body 4 (digit_at 1 21 ∷ word_at "mod" 23 ∷ digit_at 2 27 ∷ word_at "mod" 29 ∷ digit_at 3 33
    ∷ [])
    34 (chain_from 21 34 (value_at 1 21) (code.Operand op.Mod (value_at 2 27) ∷ code.Operand op.Mod
    (value_at 3 33) ∷ []))
    ∷ []

-- a comparison has two sides
abbrev pub comparing_exprs : List ProgramExample
comparing_exprs =
    -- `1=2`
    body 4 (digit_at 1 21 ∷ sign_at sign.Equal 22 ∷ digit_at 2 23 ∷ [])
    24 (chain_from 21 24 (value_at 1 21) (code.Operand op.Equal (value_at 2 23) ∷ []))
    -- `1!=2`
    ∷ body 4 (digit_at 1 21 ∷ sign_at sign.NotEqual 22 ∷ digit_at 2 24 ∷ [])
    25 (chain_from 21 25 (value_at 1 21) (code.Operand op.Unequal (value_at 2 24) ∷ []))
    -- `1<2`
    ∷ body 4 (digit_at 1 21 ∷ sign_at sign.Less 22 ∷ digit_at 2 23 ∷ [])
    24 (chain_from 21 24 (value_at 1 21) (code.Operand op.Less (value_at 2 23) ∷ []))
    -- `1<=2`
    ∷ body 4 (digit_at 1 21 ∷ sign_at sign.LessEqual 22 ∷ digit_at 2 24 ∷ [])
    25 (chain_from 21 25 (value_at 1 21) (code.Operand op.AtMost (value_at 2 24) ∷ []))
    -- `1>2`
    ∷ body 4 (digit_at 1 21 ∷ sign_at sign.Greater 22 ∷ digit_at 2 23 ∷ [])
    24 (chain_from 21 24 (value_at 1 21) (code.Operand op.Greater (value_at 2 23) ∷ []))
    -- `1>=2`
    ∷ body 4 (digit_at 1 21 ∷ sign_at sign.GreaterEqual 22 ∷ digit_at 2 24 ∷ [])
    25 (chain_from 21 25 (value_at 1 21) (code.Operand op.AtLeast (value_at 2 24) ∷ []))
    ∷ []

-- each level of operators is a chain of its own
abbrev pub level_exprs : List ProgramExample
level_exprs =
    -- `1||2&&3=4@5+6*7`
    body 4 (digit_at 1 21 ∷ sign_at sign.OrOr 22 ∷ digit_at 2 24 ∷ sign_at sign.AndAnd 25
    ∷ digit_at 3 27 ∷ sign_at sign.Equal 28 ∷ digit_at 4 29 ∷ sign_at sign.At 30 ∷ digit_at 5 31
    ∷ sign_at sign.Plus 32 ∷ digit_at 6 33 ∷ sign_at sign.Star 34 ∷ digit_at 7 35 ∷ [])
    36 (chain_from 21 36 (value_at 1 21) (code.Operand op.Or (chain_from 24 36 (value_at 2 24)
    (code.Operand op.And (chain_from 27 36 (value_at 3 27) (code.Operand op.Equal (chain_from 29 36
    (value_at 4 29) (code.Operand op.Concat (chain_from 31 36 (value_at 5 31) (code.Operand op.Plus
    (chain_from 33 36 (value_at 6 33) (code.Operand op.Times (value_at 7 35) ∷ [])) ∷ [])) ∷ []))
    ∷ [])) ∷ [])) ∷ []))
    -- `1*2+3@4=5&&6||7`
    ∷ body 4 (digit_at 1 21 ∷ sign_at sign.Star 22 ∷ digit_at 2 23 ∷ sign_at sign.Plus 24
    ∷ digit_at 3 25 ∷ sign_at sign.At 26 ∷ digit_at 4 27 ∷ sign_at sign.Equal 28 ∷ digit_at 5 29
    ∷ sign_at sign.AndAnd 30 ∷ digit_at 6 32 ∷ sign_at sign.OrOr 33 ∷ digit_at 7 35 ∷ [])
    36 (chain_from 21 36 (chain_from 21 33 (chain_from 21 30 (chain_from 21 28 (chain_from 21 26
    (chain_from 21 24 (value_at 1 21) (code.Operand op.Times (value_at 2 23) ∷ [])) (code.Operand
    op.Plus (value_at 3 25) ∷ [])) (code.Operand op.Concat (value_at 4 27) ∷ [])) (code.Operand
    op.Equal (value_at 5 29) ∷ [])) (code.Operand op.And (value_at 6 32) ∷ [])) (code.Operand op.Or
    (value_at 7 35) ∷ []))
    -- `f x+1`
    ∷ body 4 (word_at "f" 21 ∷ word_at "x" 23 ∷ sign_at sign.Plus 24 ∷ digit_at 1 25 ∷ [])
    26 (chain_from 21 26 (expr_from 21 24 (code.Apply (code.exprs_of (used_at "f" 21
    ∷ used_at "x" 23 ∷ [])))) (code.Operand op.Plus (value_at 1 25) ∷ []))
    ∷ []

-- records, fields taken out, and fields
abbrev pub record_operators : List ProgramExample
record_operators =
    -- `r+s`
    body 4 (word_at "r" 21 ∷ sign_at sign.Plus 22 ∷ word_at "s" 23 ∷ [])
    24 (chain_from 21 24 (used_at "r" 21) (code.Operand op.Plus (used_at "s" 23) ∷ []))
    -- `r\l`
    ∷ body 4 (word_at "r" 21 ∷ sign_at sign.Backslash 22 ∷ word_at "l" 23 ∷ [])
    24 (chain_from 21 24 (used_at "r" 21) (code.Without (codes "l") ∷ []))
    -- `r\l\m`
    ∷ body 4 (word_at "r" 21 ∷ sign_at sign.Backslash 22 ∷ word_at "l" 23
    ∷ sign_at sign.Backslash 24 ∷ word_at "m" 25 ∷ [])
    26 (chain_from 21 26 (used_at "r" 21) (code.Without (codes "l") ∷ code.Without (codes "m")
    ∷ []))
    -- `r+s\l-t`
    ∷ body 4 (word_at "r" 21 ∷ sign_at sign.Plus 22 ∷ word_at "s" 23 ∷ sign_at sign.Backslash 24
    ∷ word_at "l" 25 ∷ sign_at sign.Minus 26 ∷ word_at "t" 27 ∷ [])
    28 (chain_from 21 28 (used_at "r" 21) (code.Operand op.Plus (used_at "s" 23) ∷ code.Without
    (codes "l") ∷ code.Operand op.Minus (used_at "t" 27) ∷ []))
    -- `r.a`
    ∷ body 4 (word_at "r" 21 ∷ sign_at sign.Dot 22 ∷ word_at "a" 23 ∷ [])
    24 (chain_from 21 24 (used_at "r" 21) (code.Select (codes "a") ∷ []))
    -- `r.a.b`
    ∷ body 4 (word_at "r" 21 ∷ sign_at sign.Dot 22 ∷ word_at "a" 23 ∷ sign_at sign.Dot 24
    ∷ word_at "b" 25 ∷ [])
    26 (chain_from 21 26 (used_at "r" 21) (code.Select (codes "a") ∷ code.Select (codes "b") ∷ []))
    -- `r.type`
    ∷ body 4 (word_at "r" 21 ∷ sign_at sign.Dot 22 ∷ word_at "type" 23 ∷ [])
    27 (chain_from 21 27 (used_at "r" 21) (code.Select (codes "type") ∷ []))
    -- `{a=1}.a`
    ∷ body 5 (sign_at sign.OpenBrace 21 ∷ word_at "a" 22 ∷ sign_at sign.Equal 23 ∷ digit_at 1 24
    ∷ sign_at sign.CloseBrace 25 ∷ sign_at sign.Dot 26 ∷ word_at "a" 27 ∷ [])
    28 (chain_from 21 28 (expr_from 21 26 (code.Record (code.fields_of (expr_field_at "a" 22
    (value_at 1 24) ∷ [])))) (code.Select (codes "a") ∷ []))
    ∷ []

-- functions before their arguments, and words before an operand
abbrev pub applied_exprs : List ProgramExample
applied_exprs =
    -- `x -1`
    body 4 (word_at "x" 21 ∷ negative_at 1 23 ∷ [])
    25 (expr_from 21 25 (code.Apply (code.exprs_of (used_at "x" 21 ∷ expr_from 23 25 (code.Constant
    (constants.Int (neg_ℤ (pos 1)))) ∷ []))))
    -- `f a b`
    ∷ body 4 (word_at "f" 21 ∷ word_at "a" 23 ∷ word_at "b" 25 ∷ [])
    26 (expr_from 21 26 (code.Apply (code.exprs_of (used_at "f" 21 ∷ used_at "a" 23 ∷ used_at "b" 25
    ∷ []))))
    -- `f 'a' [] {} "b"`
    ∷ body 5 (word_at "f" 21 ∷ chars_at "a" 23 ∷ sign_at sign.OpenBracket 27
    ∷ sign_at sign.CloseBracket 28 ∷ sign_at sign.OpenBrace 30 ∷ sign_at sign.CloseBrace 31
    ∷ text_at "b" 33 ∷ [])
    36 (expr_from 21 36 (code.Apply (code.exprs_of (used_at "f" 21 ∷ expr_from 23 26 (code.Constant
    (constants.Char 97)) ∷ expr_from 27 29 (code.Sequence (code.items_of [])) ∷ expr_from 30 32
    (code.Record (code.fields_of [])) ∷ expr_from 33 36 (code.Constant (constants.Text (codes "b")))
    ∷ []))))
    -- `f r.a s.b.c 1`
    ∷ body 4 (word_at "f" 21 ∷ word_at "r" 23 ∷ sign_at sign.Dot 24 ∷ word_at "a" 25
    ∷ word_at "s" 27 ∷ sign_at sign.Dot 28 ∷ word_at "b" 29 ∷ sign_at sign.Dot 30 ∷ word_at "c" 31
    ∷ digit_at 1 33 ∷ [])
    34 (expr_from 21 34 (code.Apply (code.exprs_of (used_at "f" 21 ∷ chain_from 23 26
    (used_at "r" 23) (code.Select (codes "a") ∷ []) ∷ chain_from 27 32 (used_at "s" 27) (code.Select
    (codes "b") ∷ code.Select (codes "c") ∷ []) ∷ value_at 1 33 ∷ []))))
    -- `not x`
    ∷ body 4 (word_at "not" 21 ∷ word_at "x" 25 ∷ [])
    26 (expr_from 21 26 (code.Call built_in.Not (used_at "x" 25)))
    -- `not x&&y`
    ∷ body 4 (word_at "not" 21 ∷ word_at "x" 25 ∷ sign_at sign.AndAnd 26 ∷ word_at "y" 28 ∷ [])
    29 (chain_from 21 29 (expr_from 21 26 (code.Call built_in.Not (used_at "x" 25))) (code.Operand
    op.And (used_at "y" 28) ∷ []))
    -- `flatten x`
    ∷ body 4 (word_at "flatten" 21 ∷ word_at "x" 29 ∷ [])
    30 (expr_from 21 30 (code.Call built_in.Flatten (used_at "x" 29)))
    -- `int_of x`
    ∷ body 4 (word_at "int_of" 21 ∷ word_at "x" 28 ∷ [])
    29 (expr_from 21 29 (code.Call built_in.IntOf (used_at "x" 28)))
    -- `string_of x`
    ∷ body 4 (word_at "string_of" 21 ∷ word_at "x" 31 ∷ [])
    32 (expr_from 21 32 (code.Call built_in.StringOf (used_at "x" 31)))
    -- `raise x.a`
    ∷ body 4 (word_at "raise" 21 ∷ word_at "x" 27 ∷ sign_at sign.Dot 28 ∷ word_at "a" 29 ∷ [])
    30 (expr_from 21 30 (code.Call built_in.Raise (chain_from 27 30 (used_at "x" 27) (code.Select
    (codes "a") ∷ []))))
    -- `min_of x`
    ∷ body 4 (word_at "min_of" 21 ∷ word_at "x" 28 ∷ [])
    29 (expr_from 21 29 (code.Call built_in.MinOf (used_at "x" 28)))
    -- `max_of x.a`
    ∷ body 4 (word_at "max_of" 21 ∷ word_at "x" 28 ∷ sign_at sign.Dot 29 ∷ word_at "a" 30 ∷ [])
    31 (expr_from 21 31 (code.Call built_in.MaxOf (chain_from 28 31 (used_at "x" 28) (code.Select
    (codes "a") ∷ []))))
    ∷ []

-- sequences
abbrev pub sequence_exprs : List ProgramExample
sequence_exprs =
    -- `[1 'ab' !x y]`
    body 5 (sign_at sign.OpenBracket 21 ∷ digit_at 1 22 ∷ chars_at "ab" 24 ∷ sign_at sign.Splice 29
    ∷ word_at "x" 30 ∷ word_at "y" 32 ∷ sign_at sign.CloseBracket 33 ∷ [])
    34 (expr_from 21 34 (code.Sequence (code.items_of (code.One (value_at 1 22) ∷ code.Run
    (codes "ab") ∷ code.Splice (used_at "x" 30) ∷ code.One (used_at "y" 32) ∷ []))))
    -- `['a' '' "b"]`
    ∷ body 5 (sign_at sign.OpenBracket 21 ∷ chars_at "a" 22 ∷ chars_at "" 26 ∷ text_at "b" 29
    ∷ sign_at sign.CloseBracket 32 ∷ [])
    33 (expr_from 21 33 (code.Sequence (code.items_of (code.Run (codes "a") ∷ code.Run (codes "")
    ∷ code.One (expr_from 29 32 (code.Constant (constants.Text (codes "b")))) ∷ []))))
    -- `[r.a r.a.b <a>[]]`
    ∷ body 7 (sign_at sign.OpenBracket 21 ∷ word_at "r" 22 ∷ sign_at sign.Dot 23 ∷ word_at "a" 24
    ∷ word_at "r" 26 ∷ sign_at sign.Dot 27 ∷ word_at "a" 28 ∷ sign_at sign.Dot 29 ∷ word_at "b" 30
    ∷ sign_at sign.Less 32 ∷ word_at "a" 33 ∷ sign_at sign.Greater 34 ∷ sign_at sign.OpenBracket 35
    ∷ sign_at sign.CloseBracket 36 ∷ sign_at sign.CloseBracket 37 ∷ [])
    38 (expr_from 21 38 (code.Sequence (code.items_of (code.One (chain_from 22 25 (used_at "r" 22)
    (code.Select (codes "a") ∷ [])) ∷ code.One (chain_from 26 31 (used_at "r" 26) (code.Select
    (codes "a") ∷ code.Select (codes "b") ∷ [])) ∷ code.One (expr_from 32 37 (code.Xml
    (expr_from 33 34 (code.Constant (constants.Atom (codes "a")))) (no_fields_at 34)
    (expr_from 35 37 (code.Sequence (code.items_of []))))) ∷ []))))
    -- `[!r.a -1]`
    ∷ body 5 (sign_at sign.OpenBracket 21 ∷ sign_at sign.Splice 22 ∷ word_at "r" 23
    ∷ sign_at sign.Dot 24 ∷ word_at "a" 25 ∷ negative_at 1 27 ∷ sign_at sign.CloseBracket 29 ∷ [])
    30 (expr_from 21 30 (code.Sequence (code.items_of (code.Splice (chain_from 23 26
    (used_at "r" 23) (code.Select (codes "a") ∷ [])) ∷ code.One (expr_from 27 29 (code.Constant
    (constants.Int (neg_ℤ (pos 1))))) ∷ []))))
    ∷ []

-- records
abbrev pub record_exprs : List ProgramExample
record_exprs =
    -- `{a=1}`
    body 5 (sign_at sign.OpenBrace 21 ∷ word_at "a" 22 ∷ sign_at sign.Equal 23 ∷ digit_at 1 24
    ∷ sign_at sign.CloseBrace 25 ∷ [])
    26 (expr_from 21 26 (code.Record (code.fields_of (expr_field_at "a" 22 (value_at 1 24) ∷ []))))
    -- `{a=1;}`
    ∷ body 5 (sign_at sign.OpenBrace 21 ∷ word_at "a" 22 ∷ sign_at sign.Equal 23 ∷ digit_at 1 24
    ∷ sign_at sign.Semicolon 25 ∷ sign_at sign.CloseBrace 26 ∷ [])
    27 (expr_from 21 27 (code.Record (code.fields_of (expr_field_at "a" 22 (value_at 1 24) ∷ []))))
    -- `{a=1;b=2;}`
    ∷ body 5 (sign_at sign.OpenBrace 21 ∷ word_at "a" 22 ∷ sign_at sign.Equal 23 ∷ digit_at 1 24
    ∷ sign_at sign.Semicolon 25 ∷ word_at "b" 26 ∷ sign_at sign.Equal 27 ∷ digit_at 2 28
    ∷ sign_at sign.Semicolon 29 ∷ sign_at sign.CloseBrace 30 ∷ [])
    31 (expr_from 21 31 (code.Record (code.fields_of (expr_field_at "a" 22 (value_at 1 24)
    ∷ expr_field_at "b" 26 (value_at 2 28) ∷ []))))
    -- `{a=1;let=x+1}`
    ∷ body 5 (sign_at sign.OpenBrace 21 ∷ word_at "a" 22 ∷ sign_at sign.Equal 23 ∷ digit_at 1 24
    ∷ sign_at sign.Semicolon 25 ∷ word_at "let" 26 ∷ sign_at sign.Equal 29 ∷ word_at "x" 30
    ∷ sign_at sign.Plus 31 ∷ digit_at 1 32 ∷ sign_at sign.CloseBrace 33 ∷ [])
    34 (expr_from 21 34 (code.Record (code.fields_of (expr_field_at "a" 22 (value_at 1 24)
    ∷ expr_field_at "let" 26 (chain_from 30 33 (used_at "x" 30) (code.Operand op.Plus
    (value_at 1 32) ∷ [])) ∷ []))))
    -- `{a=1 b=2}`
    ∷ body 5 (sign_at sign.OpenBrace 21 ∷ word_at "a" 22 ∷ sign_at sign.Equal 23 ∷ digit_at 1 24
    ∷ word_at "b" 26 ∷ sign_at sign.Equal 27 ∷ digit_at 2 28 ∷ sign_at sign.CloseBrace 29 ∷ [])
    30 (expr_from 21 30 (code.Record (code.fields_of (expr_field_at "a" 22 (chain_from 24 29
    (expr_from 24 27 (code.Apply (code.exprs_of (value_at 1 24 ∷ used_at "b" 26 ∷ []))))
    (code.Operand op.Equal (value_at 2 28) ∷ [])) ∷ []))))
    ∷ []

-- XML elements; without attributes these stand at the `>`
abbrev pub xml_exprs : List ProgramExample
xml_exprs =
    -- `<a>[]`
    body 6 (sign_at sign.Less 21 ∷ word_at "a" 22 ∷ sign_at sign.Greater 23
    ∷ sign_at sign.OpenBracket 24 ∷ sign_at sign.CloseBracket 25 ∷ [])
    26 (expr_from 21 26 (code.Xml (expr_from 22 23 (code.Constant (constants.Atom (codes "a"))))
    (no_fields_at 23) (expr_from 24 26 (code.Sequence (code.items_of [])))))
    -- `<a>'b'`
    ∷ body 5 (sign_at sign.Less 21 ∷ word_at "a" 22 ∷ sign_at sign.Greater 23 ∷ chars_at "b" 24
    ∷ [])
    27 (expr_from 21 27 (code.Xml (expr_from 22 23 (code.Constant (constants.Atom (codes "a"))))
    (no_fields_at 23) (expr_from 24 27 (code.Constant (constants.Char 98)))))
    -- `<a><b>x`
    ∷ body 6 (sign_at sign.Less 21 ∷ word_at "a" 22 ∷ sign_at sign.Greater 23 ∷ sign_at sign.Less 24
    ∷ word_at "b" 25 ∷ sign_at sign.Greater 26 ∷ word_at "x" 27 ∷ [])
    28 (expr_from 21 28 (code.Xml (expr_from 22 23 (code.Constant (constants.Atom (codes "a"))))
    (no_fields_at 23) (expr_from 24 28 (code.Xml (expr_from 25 26 (code.Constant
    (constants.Atom (codes "b")))) (no_fields_at 26) (used_at "x" 27)))))
    -- `<(e)>x`
    ∷ body 6 (sign_at sign.Less 21 ∷ sign_at sign.OpenParenthesis 22 ∷ word_at "e" 23
    ∷ sign_at sign.CloseParenthesis 24 ∷ sign_at sign.Greater 25 ∷ word_at "x" 26 ∷ [])
    27 (expr_from 21 27 (code.Xml (used_at "e" 23) (no_fields_at 25) (used_at "x" 26)))
    -- `<(e) (r)>x`
    ∷ body 6 (sign_at sign.Less 21 ∷ sign_at sign.OpenParenthesis 22 ∷ word_at "e" 23
    ∷ sign_at sign.CloseParenthesis 24 ∷ sign_at sign.OpenParenthesis 26 ∷ word_at "r" 27
    ∷ sign_at sign.CloseParenthesis 28 ∷ sign_at sign.Greater 29 ∷ word_at "x" 30 ∷ [])
    31 (expr_from 21 31 (code.Xml (used_at "e" 23) (used_at "r" 27) (used_at "x" 30)))
    -- `<a x=1>[]`
    ∷ body 6 (sign_at sign.Less 21 ∷ word_at "a" 22 ∷ word_at "x" 24 ∷ sign_at sign.Equal 25
    ∷ digit_at 1 26 ∷ sign_at sign.Greater 27 ∷ sign_at sign.OpenBracket 28
    ∷ sign_at sign.CloseBracket 29 ∷ [])
    30 (expr_from 21 30 (code.Xml (expr_from 22 23 (code.Constant (constants.Atom (codes "a"))))
    (expr_from 24 27 (code.Record (code.fields_of (expr_field_at "x" 24 (value_at 1 26) ∷ []))))
    (expr_from 28 30 (code.Sequence (code.items_of [])))))
    -- `<a x=1;y=2>[]`
    ∷ body 6 (sign_at sign.Less 21 ∷ word_at "a" 22 ∷ word_at "x" 24 ∷ sign_at sign.Equal 25
    ∷ digit_at 1 26 ∷ sign_at sign.Semicolon 27 ∷ word_at "y" 28 ∷ sign_at sign.Equal 29
    ∷ digit_at 2 30 ∷ sign_at sign.Greater 31 ∷ sign_at sign.OpenBracket 32
    ∷ sign_at sign.CloseBracket 33 ∷ [])
    34 (expr_from 21 34 (code.Xml (expr_from 22 23 (code.Constant (constants.Atom (codes "a"))))
    (expr_from 24 31 (code.Record (code.fields_of (expr_field_at "x" 24 (value_at 1 26)
    ∷ expr_field_at "y" 28 (value_at 2 30) ∷ [])))) (expr_from 32 34 (code.Sequence (code.items_of
    [])))))
    -- `<a x=1 y=r.b;>z`
    ∷ body 5 (sign_at sign.Less 21 ∷ word_at "a" 22 ∷ word_at "x" 24 ∷ sign_at sign.Equal 25
    ∷ digit_at 1 26 ∷ word_at "y" 28 ∷ sign_at sign.Equal 29 ∷ word_at "r" 30 ∷ sign_at sign.Dot 31
    ∷ word_at "b" 32 ∷ sign_at sign.Semicolon 33 ∷ sign_at sign.Greater 34 ∷ word_at "z" 35 ∷ [])
    36 (expr_from 21 36 (code.Xml (expr_from 22 23 (code.Constant (constants.Atom (codes "a"))))
    (expr_from 24 34 (code.Record (code.fields_of (expr_field_at "x" 24 (value_at 1 26)
    ∷ expr_field_at "y" 28 (chain_from 30 33 (used_at "r" 30) (code.Select (codes "b") ∷ []))
    ∷ [])))) (used_at "z" 35)))
    -- `<type x=(1)>[]`
    ∷ body 6 (sign_at sign.Less 21 ∷ word_at "type" 22 ∷ word_at "x" 27 ∷ sign_at sign.Equal 28
    ∷ sign_at sign.OpenParenthesis 29 ∷ digit_at 1 30 ∷ sign_at sign.CloseParenthesis 31
    ∷ sign_at sign.Greater 32 ∷ sign_at sign.OpenBracket 33 ∷ sign_at sign.CloseBracket 34 ∷ [])
    35 (expr_from 21 35 (code.Xml (expr_from 22 26 (code.Constant (constants.Atom (codes "type"))))
    (expr_from 27 32 (code.Record (code.fields_of (expr_field_at "x" 27 (value_at 1 30) ∷ []))))
    (expr_from 33 35 (code.Sequence (code.items_of [])))))
    ∷ []
