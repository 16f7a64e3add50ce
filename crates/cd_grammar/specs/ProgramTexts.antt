-- Expressions with branches or functions, in the same place, and whole programs.
use Rattle.std.specs.Prelude.{List, [], ◌∷◌}
use Rattle.cd_syntax.specs.declared.sign.Sign.TheVariants as sign
use Rattle.cd_syntax.specs.TypeTree.{Tuple, Arrows, Union, trees_of}
use Rattle.cd_program.specs.declared.operator.Op.TheVariants as op
use Rattle.cd_program.specs.Expr as code
use Rattle.cd_grammar.specs.TreesAt.{sign_at, word_at, digit_at, tree_from, number_at, named_at}
use Rattle.cd_grammar.specs.TreesAt.{ints_at, declared_at}
use Rattle.cd_grammar.specs.ExprsAt.{bound_at, expr_from, used_at, value_at, chain_from, branch}
use Rattle.cd_grammar.specs.ExprsAt.{arrow, function_at, unnamed_at}
use Rattle.cd_grammar.specs.ProgramExamples.{ProgramExample, program, body}

-- forms with branches
abbrev pub branch_exprs : List ProgramExample
branch_exprs =
    -- `match x with 1->2`
    body 6 (word_at "match" 21 ∷ word_at "x" 27 ∷ word_at "with" 29 ∷ digit_at 1 34
    ∷ sign_at sign.Arrow 35 ∷ digit_at 2 37 ∷ [])
    38 (expr_from 21 38 (code.Match (used_at "x" 27) (code.branches_of (branch (number_at 1 34)
    (value_at 2 37) ∷ []))))
    -- `match x with |1->2|y->y`
    ∷ body 6 (word_at "match" 21 ∷ word_at "x" 27 ∷ word_at "with" 29 ∷ sign_at sign.Or 34
    ∷ digit_at 1 35 ∷ sign_at sign.Arrow 36 ∷ digit_at 2 38 ∷ sign_at sign.Or 39 ∷ word_at "y" 40
    ∷ sign_at sign.Arrow 41 ∷ word_at "y" 43 ∷ [])
    44 (expr_from 21 44 (code.Match (used_at "x" 27) (code.branches_of (branch (number_at 1 35)
    (value_at 2 38) ∷ branch (bound_at "y" 40) (used_at "y" 43) ∷ []))))
    -- `match x with 1->2|3->4|5->6|7->8`
    ∷ body 6 (word_at "match" 21 ∷ word_at "x" 27 ∷ word_at "with" 29 ∷ digit_at 1 34
    ∷ sign_at sign.Arrow 35 ∷ digit_at 2 37 ∷ sign_at sign.Or 38 ∷ digit_at 3 39
    ∷ sign_at sign.Arrow 40 ∷ digit_at 4 42 ∷ sign_at sign.Or 43 ∷ digit_at 5 44
    ∷ sign_at sign.Arrow 45 ∷ digit_at 6 47 ∷ sign_at sign.Or 48 ∷ digit_at 7 49
    ∷ sign_at sign.Arrow 50 ∷ digit_at 8 52 ∷ [])
    53 (expr_from 21 53 (code.Match (used_at "x" 27) (code.branches_of (branch (number_at 1 34)
    (value_at 2 37) ∷ branch (number_at 3 39) (value_at 4 42) ∷ branch (number_at 5 44)
    (value_at 6 47) ∷ branch (number_at 7 49) (value_at 8 52) ∷ []))))
    -- `try x with e->1`
    ∷ body 6 (word_at "try" 21 ∷ word_at "x" 25 ∷ word_at "with" 27 ∷ word_at "e" 32
    ∷ sign_at sign.Arrow 33 ∷ digit_at 1 35 ∷ [])
    36 (expr_from 21 36 (code.Try (used_at "x" 25) (code.branches_of (branch (bound_at "e" 32)
    (value_at 1 35) ∷ []))))
    -- `map x with y->y`
    ∷ body 6 (word_at "map" 21 ∷ word_at "x" 25 ∷ word_at "with" 27 ∷ word_at "y" 32
    ∷ sign_at sign.Arrow 33 ∷ word_at "y" 35 ∷ [])
    36 (expr_from 21 36 (code.Map (used_at "x" 25) (code.branches_of (branch (bound_at "y" 32)
    (used_at "y" 35) ∷ []))))
    -- `transform x with y->[y]`
    ∷ body 7 (word_at "transform" 21 ∷ word_at "x" 31 ∷ word_at "with" 33 ∷ word_at "y" 38
    ∷ sign_at sign.Arrow 39 ∷ sign_at sign.OpenBracket 41 ∷ word_at "y" 42
    ∷ sign_at sign.CloseBracket 43 ∷ [])
    44 (expr_from 21 44 (code.Transform (used_at "x" 31) (code.branches_of (branch (bound_at "y" 38)
    (expr_from 41 44 (code.Sequence (code.items_of (code.One (used_at "y" 42) ∷ [])))) ∷ []))))
    ∷ []

-- a `|` belongs to the branches that stand last before it
abbrev pub nested_exprs : List ProgramExample
nested_exprs =
    -- `match x with 1->match y with 2->3|4->5`
    body 8 (word_at "match" 21 ∷ word_at "x" 27 ∷ word_at "with" 29 ∷ digit_at 1 34
    ∷ sign_at sign.Arrow 35 ∷ word_at "match" 37 ∷ word_at "y" 43 ∷ word_at "with" 45
    ∷ digit_at 2 50 ∷ sign_at sign.Arrow 51 ∷ digit_at 3 53 ∷ sign_at sign.Or 54 ∷ digit_at 4 55
    ∷ sign_at sign.Arrow 56 ∷ digit_at 5 58 ∷ [])
    59 (expr_from 21 59 (code.Match (used_at "x" 27) (code.branches_of (branch (number_at 1 34)
    (expr_from 37 59 (code.Match (used_at "y" 43) (code.branches_of (branch (number_at 2 50)
    (value_at 3 53) ∷ branch (number_at 4 55) (value_at 5 58) ∷ [])))) ∷ []))))
    -- `match x with 1->(match y with 2->3)|4->5`
    ∷ body 9 (word_at "match" 21 ∷ word_at "x" 27 ∷ word_at "with" 29 ∷ digit_at 1 34
    ∷ sign_at sign.Arrow 35 ∷ sign_at sign.OpenParenthesis 37 ∷ word_at "match" 38 ∷ word_at "y" 44
    ∷ word_at "with" 46 ∷ digit_at 2 51 ∷ sign_at sign.Arrow 52 ∷ digit_at 3 54
    ∷ sign_at sign.CloseParenthesis 55 ∷ sign_at sign.Or 56 ∷ digit_at 4 57 ∷ sign_at sign.Arrow 58
    ∷ digit_at 5 60 ∷ [])
    61 (expr_from 21 61 (code.Match (used_at "x" 27) (code.branches_of (branch (number_at 1 34)
    (expr_from 38 55 (code.Match (used_at "y" 44) (code.branches_of (branch (number_at 2 51)
    (value_at 3 54) ∷ [])))) ∷ branch (number_at 4 57) (value_at 5 60) ∷ []))))
    -- `match x with 1->let y=1 in y|2->if 3 then 4 else 5|6->if 7 then 8 else 9`
    ∷ body 7 (word_at "match" 21 ∷ word_at "x" 27 ∷ word_at "with" 29 ∷ digit_at 1 34
    ∷ sign_at sign.Arrow 35 ∷ word_at "let" 37 ∷ word_at "y" 41 ∷ sign_at sign.Equal 42
    ∷ digit_at 1 43 ∷ word_at "in" 45 ∷ word_at "y" 48 ∷ sign_at sign.Or 49 ∷ digit_at 2 50
    ∷ sign_at sign.Arrow 51 ∷ word_at "if" 53 ∷ digit_at 3 56 ∷ word_at "then" 58 ∷ digit_at 4 63
    ∷ word_at "else" 65 ∷ digit_at 5 70 ∷ sign_at sign.Or 71 ∷ digit_at 6 72 ∷ sign_at sign.Arrow 73
    ∷ word_at "if" 75 ∷ digit_at 7 78 ∷ word_at "then" 80 ∷ digit_at 8 85 ∷ word_at "else" 87
    ∷ digit_at 9 92 ∷ [])
    93 (expr_from 21 93 (code.Match (used_at "x" 27) (code.branches_of (branch (number_at 1 34)
    (expr_from 37 49 (code.Let (bound_at "y" 41) (value_at 1 43) (used_at "y" 48))) ∷ branch
    (number_at 2 50) (expr_from 53 71 (code.If (value_at 3 56) (value_at 4 63) (value_at 5 70)))
    ∷ branch (number_at 6 72) (expr_from 75 93 (code.If (value_at 7 78) (value_at 8 85)
    (value_at 9 92))) ∷ []))))
    -- `match x with 1->let y=1 in y`
    ∷ body 7 (word_at "match" 21 ∷ word_at "x" 27 ∷ word_at "with" 29 ∷ digit_at 1 34
    ∷ sign_at sign.Arrow 35 ∷ word_at "let" 37 ∷ word_at "y" 41 ∷ sign_at sign.Equal 42
    ∷ digit_at 1 43 ∷ word_at "in" 45 ∷ word_at "y" 48 ∷ [])
    49 (expr_from 21 49 (code.Match (used_at "x" 27) (code.branches_of (branch (number_at 1 34)
    (expr_from 37 49 (code.Let (bound_at "y" 41) (value_at 1 43) (used_at "y" 48))) ∷ []))))
    ∷ []

-- values for patterns, and conditions
abbrev pub let_exprs : List ProgramExample
let_exprs =
    -- `let y=1 in y`
    body 5 (word_at "let" 21 ∷ word_at "y" 25 ∷ sign_at sign.Equal 26 ∷ digit_at 1 27
    ∷ word_at "in" 29 ∷ word_at "y" 32 ∷ [])
    33 (expr_from 21 33 (code.Let (bound_at "y" 25) (value_at 1 27) (used_at "y" 32)))
    -- `let (y,z)=x in y`
    ∷ body 6 (word_at "let" 21 ∷ sign_at sign.OpenParenthesis 25 ∷ word_at "y" 26
    ∷ sign_at sign.Comma 27 ∷ word_at "z" 28 ∷ sign_at sign.CloseParenthesis 29
    ∷ sign_at sign.Equal 30 ∷ word_at "x" 31 ∷ word_at "in" 33 ∷ word_at "y" 36 ∷ [])
    37 (expr_from 21 37 (code.Let (tree_from 25 30 (Tuple (trees_of (bound_at "y" 26
    ∷ bound_at "z" 28 ∷ [])))) (used_at "x" 31) (used_at "y" 36)))
    -- `if 1 then 2 else 3`
    ∷ body 5 (word_at "if" 21 ∷ digit_at 1 24 ∷ word_at "then" 26 ∷ digit_at 2 31
    ∷ word_at "else" 33 ∷ digit_at 3 38 ∷ [])
    39 (expr_from 21 39 (code.If (value_at 1 24) (value_at 2 31) (value_at 3 38)))
    -- `if 1=2 then let y=1 in y else match x with z->z`
    ∷ body 7 (word_at "if" 21 ∷ digit_at 1 24 ∷ sign_at sign.Equal 25 ∷ digit_at 2 26
    ∷ word_at "then" 28 ∷ word_at "let" 33 ∷ word_at "y" 37 ∷ sign_at sign.Equal 38 ∷ digit_at 1 39
    ∷ word_at "in" 41 ∷ word_at "y" 44 ∷ word_at "else" 46 ∷ word_at "match" 51 ∷ word_at "x" 57
    ∷ word_at "with" 59 ∷ word_at "z" 64 ∷ sign_at sign.Arrow 65 ∷ word_at "z" 67 ∷ [])
    68 (expr_from 21 68 (code.If (chain_from 24 27 (value_at 1 24) (code.Operand op.Equal
    (value_at 2 26) ∷ [])) (expr_from 33 45 (code.Let (bound_at "y" 37) (value_at 1 39)
    (used_at "y" 44))) (expr_from 51 68 (code.Match (used_at "x" 57) (code.branches_of (branch
    (bound_at "z" 64) (used_at "z" 67) ∷ []))))))
    ∷ []

-- functions, with a name and without one
abbrev pub function_exprs : List ProgramExample
function_exprs =
    -- `fun (A->A) x->x`
    body 7 (word_at "fun" 21 ∷ sign_at sign.OpenParenthesis 25 ∷ word_at "A" 26
    ∷ sign_at sign.Arrow 27 ∷ word_at "A" 29 ∷ sign_at sign.CloseParenthesis 30 ∷ word_at "x" 32
    ∷ sign_at sign.Arrow 33 ∷ word_at "x" 35 ∷ [])
    36 (expr_from 21 36 (code.Function (unnamed_at 21 (arrow (named_at "A" 26) (named_at "A" 29)
    ∷ []) (branch (bound_at "x" 32) (used_at "x" 35) ∷ []))))
    -- `fun g (A->A) x->x`
    ∷ body 7 (word_at "fun" 21 ∷ word_at "g" 25 ∷ sign_at sign.OpenParenthesis 27 ∷ word_at "A" 28
    ∷ sign_at sign.Arrow 29 ∷ word_at "A" 31 ∷ sign_at sign.CloseParenthesis 32 ∷ word_at "x" 34
    ∷ sign_at sign.Arrow 35 ∷ word_at "x" 37 ∷ [])
    38 (expr_from 21 38 (code.Function (function_at "g" 21 25 (arrow (named_at "A" 28)
    (named_at "A" 31) ∷ []) (branch (bound_at "x" 34) (used_at "x" 37) ∷ []))))
    -- `fun (A->B;B->A) x->x|y->y`
    ∷ body 7 (word_at "fun" 21 ∷ sign_at sign.OpenParenthesis 25 ∷ word_at "A" 26
    ∷ sign_at sign.Arrow 27 ∷ word_at "B" 29 ∷ sign_at sign.Semicolon 30 ∷ word_at "B" 31
    ∷ sign_at sign.Arrow 32 ∷ word_at "A" 34 ∷ sign_at sign.CloseParenthesis 35 ∷ word_at "x" 37
    ∷ sign_at sign.Arrow 38 ∷ word_at "x" 40 ∷ sign_at sign.Or 41 ∷ word_at "y" 42
    ∷ sign_at sign.Arrow 43 ∷ word_at "y" 45 ∷ [])
    46 (expr_from 21 46 (code.Function (unnamed_at 21 (arrow (named_at "A" 26) (named_at "B" 29)
    ∷ arrow (named_at "B" 31) (named_at "A" 34) ∷ []) (branch (bound_at "x" 37) (used_at "x" 40)
    ∷ branch (bound_at "y" 42) (used_at "y" 45) ∷ []))))
    -- `fun (A|B->A->B) x->fun (A->B) y->x`
    ∷ body 9 (word_at "fun" 21 ∷ sign_at sign.OpenParenthesis 25 ∷ word_at "A" 26
    ∷ sign_at sign.Or 27 ∷ word_at "B" 28 ∷ sign_at sign.Arrow 29 ∷ word_at "A" 31
    ∷ sign_at sign.Arrow 32 ∷ word_at "B" 34 ∷ sign_at sign.CloseParenthesis 35 ∷ word_at "x" 37
    ∷ sign_at sign.Arrow 38 ∷ word_at "fun" 40 ∷ sign_at sign.OpenParenthesis 44 ∷ word_at "A" 45
    ∷ sign_at sign.Arrow 46 ∷ word_at "B" 48 ∷ sign_at sign.CloseParenthesis 49 ∷ word_at "y" 51
    ∷ sign_at sign.Arrow 52 ∷ word_at "x" 54 ∷ [])
    55 (expr_from 21 55 (code.Function (unnamed_at 21 (arrow (tree_from 26 29 (Union (trees_of
    (named_at "A" 26 ∷ named_at "B" 28 ∷ [])))) (tree_from 31 35 (Arrows (trees_of (named_at "A" 31
    ∷ named_at "B" 34 ∷ [])))) ∷ []) (branch (bound_at "x" 37) (expr_from 40 55 (code.Function
    (unnamed_at 40 (arrow (named_at "A" 45) (named_at "B" 48) ∷ []) (branch (bound_at "y" 51)
    (used_at "x" 54) ∷ [])))) ∷ []))))
    ∷ []

-- types and functions, with `;;` and without it
abbrev pub programs : List ProgramExample
programs =
    -- no token
    program 0 ([]) [] []
    -- `type A=Int`
    ∷ program 0 (word_at "type" 0 ∷ word_at "A" 5 ∷ sign_at sign.Equal 6 ∷ word_at "Int" 7 ∷ [])
    (declared_at "A" 5 (ints_at 7) ∷ []) []
    -- `type A=Int;;`
    ∷ program 0 (word_at "type" 0 ∷ word_at "A" 5 ∷ sign_at sign.Equal 6 ∷ word_at "Int" 7
    ∷ sign_at sign.Semicolons 10 ∷ [])
    (declared_at "A" 5 (ints_at 7) ∷ []) []
    -- `let fun main (Int->Int) x->x-1`
    ∷ program 4 (word_at "let" 0 ∷ word_at "fun" 4 ∷ word_at "main" 8
    ∷ sign_at sign.OpenParenthesis 13 ∷ word_at "Int" 14 ∷ sign_at sign.Arrow 17 ∷ word_at "Int" 19
    ∷ sign_at sign.CloseParenthesis 22 ∷ word_at "x" 24 ∷ sign_at sign.Arrow 25 ∷ word_at "x" 27
    ∷ sign_at sign.Minus 28 ∷ digit_at 1 29 ∷ [])
    [] (function_at "main" 4 8 (arrow (ints_at 14) (ints_at 19) ∷ []) (branch (bound_at "x" 24)
    (chain_from 27 30 (used_at "x" 27) (code.Operand op.Minus (value_at 1 29) ∷ [])) ∷ []) ∷ [])
    -- `let fun f (A->A) x->x`
    ∷ program 4 (word_at "let" 0 ∷ word_at "fun" 4 ∷ word_at "f" 8 ∷ sign_at sign.OpenParenthesis 10
    ∷ word_at "A" 11 ∷ sign_at sign.Arrow 12 ∷ word_at "A" 14 ∷ sign_at sign.CloseParenthesis 15
    ∷ word_at "x" 17 ∷ sign_at sign.Arrow 18 ∷ word_at "x" 20 ∷ [])
    [] (function_at "f" 4 8 (arrow (named_at "A" 11) (named_at "A" 14) ∷ []) (branch
    (bound_at "x" 17) (used_at "x" 20) ∷ []) ∷ [])
    -- `let fun f (A->A) x->x;;`
    ∷ program 4 (word_at "let" 0 ∷ word_at "fun" 4 ∷ word_at "f" 8 ∷ sign_at sign.OpenParenthesis 10
    ∷ word_at "A" 11 ∷ sign_at sign.Arrow 12 ∷ word_at "A" 14 ∷ sign_at sign.CloseParenthesis 15
    ∷ word_at "x" 17 ∷ sign_at sign.Arrow 18 ∷ word_at "x" 20 ∷ sign_at sign.Semicolons 21 ∷ [])
    [] (function_at "f" 4 8 (arrow (named_at "A" 11) (named_at "A" 14) ∷ []) (branch
    (bound_at "x" 17) (used_at "x" 20) ∷ []) ∷ [])
    -- `type A=1 type B=2;;type C=3`
    ∷ program 0 (word_at "type" 0 ∷ word_at "A" 5 ∷ sign_at sign.Equal 6 ∷ digit_at 1 7
    ∷ word_at "type" 9 ∷ word_at "B" 14 ∷ sign_at sign.Equal 15 ∷ digit_at 2 16
    ∷ sign_at sign.Semicolons 17 ∷ word_at "type" 19 ∷ word_at "C" 24 ∷ sign_at sign.Equal 25
    ∷ digit_at 3 26 ∷ [])
    (declared_at "A" 5 (number_at 1 7) ∷ declared_at "B" 14 (number_at 2 16) ∷ declared_at "C" 24
    (number_at 3 26) ∷ []) []
    -- `type A=1 let fun f (A->B) x->x type B=2`
    ∷ program 4 (word_at "type" 0 ∷ word_at "A" 5 ∷ sign_at sign.Equal 6 ∷ digit_at 1 7
    ∷ word_at "let" 9 ∷ word_at "fun" 13 ∷ word_at "f" 17 ∷ sign_at sign.OpenParenthesis 19
    ∷ word_at "A" 20 ∷ sign_at sign.Arrow 21 ∷ word_at "B" 23 ∷ sign_at sign.CloseParenthesis 24
    ∷ word_at "x" 26 ∷ sign_at sign.Arrow 27 ∷ word_at "x" 29 ∷ word_at "type" 31 ∷ word_at "B" 36
    ∷ sign_at sign.Equal 37 ∷ digit_at 2 38 ∷ [])
    (declared_at "A" 5 (number_at 1 7) ∷ declared_at "B" 36 (number_at 2 38) ∷ [])
    (function_at "f" 13 17 (arrow (named_at "A" 20) (named_at "B" 23) ∷ []) (branch
    (bound_at "x" 26) (used_at "x" 29) ∷ []) ∷ [])
    -- `let fun f (A->B) x->x;;let fun g (A->A;B->B) |x->x|y->y type A=1;;`
    ∷ program 4 (word_at "let" 0 ∷ word_at "fun" 4 ∷ word_at "f" 8 ∷ sign_at sign.OpenParenthesis 10
    ∷ word_at "A" 11 ∷ sign_at sign.Arrow 12 ∷ word_at "B" 14 ∷ sign_at sign.CloseParenthesis 15
    ∷ word_at "x" 17 ∷ sign_at sign.Arrow 18 ∷ word_at "x" 20 ∷ sign_at sign.Semicolons 21
    ∷ word_at "let" 23 ∷ word_at "fun" 27 ∷ word_at "g" 31 ∷ sign_at sign.OpenParenthesis 33
    ∷ word_at "A" 34 ∷ sign_at sign.Arrow 35 ∷ word_at "A" 37 ∷ sign_at sign.Semicolon 38
    ∷ word_at "B" 39 ∷ sign_at sign.Arrow 40 ∷ word_at "B" 42 ∷ sign_at sign.CloseParenthesis 43
    ∷ sign_at sign.Or 45 ∷ word_at "x" 46 ∷ sign_at sign.Arrow 47 ∷ word_at "x" 49
    ∷ sign_at sign.Or 50 ∷ word_at "y" 51 ∷ sign_at sign.Arrow 52 ∷ word_at "y" 54
    ∷ word_at "type" 56 ∷ word_at "A" 61 ∷ sign_at sign.Equal 62 ∷ digit_at 1 63
    ∷ sign_at sign.Semicolons 64 ∷ [])
    (declared_at "A" 61 (number_at 1 63) ∷ []) (function_at "f" 4 8 (arrow (named_at "A" 11)
    (named_at "B" 14) ∷ []) (branch (bound_at "x" 17) (used_at "x" 20) ∷ []) ∷ function_at "g" 27 31
    (arrow (named_at "A" 34) (named_at "A" 37) ∷ arrow (named_at "B" 39) (named_at "B" 42) ∷ [])
    (branch (bound_at "x" 46) (used_at "x" 49) ∷ branch (bound_at "y" 51) (used_at "y" 54) ∷ [])
    ∷ [])
    ∷ []
