-- Paths and selects as their tokens, and the expressions that they stand for. Each is E in
-- `let fun f (A->A) x->(E)`, from byte 21 on, where four levels are open.
use Rattle.std.specs.Prelude.{List, [], ◌∷◌, Some, None, codes}
use Rattle.cd_syntax.specs.declared.sign.Sign.TheVariants as sign
use Rattle.cd_syntax.specs.declared.builtin.BuiltinName.TheVariants as builtin
use Rattle.cd_syntax.specs.declared.type_tree.Post.TheVariants as post
use Rattle.cd_syntax.specs.TypeTree.{Tree, Builtin, Atom, Variable, Meet, Sequence}
use Rattle.cd_syntax.specs.TypeTree.{Record, Xml, Item, Repeat, Open, signs_of, fields_of}
use Rattle.cd_program.specs.Expr as code
use Rattle.cd_program.specs.Expr.{Expr}
use Rattle.cd_query.specs.Core.{Source, select, child, attribute}
use Rattle.cd_grammar.specs.TreesAt.{sign_at, word_at, place, tree_from, regular_from, kept, field_at}
use Rattle.cd_grammar.specs.ExprsAt.{expr_from, bound_at, used_at, chain_from, branch}
use Rattle.cd_grammar.specs.ProgramExamples.{ProgramExample, body}

-- a path, the first two written out
abbrev pub path_exprs : List ProgramExample
path_exprs =
    -- `x/a`
    body 5 (word_at "x" 21 ∷ sign_at sign.Slash 22 ∷ word_at "a" 23 ∷ [])
    24 (expr_from 21 24 (code.Transform (used_at "x" 21) (code.branches_of (branch (tree_from 22 23
    (Xml (tree_from 22 23 (Builtin builtin.Any)) (tree_from 22 23 (Record (fields_of []) Open))
    (tree_from 22 23 (Meet (tree_from 22 23 (Variable (codes "Content"))) (signs_of (kept
    (tree_from 22 23 (Sequence (regular_from 22 23 (Repeat (regular_from 22 23 (Item
    (tree_from 22 23 (Builtin builtin.Any)))) post.Star)))) ∷ [])))))) (expr_from 21 24
    (code.Transform (expr_from 21 24 (code.Variable (codes "Content"))) (code.branches_of (branch
    (tree_from 23 24 (Meet (tree_from 23 24 (Variable (codes "Child"))) (signs_of (kept
    (tree_from 23 24 (Xml (tree_from 23 24 (Atom (codes "a"))) (tree_from 23 24 (Record
    (fields_of []) Open)) (tree_from 23 24 (Builtin builtin.Any)))) ∷ [])))) (expr_from 21 24
    (code.Sequence (code.items_of (code.One (expr_from 21 24 (code.Variable (codes "Child")))
    ∷ [])))) ∷ [])))) ∷ []))))
    -- `x/@a`
    ∷ body 5 (word_at "x" 21 ∷ sign_at sign.SlashAt 22 ∷ word_at "a" 24 ∷ [])
    25 (expr_from 21 25 (code.Transform (used_at "x" 21) (code.branches_of (branch (tree_from 22 24
    (Xml (tree_from 22 24 (Builtin builtin.Any)) (tree_from 22 24 (Record (fields_of
    (field_at "a" 22 (tree_from 22 24 (Variable (codes "Content"))) ∷ [])) Open)) (tree_from 22 24
    (Builtin builtin.Any)))) (expr_from 21 25 (code.Sequence (code.items_of (code.One
    (expr_from 21 25 (code.Variable (codes "Content"))) ∷ [])))) ∷ []))))
    -- `x.a/b.c`
    ∷ body 5 (word_at "x" 21 ∷ sign_at sign.Dot 22 ∷ word_at "a" 23 ∷ sign_at sign.Slash 24
    ∷ word_at "b" 25 ∷ sign_at sign.Dot 26 ∷ word_at "c" 27 ∷ [])
    28 (chain_from 21 28 (child (place 21 26) (place 24 25) (place 25 26) (chain_from 21 24
    (used_at "x" 21) (code.Select (codes "a") ∷ [])) (codes "b")) (code.Select (codes "c") ∷ []))
    -- `x/a/@type.c.d`
    ∷ body 6 (word_at "x" 21 ∷ sign_at sign.Slash 22 ∷ word_at "a" 23 ∷ sign_at sign.SlashAt 24
    ∷ word_at "type" 26 ∷ sign_at sign.Dot 30 ∷ word_at "c" 31 ∷ sign_at sign.Dot 32
    ∷ word_at "d" 33 ∷ [])
    34 (chain_from 21 34 (attribute (place 21 30) (place 24 26) (child (place 21 24) (place 22 23)
    (place 23 24) (used_at "x" 21) (codes "a")) (codes "type")) (code.Select (codes "c")
    ∷ code.Select (codes "d") ∷ []))
    -- `x/@a/b`
    ∷ body 6 (word_at "x" 21 ∷ sign_at sign.SlashAt 22 ∷ word_at "a" 24 ∷ sign_at sign.Slash 25
    ∷ word_at "b" 26 ∷ [])
    27 (child (place 21 27) (place 25 26) (place 26 27) (attribute (place 21 25) (place 22 24)
    (used_at "x" 21) (codes "a")) (codes "b"))
    -- `f x/a`
    ∷ body 5 (word_at "f" 21 ∷ word_at "x" 23 ∷ sign_at sign.Slash 24 ∷ word_at "a" 25 ∷ [])
    26 (expr_from 21 26 (code.Apply (code.exprs_of (used_at "f" 21 ∷ child (place 23 26)
    (place 24 25) (place 25 26) (used_at "x" 23) (codes "a") ∷ []))))
    -- `(f x)/a`
    ∷ body 5 (sign_at sign.OpenParenthesis 21 ∷ word_at "f" 22 ∷ word_at "x" 24
    ∷ sign_at sign.CloseParenthesis 25 ∷ sign_at sign.Slash 26 ∷ word_at "a" 27 ∷ [])
    28 (child (place 21 28) (place 26 27) (place 27 28) (expr_from 22 25 (code.Apply (code.exprs_of
    (used_at "f" 22 ∷ used_at "x" 24 ∷ [])))) (codes "a"))
    -- `[x/a !y/@b]`
    ∷ body 6 (sign_at sign.OpenBracket 21 ∷ word_at "x" 22 ∷ sign_at sign.Slash 23 ∷ word_at "a" 24
    ∷ sign_at sign.Splice 26 ∷ word_at "y" 27 ∷ sign_at sign.SlashAt 28 ∷ word_at "b" 30
    ∷ sign_at sign.CloseBracket 31 ∷ [])
    32 (expr_from 21 32 (code.Sequence (code.items_of (code.One (child (place 22 25) (place 23 24)
    (place 24 25) (used_at "x" 22) (codes "a")) ∷ code.Splice (attribute (place 27 31) (place 28 30)
    (used_at "y" 27) (codes "b")) ∷ []))))
    ∷ []

-- a source, and selects, the first two written out
abbrev pub source : Tree → Expr → Source
source pattern value = record { pattern = pattern; value = value }

abbrev pub select_exprs : List ProgramExample
select_exprs =
    -- `(select y from y in x)`
    body 6 (sign_at sign.OpenParenthesis 21 ∷ word_at "select" 22 ∷ word_at "y" 29
    ∷ word_at "from" 31 ∷ word_at "y" 36 ∷ word_at "in" 38 ∷ word_at "x" 41
    ∷ sign_at sign.CloseParenthesis 42 ∷ [])
    43 (expr_from 21 43 (code.Transform (used_at "x" 41) (code.branches_of (branch (bound_at "y" 36)
    (expr_from 21 43 (code.Sequence (code.items_of (code.One (used_at "y" 29) ∷ [])))) ∷ []))))
    -- `(select y from y in x where y)`
    ∷ body 6 (sign_at sign.OpenParenthesis 21 ∷ word_at "select" 22 ∷ word_at "y" 29
    ∷ word_at "from" 31 ∷ word_at "y" 36 ∷ word_at "in" 38 ∷ word_at "x" 41 ∷ word_at "where" 43
    ∷ word_at "y" 49 ∷ sign_at sign.CloseParenthesis 50 ∷ [])
    51 (expr_from 21 51 (code.Transform (used_at "x" 41) (code.branches_of (branch (bound_at "y" 36)
    (expr_from 21 51 (code.If (used_at "y" 49) (expr_from 21 51 (code.Sequence (code.items_of
    (code.One (used_at "y" 29) ∷ [])))) (expr_from 21 51 (code.Sequence (code.items_of [])))))
    ∷ []))))
    -- `(select z from y in x, z in y)`
    ∷ body 7 (sign_at sign.OpenParenthesis 21 ∷ word_at "select" 22 ∷ word_at "z" 29
    ∷ word_at "from" 31 ∷ word_at "y" 36 ∷ word_at "in" 38 ∷ word_at "x" 41 ∷ sign_at sign.Comma 42
    ∷ word_at "z" 44 ∷ word_at "in" 46 ∷ word_at "y" 49 ∷ sign_at sign.CloseParenthesis 50 ∷ [])
    51 (select (place 21 51) (source (bound_at "y" 36) (used_at "x" 41) ∷ source (bound_at "z" 44)
    (used_at "y" 49) ∷ []) None (used_at "z" 29))
    -- `(select z from y in x, z in y where z)`
    ∷ body 7 (sign_at sign.OpenParenthesis 21 ∷ word_at "select" 22 ∷ word_at "z" 29
    ∷ word_at "from" 31 ∷ word_at "y" 36 ∷ word_at "in" 38 ∷ word_at "x" 41 ∷ sign_at sign.Comma 42
    ∷ word_at "z" 44 ∷ word_at "in" 46 ∷ word_at "y" 49 ∷ word_at "where" 51 ∷ word_at "z" 57
    ∷ sign_at sign.CloseParenthesis 58 ∷ [])
    59 (select (place 21 59) (source (bound_at "y" 36) (used_at "x" 41) ∷ source (bound_at "z" 44)
    (used_at "y" 49) ∷ []) (Some (used_at "z" 57)) (used_at "z" 29))
    ∷ []
