-- Patterns as their tokens, and the trees that they write. Each is P in
-- `let fun f (A->A) x->(let P=x in x)`, from byte 25 on, where five levels are open.
use Rattle.std.specs.Prelude.{pos, List, [], ◌∷◌, Some, None, codes}
use Rattle.cd_syntax.specs.declared.sign.Sign.TheVariants as sign
use Rattle.cd_syntax.specs.declared.constant.Constant.TheVariants as constants
use Rattle.cd_syntax.specs.declared.type_tree.Post.TheVariants as post
use Rattle.cd_syntax.specs.TypeTree.{Ints, Chars, Atom, Text, Tuple, Arrows, Union, Meet}
use Rattle.cd_syntax.specs.TypeTree.{Sequence, Record, Xml, Where, Default, Nothing, Seq, Alt}
use Rattle.cd_syntax.specs.TypeTree.{Repeat, Capture, trees_of, signs_of, fields_of}
use Rattle.cd_syntax.specs.TypeTree.{declarations_of, regulars_of, Closed, Open, Typed}
use Rattle.cd_grammar.specs.TreesAt.{sign_at, word_at, digit_at, chars_at, text_at, atom_at}
use Rattle.cd_grammar.specs.TreesAt.{tree_from, regular_from, number_at, named_at, ints_at}
use Rattle.cd_grammar.specs.TreesAt.{any_at, kept, taken_off, field_at, optional_at, declared_at}
use Rattle.cd_grammar.specs.TreesAt.{no_attributes_at, item, letter_from}
use Rattle.cd_grammar.specs.ExprsAt.{bound_at}
use Rattle.cd_grammar.specs.ProgramExamples.{ProgramExample, pattern}

-- constants, names and variables
abbrev pub constant_patterns : List ProgramExample
constant_patterns =
    -- `x`
    pattern 5 (word_at "x" 25 ∷ []) 26 (bound_at "x" 25)
    -- `_`
    ∷ pattern 5 (word_at "_" 25 ∷ []) 26 (any_at 25)
    -- `A`
    ∷ pattern 5 (word_at "A" 25 ∷ []) 26 (named_at "A" 25)
    -- `Int`
    ∷ pattern 5 (word_at "Int" 25 ∷ []) 28 (ints_at 25)
    -- `1`
    ∷ pattern 5 (digit_at 1 25 ∷ []) 26 (number_at 1 25)
    -- `1--2`
    ∷ pattern 5 (digit_at 1 25 ∷ sign_at sign.To 26 ∷ digit_at 2 28 ∷ [])
    29 (tree_from 25 29 (Ints (Some (pos 1)) (Some (pos 2))))
    -- `1--*`
    ∷ pattern 5 (digit_at 1 25 ∷ sign_at sign.ToStar 26 ∷ [])
    29 (tree_from 25 29 (Ints (Some (pos 1)) None))
    -- `*--2`
    ∷ pattern 5 (sign_at sign.StarTo 25 ∷ digit_at 2 28 ∷ [])
    29 (tree_from 25 29 (Ints None (Some (pos 2))))
    -- `'a'`
    ∷ pattern 5 (chars_at "a" 25 ∷ []) 28 (tree_from 25 28 (Chars 97 97))
    -- `'a'--'b'`
    ∷ pattern 5 (chars_at "a" 25 ∷ sign_at sign.To 28 ∷ chars_at "b" 30 ∷ [])
    33 (tree_from 25 33 (Chars 97 98))
    -- `"ab"`
    ∷ pattern 5 (text_at "ab" 25 ∷ []) 29 (tree_from 25 29 (Text (codes "ab")))
    -- `` `a ``
    ∷ pattern 5 (atom_at "a" 25 ∷ []) 27 (tree_from 25 27 (Atom (codes "a")))
    ∷ []

-- variables that are constants
abbrev pub default_patterns : List ProgramExample
default_patterns =
    -- `(x:=1)`
    pattern 6 (sign_at sign.OpenParenthesis 25 ∷ word_at "x" 26 ∷ sign_at sign.Becomes 27
    ∷ digit_at 1 29 ∷ sign_at sign.CloseParenthesis 30 ∷ [])
    31 (tree_from 25 31 (Default (codes "x") (constants.Int (pos 1))))
    -- `(x:='a')`
    ∷ pattern 6 (sign_at sign.OpenParenthesis 25 ∷ word_at "x" 26 ∷ sign_at sign.Becomes 27
    ∷ chars_at "a" 29 ∷ sign_at sign.CloseParenthesis 32 ∷ [])
    33 (tree_from 25 33 (Default (codes "x") (constants.Char 97)))
    -- `(x:="ab")`
    ∷ pattern 6 (sign_at sign.OpenParenthesis 25 ∷ word_at "x" 26 ∷ sign_at sign.Becomes 27
    ∷ text_at "ab" 29 ∷ sign_at sign.CloseParenthesis 33 ∷ [])
    34 (tree_from 25 34 (Default (codes "x") (constants.Text (codes "ab"))))
    -- `` (x:=`a) ``
    ∷ pattern 6 (sign_at sign.OpenParenthesis 25 ∷ word_at "x" 26 ∷ sign_at sign.Becomes 27
    ∷ atom_at "a" 29 ∷ sign_at sign.CloseParenthesis 31 ∷ [])
    32 (tree_from 25 32 (Default (codes "x") (constants.Atom (codes "a"))))
    -- `(x := [])`
    ∷ pattern 7 (sign_at sign.OpenParenthesis 25 ∷ word_at "x" 26 ∷ sign_at sign.Becomes 28
    ∷ sign_at sign.OpenBracket 31 ∷ sign_at sign.CloseBracket 32 ∷ sign_at sign.CloseParenthesis 33
    ∷ [])
    34 (tree_from 25 34 (Default (codes "x") constants.Nil))
    -- `[(x:=1)*]`
    ∷ pattern 7 (sign_at sign.OpenBracket 25 ∷ sign_at sign.OpenParenthesis 26 ∷ word_at "x" 27
    ∷ sign_at sign.Becomes 28 ∷ digit_at 1 30 ∷ sign_at sign.CloseParenthesis 31
    ∷ sign_at sign.Star 32 ∷ sign_at sign.CloseBracket 33 ∷ [])
    34 (tree_from 25 34 (Sequence (regular_from 26 33 (Repeat (item (tree_from 26 32 (Default
    (codes "x") (constants.Int (pos 1))))) post.Star))))
    ∷ []

-- signs between patterns, and tuples
abbrev pub chain_patterns : List ProgramExample
chain_patterns =
    -- `x|y|z`
    pattern 5 (word_at "x" 25 ∷ sign_at sign.Or 26 ∷ word_at "y" 27 ∷ sign_at sign.Or 28
    ∷ word_at "z" 29 ∷ [])
    30 (tree_from 25 30 (Union (trees_of (bound_at "x" 25 ∷ bound_at "y" 27 ∷ bound_at "z" 29
    ∷ []))))
    -- `x&y&A`
    ∷ pattern 5 (word_at "x" 25 ∷ sign_at sign.And 26 ∷ word_at "y" 27 ∷ sign_at sign.And 28
    ∷ word_at "A" 29 ∷ [])
    30 (tree_from 25 30 (Meet (bound_at "x" 25) (signs_of (kept (bound_at "y" 27) ∷ kept
    (named_at "A" 29) ∷ []))))
    -- `x\A\B&C`
    ∷ pattern 5 (word_at "x" 25 ∷ sign_at sign.Backslash 26 ∷ word_at "A" 27
    ∷ sign_at sign.Backslash 28 ∷ word_at "B" 29 ∷ sign_at sign.And 30 ∷ word_at "C" 31 ∷ [])
    32 (tree_from 25 32 (Meet (bound_at "x" 25) (signs_of (taken_off (named_at "A" 27) ∷ taken_off
    (named_at "B" 29) ∷ kept (named_at "C" 31) ∷ []))))
    -- `(x|y)&A`
    ∷ pattern 6 (sign_at sign.OpenParenthesis 25 ∷ word_at "x" 26 ∷ sign_at sign.Or 27
    ∷ word_at "y" 28 ∷ sign_at sign.CloseParenthesis 29 ∷ sign_at sign.And 30 ∷ word_at "A" 31 ∷ [])
    32 (tree_from 25 32 (Meet (tree_from 26 29 (Union (trees_of (bound_at "x" 26 ∷ bound_at "y" 28
    ∷ [])))) (signs_of (kept (named_at "A" 31) ∷ []))))
    -- `(x,y)`
    ∷ pattern 6 (sign_at sign.OpenParenthesis 25 ∷ word_at "x" 26 ∷ sign_at sign.Comma 27
    ∷ word_at "y" 28 ∷ sign_at sign.CloseParenthesis 29 ∷ [])
    30 (tree_from 25 30 (Tuple (trees_of (bound_at "x" 26 ∷ bound_at "y" 28 ∷ []))))
    -- `(x,y,z)`
    ∷ pattern 6 (sign_at sign.OpenParenthesis 25 ∷ word_at "x" 26 ∷ sign_at sign.Comma 27
    ∷ word_at "y" 28 ∷ sign_at sign.Comma 29 ∷ word_at "z" 30 ∷ sign_at sign.CloseParenthesis 31
    ∷ [])
    32 (tree_from 25 32 (Tuple (trees_of (bound_at "x" 26 ∷ bound_at "y" 28 ∷ bound_at "z" 30
    ∷ []))))
    -- `(x->A)`
    ∷ pattern 7 (sign_at sign.OpenParenthesis 25 ∷ word_at "x" 26 ∷ sign_at sign.Arrow 27
    ∷ word_at "A" 29 ∷ sign_at sign.CloseParenthesis 30 ∷ [])
    31 (tree_from 26 30 (Arrows (trees_of (bound_at "x" 26 ∷ named_at "A" 29 ∷ []))))
    -- `(x->y->A)`
    ∷ pattern 8 (sign_at sign.OpenParenthesis 25 ∷ word_at "x" 26 ∷ sign_at sign.Arrow 27
    ∷ word_at "y" 29 ∷ sign_at sign.Arrow 30 ∷ word_at "A" 32 ∷ sign_at sign.CloseParenthesis 33
    ∷ [])
    34 (tree_from 26 33 (Arrows (trees_of (bound_at "x" 26 ∷ bound_at "y" 29 ∷ named_at "A" 32
    ∷ []))))
    -- `(x where A=y)`
    ∷ pattern 6 (sign_at sign.OpenParenthesis 25 ∷ word_at "x" 26 ∷ word_at "where" 28
    ∷ word_at "A" 34 ∷ sign_at sign.Equal 35 ∷ word_at "y" 36 ∷ sign_at sign.CloseParenthesis 37
    ∷ [])
    38 (tree_from 26 37 (Where (bound_at "x" 26) (declarations_of (declared_at "A" 34
    (bound_at "y" 36) ∷ []))))
    -- `((x,y) where A=x and B=(A,y))`
    ∷ pattern 7 (sign_at sign.OpenParenthesis 25 ∷ sign_at sign.OpenParenthesis 26 ∷ word_at "x" 27
    ∷ sign_at sign.Comma 28 ∷ word_at "y" 29 ∷ sign_at sign.CloseParenthesis 30 ∷ word_at "where" 32
    ∷ word_at "A" 38 ∷ sign_at sign.Equal 39 ∷ word_at "x" 40 ∷ word_at "and" 42 ∷ word_at "B" 46
    ∷ sign_at sign.Equal 47 ∷ sign_at sign.OpenParenthesis 48 ∷ word_at "A" 49
    ∷ sign_at sign.Comma 50 ∷ word_at "y" 51 ∷ sign_at sign.CloseParenthesis 52
    ∷ sign_at sign.CloseParenthesis 53 ∷ [])
    54 (tree_from 26 53 (Where (tree_from 26 31 (Tuple (trees_of (bound_at "x" 27 ∷ bound_at "y" 29
    ∷ [])))) (declarations_of (declared_at "A" 38 (bound_at "x" 40) ∷ declared_at "B" 46
    (tree_from 48 53 (Tuple (trees_of (named_at "A" 49 ∷ bound_at "y" 51 ∷ [])))) ∷ []))))
    ∷ []

-- records
abbrev pub record_patterns : List ProgramExample
record_patterns =
    -- `{}`
    pattern 6 (sign_at sign.OpenBrace 25 ∷ sign_at sign.CloseBrace 26 ∷ [])
    27 (tree_from 25 27 (Record (fields_of []) Closed))
    -- `{..}`
    ∷ pattern 6 (sign_at sign.OpenBrace 25 ∷ sign_at sign.Dots 26 ∷ sign_at sign.CloseBrace 28 ∷ [])
    29 (tree_from 25 29 (Record (fields_of []) Open))
    -- `{a=x}`
    ∷ pattern 6 (sign_at sign.OpenBrace 25 ∷ word_at "a" 26 ∷ sign_at sign.Equal 27 ∷ word_at "x" 28
    ∷ sign_at sign.CloseBrace 29 ∷ [])
    30 (tree_from 25 30 (Record (fields_of (field_at "a" 26 (bound_at "x" 28) ∷ [])) Closed))
    -- `{a=x;b=?y ..}`
    ∷ pattern 6 (sign_at sign.OpenBrace 25 ∷ word_at "a" 26 ∷ sign_at sign.Equal 27 ∷ word_at "x" 28
    ∷ sign_at sign.Semicolon 29 ∷ word_at "b" 30 ∷ sign_at sign.EqualQuestion 31 ∷ word_at "y" 33
    ∷ sign_at sign.Dots 35 ∷ sign_at sign.CloseBrace 37 ∷ [])
    38 (tree_from 25 38 (Record (fields_of (field_at "a" 26 (bound_at "x" 28) ∷ optional_at "b" 30
    (bound_at "y" 33) ∷ [])) Open))
    -- `{a=x;}`
    ∷ pattern 6 (sign_at sign.OpenBrace 25 ∷ word_at "a" 26 ∷ sign_at sign.Equal 27 ∷ word_at "x" 28
    ∷ sign_at sign.Semicolon 29 ∷ sign_at sign.CloseBrace 30 ∷ [])
    31 (tree_from 25 31 (Record (fields_of (field_at "a" 26 (bound_at "x" 28) ∷ [])) Closed))
    -- `{a=x; ..}`
    ∷ pattern 6 (sign_at sign.OpenBrace 25 ∷ word_at "a" 26 ∷ sign_at sign.Equal 27 ∷ word_at "x" 28
    ∷ sign_at sign.Semicolon 29 ∷ sign_at sign.Dots 31 ∷ sign_at sign.CloseBrace 33 ∷ [])
    34 (tree_from 25 34 (Record (fields_of (field_at "a" 26 (bound_at "x" 28) ∷ [])) Open))
    -- `{_=?A}`
    ∷ pattern 6 (sign_at sign.OpenBrace 25 ∷ word_at "_" 26 ∷ sign_at sign.EqualQuestion 27
    ∷ word_at "A" 29 ∷ sign_at sign.CloseBrace 30 ∷ [])
    31 (tree_from 25 31 (Record (fields_of []) (Typed (named_at "A" 29))))
    -- `{a=x _=?A}`
    ∷ pattern 6 (sign_at sign.OpenBrace 25 ∷ word_at "a" 26 ∷ sign_at sign.Equal 27 ∷ word_at "x" 28
    ∷ word_at "_" 30 ∷ sign_at sign.EqualQuestion 31 ∷ word_at "A" 33 ∷ sign_at sign.CloseBrace 34
    ∷ [])
    35 (tree_from 25 35 (Record (fields_of (field_at "a" 26 (bound_at "x" 28) ∷ [])) (Typed
    (named_at "A" 33))))
    -- `{a=x; _=?A}`
    ∷ pattern 6 (sign_at sign.OpenBrace 25 ∷ word_at "a" 26 ∷ sign_at sign.Equal 27 ∷ word_at "x" 28
    ∷ sign_at sign.Semicolon 29 ∷ word_at "_" 31 ∷ sign_at sign.EqualQuestion 32 ∷ word_at "A" 34
    ∷ sign_at sign.CloseBrace 35 ∷ [])
    36 (tree_from 25 36 (Record (fields_of (field_at "a" 26 (bound_at "x" 28) ∷ [])) (Typed
    (named_at "A" 34))))
    ∷ []

-- XML patterns
abbrev pub xml_patterns : List ProgramExample
xml_patterns =
    -- `<a>x`
    pattern 6 (sign_at sign.Less 25 ∷ word_at "a" 26 ∷ sign_at sign.Greater 27 ∷ word_at "x" 28
    ∷ [])
    29 (tree_from 25 29 (Xml (tree_from 26 27 (Atom (codes "a"))) (no_attributes_at 27)
    (bound_at "x" 28)))
    -- `<_>x`
    ∷ pattern 6 (sign_at sign.Less 25 ∷ word_at "_" 26 ∷ sign_at sign.Greater 27 ∷ word_at "x" 28
    ∷ [])
    29 (tree_from 25 29 (Xml (any_at 26) (no_attributes_at 27) (bound_at "x" 28)))
    -- `<(A)>x`
    ∷ pattern 7 (sign_at sign.Less 25 ∷ sign_at sign.OpenParenthesis 26 ∷ word_at "A" 27
    ∷ sign_at sign.CloseParenthesis 28 ∷ sign_at sign.Greater 29 ∷ word_at "x" 30 ∷ [])
    31 (tree_from 25 31 (Xml (named_at "A" 27) (no_attributes_at 29) (bound_at "x" 30)))
    -- `<a b=x>y`
    ∷ pattern 6 (sign_at sign.Less 25 ∷ word_at "a" 26 ∷ word_at "b" 28 ∷ sign_at sign.Equal 29
    ∷ word_at "x" 30 ∷ sign_at sign.Greater 31 ∷ word_at "y" 32 ∷ [])
    33 (tree_from 25 33 (Xml (tree_from 26 27 (Atom (codes "a"))) (tree_from 28 31 (Record
    (fields_of (field_at "b" 28 (bound_at "x" 30) ∷ [])) Closed)) (bound_at "y" 32)))
    -- `<a b=x;c=?y ..>z`
    ∷ pattern 6 (sign_at sign.Less 25 ∷ word_at "a" 26 ∷ word_at "b" 28 ∷ sign_at sign.Equal 29
    ∷ word_at "x" 30 ∷ sign_at sign.Semicolon 31 ∷ word_at "c" 32 ∷ sign_at sign.EqualQuestion 33
    ∷ word_at "y" 35 ∷ sign_at sign.Dots 37 ∷ sign_at sign.Greater 39 ∷ word_at "z" 40 ∷ [])
    41 (tree_from 25 41 (Xml (tree_from 26 27 (Atom (codes "a"))) (tree_from 28 39 (Record
    (fields_of (field_at "b" 28 (bound_at "x" 30) ∷ optional_at "c" 32 (bound_at "y" 35) ∷ []))
    Open)) (bound_at "z" 40)))
    -- `<a b=x c=y;>z`
    ∷ pattern 6 (sign_at sign.Less 25 ∷ word_at "a" 26 ∷ word_at "b" 28 ∷ sign_at sign.Equal 29
    ∷ word_at "x" 30 ∷ word_at "c" 32 ∷ sign_at sign.Equal 33 ∷ word_at "y" 34
    ∷ sign_at sign.Semicolon 35 ∷ sign_at sign.Greater 36 ∷ word_at "z" 37 ∷ [])
    38 (tree_from 25 38 (Xml (tree_from 26 27 (Atom (codes "a"))) (tree_from 28 36 (Record
    (fields_of (field_at "b" 28 (bound_at "x" 30) ∷ field_at "c" 32 (bound_at "y" 34) ∷ [])) Closed))
    (bound_at "z" 37)))
    -- `<a ..>x`
    ∷ pattern 6 (sign_at sign.Less 25 ∷ word_at "a" 26 ∷ sign_at sign.Dots 28
    ∷ sign_at sign.Greater 30 ∷ word_at "x" 31 ∷ [])
    32 (tree_from 25 32 (Xml (tree_from 26 27 (Atom (codes "a"))) (tree_from 28 30 (Record
    (fields_of []) Open)) (bound_at "x" 31)))
    -- `<a b=x; ..>y`
    ∷ pattern 6 (sign_at sign.Less 25 ∷ word_at "a" 26 ∷ word_at "b" 28 ∷ sign_at sign.Equal 29
    ∷ word_at "x" 30 ∷ sign_at sign.Semicolon 31 ∷ sign_at sign.Dots 33 ∷ sign_at sign.Greater 35
    ∷ word_at "y" 36 ∷ [])
    37 (tree_from 25 37 (Xml (tree_from 26 27 (Atom (codes "a"))) (tree_from 28 35 (Record
    (fields_of (field_at "b" 28 (bound_at "x" 30) ∷ [])) Open)) (bound_at "y" 36)))
    -- `<a (r)>x`
    ∷ pattern 7 (sign_at sign.Less 25 ∷ word_at "a" 26 ∷ sign_at sign.OpenParenthesis 28
    ∷ word_at "r" 29 ∷ sign_at sign.CloseParenthesis 30 ∷ sign_at sign.Greater 31 ∷ word_at "x" 32
    ∷ [])
    33 (tree_from 25 33 (Xml (tree_from 26 27 (Atom (codes "a"))) (bound_at "r" 29)
    (bound_at "x" 32)))
    -- `<a _=?A>x`
    ∷ pattern 6 (sign_at sign.Less 25 ∷ word_at "a" 26 ∷ word_at "_" 28
    ∷ sign_at sign.EqualQuestion 29 ∷ word_at "A" 31 ∷ sign_at sign.Greater 32 ∷ word_at "x" 33
    ∷ [])
    34 (tree_from 25 34 (Xml (tree_from 26 27 (Atom (codes "a"))) (tree_from 28 32 (Record
    (fields_of []) (Typed (named_at "A" 31)))) (bound_at "x" 33)))
    -- `<a b=x _=?A>y`
    ∷ pattern 6 (sign_at sign.Less 25 ∷ word_at "a" 26 ∷ word_at "b" 28 ∷ sign_at sign.Equal 29
    ∷ word_at "x" 30 ∷ word_at "_" 32 ∷ sign_at sign.EqualQuestion 33 ∷ word_at "A" 35
    ∷ sign_at sign.Greater 36 ∷ word_at "y" 37 ∷ [])
    38 (tree_from 25 38 (Xml (tree_from 26 27 (Atom (codes "a"))) (tree_from 28 36 (Record
    (fields_of (field_at "b" 28 (bound_at "x" 30) ∷ [])) (Typed (named_at "A" 35))))
    (bound_at "y" 37)))
    -- `<a b=x; _=?A>y`
    ∷ pattern 6 (sign_at sign.Less 25 ∷ word_at "a" 26 ∷ word_at "b" 28 ∷ sign_at sign.Equal 29
    ∷ word_at "x" 30 ∷ sign_at sign.Semicolon 31 ∷ word_at "_" 33 ∷ sign_at sign.EqualQuestion 34
    ∷ word_at "A" 36 ∷ sign_at sign.Greater 37 ∷ word_at "y" 38 ∷ [])
    39 (tree_from 25 39 (Xml (tree_from 26 27 (Atom (codes "a"))) (tree_from 28 37 (Record
    (fields_of (field_at "b" 28 (bound_at "x" 30) ∷ [])) (Typed (named_at "A" 36))))
    (bound_at "y" 38)))
    ∷ []

-- sequences: a variable has the items of what stands after it
abbrev pub sequence_patterns : List ProgramExample
sequence_patterns =
    -- `[]`
    pattern 6 (sign_at sign.OpenBracket 25 ∷ sign_at sign.CloseBracket 26 ∷ [])
    27 (tree_from 25 27 (Sequence (regular_from 26 26 Nothing)))
    -- `[x]`
    ∷ pattern 6 (sign_at sign.OpenBracket 25 ∷ word_at "x" 26 ∷ sign_at sign.CloseBracket 27 ∷ [])
    28 (tree_from 25 28 (Sequence (item (bound_at "x" 26))))
    -- `[x::Int*]`
    ∷ pattern 7 (sign_at sign.OpenBracket 25 ∷ word_at "x" 26 ∷ sign_at sign.ColonColon 27
    ∷ word_at "Int" 29 ∷ sign_at sign.Star 32 ∷ sign_at sign.CloseBracket 33 ∷ [])
    34 (tree_from 25 34 (Sequence (regular_from 26 33 (Capture (codes "x") (regular_from 29 33
    (Repeat (item (ints_at 29)) post.Star))))))
    -- `[x::y::Int]`
    ∷ pattern 8 (sign_at sign.OpenBracket 25 ∷ word_at "x" 26 ∷ sign_at sign.ColonColon 27
    ∷ word_at "y" 29 ∷ sign_at sign.ColonColon 30 ∷ word_at "Int" 32 ∷ sign_at sign.CloseBracket 35
    ∷ [])
    36 (tree_from 25 36 (Sequence (regular_from 26 35 (Capture (codes "x") (regular_from 29 35
    (Capture (codes "y") (item (ints_at 32))))))))
    -- `[x::Int* y]`
    ∷ pattern 7 (sign_at sign.OpenBracket 25 ∷ word_at "x" 26 ∷ sign_at sign.ColonColon 27
    ∷ word_at "Int" 29 ∷ sign_at sign.Star 32 ∷ word_at "y" 34 ∷ sign_at sign.CloseBracket 35 ∷ [])
    36 (tree_from 25 36 (Sequence (regular_from 26 35 (Seq (regulars_of (regular_from 26 33 (Capture
    (codes "x") (regular_from 29 33 (Repeat (item (ints_at 29)) post.Star))) ∷ item
    (bound_at "y" 34) ∷ []))))))
    -- `[x::A y::B z]`
    ∷ pattern 7 (sign_at sign.OpenBracket 25 ∷ word_at "x" 26 ∷ sign_at sign.ColonColon 27
    ∷ word_at "A" 29 ∷ word_at "y" 31 ∷ sign_at sign.ColonColon 32 ∷ word_at "B" 34 ∷ word_at "z" 36
    ∷ sign_at sign.CloseBracket 37 ∷ [])
    38 (tree_from 25 38 (Sequence (regular_from 26 37 (Seq (regulars_of (regular_from 26 30 (Capture
    (codes "x") (item (named_at "A" 29))) ∷ regular_from 31 35 (Capture (codes "y") (item
    (named_at "B" 34))) ∷ item (bound_at "z" 36) ∷ []))))))
    -- `[x|y|z]`
    ∷ pattern 6 (sign_at sign.OpenBracket 25 ∷ word_at "x" 26 ∷ sign_at sign.Or 27 ∷ word_at "y" 28
    ∷ sign_at sign.Or 29 ∷ word_at "z" 30 ∷ sign_at sign.CloseBracket 31 ∷ [])
    32 (tree_from 25 32 (Sequence (regular_from 26 31 (Alt (regulars_of (item (bound_at "x" 26)
    ∷ item (bound_at "y" 28) ∷ item (bound_at "z" 30) ∷ []))))))
    -- `[x* y+ z?]`
    ∷ pattern 6 (sign_at sign.OpenBracket 25 ∷ word_at "x" 26 ∷ sign_at sign.Star 27
    ∷ word_at "y" 29 ∷ sign_at sign.Plus 30 ∷ word_at "z" 32 ∷ sign_at sign.Question 33
    ∷ sign_at sign.CloseBracket 34 ∷ [])
    35 (tree_from 25 35 (Sequence (regular_from 26 34 (Seq (regulars_of (regular_from 26 28 (Repeat
    (item (bound_at "x" 26)) post.Star) ∷ regular_from 29 31 (Repeat (item (bound_at "y" 29))
    post.Plus) ∷ regular_from 32 34 (Repeat (item (bound_at "z" 32)) post.Opt) ∷ []))))))
    -- `[x*? y+? z??]`
    ∷ pattern 6 (sign_at sign.OpenBracket 25 ∷ word_at "x" 26 ∷ sign_at sign.StarQuestion 27
    ∷ word_at "y" 30 ∷ sign_at sign.PlusQuestion 31 ∷ word_at "z" 34
    ∷ sign_at sign.QuestionQuestion 35 ∷ sign_at sign.CloseBracket 37 ∷ [])
    38 (tree_from 25 38 (Sequence (regular_from 26 37 (Seq (regulars_of (regular_from 26 29 (Repeat
    (item (bound_at "x" 26)) post.LazyStar) ∷ regular_from 30 33 (Repeat (item (bound_at "y" 30))
    post.LazyPlus) ∷ regular_from 34 37 (Repeat (item (bound_at "z" 34)) post.LazyOpt) ∷ []))))))
    -- `['ab' x]`
    ∷ pattern 6 (sign_at sign.OpenBracket 25 ∷ chars_at "ab" 26 ∷ word_at "x" 31
    ∷ sign_at sign.CloseBracket 32 ∷ [])
    33 (tree_from 25 33 (Sequence (regular_from 26 32 (Seq (regulars_of (regular_from 26 30 (Seq
    (regulars_of (letter_from 26 30 97 ∷ letter_from 26 30 98 ∷ []))) ∷ item (bound_at "x" 31)
    ∷ []))))))
    -- `['' x]`
    ∷ pattern 6 (sign_at sign.OpenBracket 25 ∷ chars_at "" 26 ∷ word_at "x" 29
    ∷ sign_at sign.CloseBracket 30 ∷ [])
    31 (tree_from 25 31 (Sequence (regular_from 26 30 (Seq (regulars_of (regular_from 26 28 Nothing
    ∷ item (bound_at "x" 29) ∷ []))))))
    ∷ []

-- parentheses in sequences
abbrev pub group_patterns : List ProgramExample
group_patterns =
    -- `[(x|y)]`
    pattern 7 (sign_at sign.OpenBracket 25 ∷ sign_at sign.OpenParenthesis 26 ∷ word_at "x" 27
    ∷ sign_at sign.Or 28 ∷ word_at "y" 29 ∷ sign_at sign.CloseParenthesis 30
    ∷ sign_at sign.CloseBracket 31 ∷ [])
    32 (tree_from 25 32 (Sequence (item (tree_from 27 30 (Union (trees_of (bound_at "x" 27
    ∷ bound_at "y" 29 ∷ [])))))))
    -- `[(x|y|z)&A]`
    ∷ pattern 7 (sign_at sign.OpenBracket 25 ∷ sign_at sign.OpenParenthesis 26 ∷ word_at "x" 27
    ∷ sign_at sign.Or 28 ∷ word_at "y" 29 ∷ sign_at sign.Or 30 ∷ word_at "z" 31
    ∷ sign_at sign.CloseParenthesis 32 ∷ sign_at sign.And 33 ∷ word_at "A" 34
    ∷ sign_at sign.CloseBracket 35 ∷ [])
    36 (tree_from 25 36 (Sequence (item (tree_from 26 35 (Meet (tree_from 27 32 (Union (trees_of
    (bound_at "x" 27 ∷ bound_at "y" 29 ∷ bound_at "z" 31 ∷ [])))) (signs_of (kept (named_at "A" 34)
    ∷ [])))))))
    -- `[(x y)*]`
    ∷ pattern 7 (sign_at sign.OpenBracket 25 ∷ sign_at sign.OpenParenthesis 26 ∷ word_at "x" 27
    ∷ word_at "y" 29 ∷ sign_at sign.CloseParenthesis 30 ∷ sign_at sign.Star 31
    ∷ sign_at sign.CloseBracket 32 ∷ [])
    33 (tree_from 25 33 (Sequence (regular_from 26 32 (Repeat (regular_from 27 30 (Seq (regulars_of
    (item (bound_at "x" 27) ∷ item (bound_at "y" 29) ∷ [])))) post.Star))))
    -- `[(x y z)]`
    ∷ pattern 7 (sign_at sign.OpenBracket 25 ∷ sign_at sign.OpenParenthesis 26 ∷ word_at "x" 27
    ∷ word_at "y" 29 ∷ word_at "z" 31 ∷ sign_at sign.CloseParenthesis 32
    ∷ sign_at sign.CloseBracket 33 ∷ [])
    34 (tree_from 25 34 (Sequence (regular_from 27 32 (Seq (regulars_of (item (bound_at "x" 27)
    ∷ item (bound_at "y" 29) ∷ item (bound_at "z" 31) ∷ []))))))
    -- `[('ab'|x)]`
    ∷ pattern 7 (sign_at sign.OpenBracket 25 ∷ sign_at sign.OpenParenthesis 26 ∷ chars_at "ab" 27
    ∷ sign_at sign.Or 31 ∷ word_at "x" 32 ∷ sign_at sign.CloseParenthesis 33
    ∷ sign_at sign.CloseBracket 34 ∷ [])
    35 (tree_from 25 35 (Sequence (regular_from 27 33 (Alt (regulars_of (regular_from 27 31 (Seq
    (regulars_of (letter_from 27 31 97 ∷ letter_from 27 31 98 ∷ []))) ∷ item (bound_at "x" 32)
    ∷ []))))))
    -- `[(x|'ab')]`
    ∷ pattern 7 (sign_at sign.OpenBracket 25 ∷ sign_at sign.OpenParenthesis 26 ∷ word_at "x" 27
    ∷ sign_at sign.Or 28 ∷ chars_at "ab" 29 ∷ sign_at sign.CloseParenthesis 33
    ∷ sign_at sign.CloseBracket 34 ∷ [])
    35 (tree_from 25 35 (Sequence (regular_from 27 33 (Alt (regulars_of (item (bound_at "x" 27)
    ∷ regular_from 29 33 (Seq (regulars_of (letter_from 29 33 97 ∷ letter_from 29 33 98 ∷ [])))
    ∷ []))))))
    -- `[(x|y|'ab')]`
    ∷ pattern 7 (sign_at sign.OpenBracket 25 ∷ sign_at sign.OpenParenthesis 26 ∷ word_at "x" 27
    ∷ sign_at sign.Or 28 ∷ word_at "y" 29 ∷ sign_at sign.Or 30 ∷ chars_at "ab" 31
    ∷ sign_at sign.CloseParenthesis 35 ∷ sign_at sign.CloseBracket 36 ∷ [])
    37 (tree_from 25 37 (Sequence (regular_from 27 35 (Alt (regulars_of (item (bound_at "x" 27)
    ∷ item (bound_at "y" 29) ∷ regular_from 31 35 (Seq (regulars_of (letter_from 31 35 97
    ∷ letter_from 31 35 98 ∷ []))) ∷ []))))))
    -- `[('ab'|'cd'|x|'ef')]`
    ∷ pattern 7 (sign_at sign.OpenBracket 25 ∷ sign_at sign.OpenParenthesis 26 ∷ chars_at "ab" 27
    ∷ sign_at sign.Or 31 ∷ chars_at "cd" 32 ∷ sign_at sign.Or 36 ∷ word_at "x" 37
    ∷ sign_at sign.Or 38 ∷ chars_at "ef" 39 ∷ sign_at sign.CloseParenthesis 43
    ∷ sign_at sign.CloseBracket 44 ∷ [])
    45 (tree_from 25 45 (Sequence (regular_from 27 43 (Alt (regulars_of (regular_from 27 31 (Seq
    (regulars_of (letter_from 27 31 97 ∷ letter_from 27 31 98 ∷ []))) ∷ regular_from 32 36 (Seq
    (regulars_of (letter_from 32 36 99 ∷ letter_from 32 36 100 ∷ []))) ∷ item (bound_at "x" 37)
    ∷ regular_from 39 43 (Seq (regulars_of (letter_from 39 43 101 ∷ letter_from 39 43 102 ∷ [])))
    ∷ []))))))
    -- `[(x::A y)]`
    ∷ pattern 8 (sign_at sign.OpenBracket 25 ∷ sign_at sign.OpenParenthesis 26 ∷ word_at "x" 27
    ∷ sign_at sign.ColonColon 28 ∷ word_at "A" 30 ∷ word_at "y" 32
    ∷ sign_at sign.CloseParenthesis 33 ∷ sign_at sign.CloseBracket 34 ∷ [])
    35 (tree_from 25 35 (Sequence (regular_from 27 33 (Seq (regulars_of (regular_from 27 31 (Capture
    (codes "x") (item (named_at "A" 30))) ∷ item (bound_at "y" 32) ∷ []))))))
    -- `[(x::A|y)]`
    ∷ pattern 8 (sign_at sign.OpenBracket 25 ∷ sign_at sign.OpenParenthesis 26 ∷ word_at "x" 27
    ∷ sign_at sign.ColonColon 28 ∷ word_at "A" 30 ∷ sign_at sign.Or 31 ∷ word_at "y" 32
    ∷ sign_at sign.CloseParenthesis 33 ∷ sign_at sign.CloseBracket 34 ∷ [])
    35 (tree_from 25 35 (Sequence (regular_from 27 33 (Alt (regulars_of (regular_from 27 31 (Capture
    (codes "x") (item (named_at "A" 30))) ∷ item (bound_at "y" 32) ∷ []))))))
    -- `[(x?)]`
    ∷ pattern 7 (sign_at sign.OpenBracket 25 ∷ sign_at sign.OpenParenthesis 26 ∷ word_at "x" 27
    ∷ sign_at sign.Question 28 ∷ sign_at sign.CloseParenthesis 29 ∷ sign_at sign.CloseBracket 30
    ∷ [])
    31 (tree_from 25 31 (Sequence (regular_from 27 29 (Repeat (item (bound_at "x" 27)) post.Opt))))
    -- `[('ab'*)]`
    ∷ pattern 7 (sign_at sign.OpenBracket 25 ∷ sign_at sign.OpenParenthesis 26 ∷ chars_at "ab" 27
    ∷ sign_at sign.Star 31 ∷ sign_at sign.CloseParenthesis 32 ∷ sign_at sign.CloseBracket 33 ∷ [])
    34 (tree_from 25 34 (Sequence (regular_from 27 32 (Repeat (regular_from 27 31 (Seq (regulars_of
    (letter_from 27 31 97 ∷ letter_from 27 31 98 ∷ [])))) post.Star))))
    -- `[('ab' x y)]`
    ∷ pattern 7 (sign_at sign.OpenBracket 25 ∷ sign_at sign.OpenParenthesis 26 ∷ chars_at "ab" 27
    ∷ word_at "x" 32 ∷ word_at "y" 34 ∷ sign_at sign.CloseParenthesis 35
    ∷ sign_at sign.CloseBracket 36 ∷ [])
    37 (tree_from 25 37 (Sequence (regular_from 27 35 (Seq (regulars_of (regular_from 27 31 (Seq
    (regulars_of (letter_from 27 31 97 ∷ letter_from 27 31 98 ∷ []))) ∷ item (bound_at "x" 32)
    ∷ item (bound_at "y" 34) ∷ []))))))
    -- `[((x y))]`
    ∷ pattern 8 (sign_at sign.OpenBracket 25 ∷ sign_at sign.OpenParenthesis 26
    ∷ sign_at sign.OpenParenthesis 27 ∷ word_at "x" 28 ∷ word_at "y" 30
    ∷ sign_at sign.CloseParenthesis 31 ∷ sign_at sign.CloseParenthesis 32
    ∷ sign_at sign.CloseBracket 33 ∷ [])
    34 (tree_from 25 34 (Sequence (regular_from 28 31 (Seq (regulars_of (item (bound_at "x" 28)
    ∷ item (bound_at "y" 30) ∷ []))))))
    ∷ []

-- patterns in parentheses in sequences
abbrev pub item_patterns : List ProgramExample
item_patterns =
    -- `[x&A\B]`
    pattern 6 (sign_at sign.OpenBracket 25 ∷ word_at "x" 26 ∷ sign_at sign.And 27 ∷ word_at "A" 28
    ∷ sign_at sign.Backslash 29 ∷ word_at "B" 30 ∷ sign_at sign.CloseBracket 31 ∷ [])
    32 (tree_from 25 32 (Sequence (item (tree_from 26 31 (Meet (bound_at "x" 26) (signs_of (kept
    (named_at "A" 28) ∷ taken_off (named_at "B" 30) ∷ [])))))))
    -- `[x\A&B]`
    ∷ pattern 6 (sign_at sign.OpenBracket 25 ∷ word_at "x" 26 ∷ sign_at sign.Backslash 27
    ∷ word_at "A" 28 ∷ sign_at sign.And 29 ∷ word_at "B" 30 ∷ sign_at sign.CloseBracket 31 ∷ [])
    32 (tree_from 25 32 (Sequence (item (tree_from 26 31 (Meet (bound_at "x" 26) (signs_of
    (taken_off (named_at "A" 28) ∷ kept (named_at "B" 30) ∷ [])))))))
    -- `[(x,y)]`
    ∷ pattern 7 (sign_at sign.OpenBracket 25 ∷ sign_at sign.OpenParenthesis 26 ∷ word_at "x" 27
    ∷ sign_at sign.Comma 28 ∷ word_at "y" 29 ∷ sign_at sign.CloseParenthesis 30
    ∷ sign_at sign.CloseBracket 31 ∷ [])
    32 (tree_from 25 32 (Sequence (item (tree_from 26 31 (Tuple (trees_of (bound_at "x" 27
    ∷ bound_at "y" 29 ∷ [])))))))
    -- `[(x,y,z)]`
    ∷ pattern 7 (sign_at sign.OpenBracket 25 ∷ sign_at sign.OpenParenthesis 26 ∷ word_at "x" 27
    ∷ sign_at sign.Comma 28 ∷ word_at "y" 29 ∷ sign_at sign.Comma 30 ∷ word_at "z" 31
    ∷ sign_at sign.CloseParenthesis 32 ∷ sign_at sign.CloseBracket 33 ∷ [])
    34 (tree_from 25 34 (Sequence (item (tree_from 26 33 (Tuple (trees_of (bound_at "x" 27
    ∷ bound_at "y" 29 ∷ bound_at "z" 31 ∷ [])))))))
    -- `[(x->y)]`
    ∷ pattern 8 (sign_at sign.OpenBracket 25 ∷ sign_at sign.OpenParenthesis 26 ∷ word_at "x" 27
    ∷ sign_at sign.Arrow 28 ∷ word_at "y" 30 ∷ sign_at sign.CloseParenthesis 31
    ∷ sign_at sign.CloseBracket 32 ∷ [])
    33 (tree_from 25 33 (Sequence (item (tree_from 27 31 (Arrows (trees_of (bound_at "x" 27
    ∷ bound_at "y" 30 ∷ [])))))))
    -- `[(x->y->z)]`
    ∷ pattern 9 (sign_at sign.OpenBracket 25 ∷ sign_at sign.OpenParenthesis 26 ∷ word_at "x" 27
    ∷ sign_at sign.Arrow 28 ∷ word_at "y" 30 ∷ sign_at sign.Arrow 31 ∷ word_at "z" 33
    ∷ sign_at sign.CloseParenthesis 34 ∷ sign_at sign.CloseBracket 35 ∷ [])
    36 (tree_from 25 36 (Sequence (item (tree_from 27 34 (Arrows (trees_of (bound_at "x" 27
    ∷ bound_at "y" 30 ∷ bound_at "z" 33 ∷ [])))))))
    -- `[(x where A=y)]`
    ∷ pattern 7 (sign_at sign.OpenBracket 25 ∷ sign_at sign.OpenParenthesis 26 ∷ word_at "x" 27
    ∷ word_at "where" 29 ∷ word_at "A" 35 ∷ sign_at sign.Equal 36 ∷ word_at "y" 37
    ∷ sign_at sign.CloseParenthesis 38 ∷ sign_at sign.CloseBracket 39 ∷ [])
    40 (tree_from 25 40 (Sequence (item (tree_from 27 38 (Where (bound_at "x" 27) (declarations_of
    (declared_at "A" 35 (bound_at "y" 37) ∷ [])))))))
    -- `[(x->y where A=z)]`
    ∷ pattern 8 (sign_at sign.OpenBracket 25 ∷ sign_at sign.OpenParenthesis 26 ∷ word_at "x" 27
    ∷ sign_at sign.Arrow 28 ∷ word_at "y" 30 ∷ word_at "where" 32 ∷ word_at "A" 38
    ∷ sign_at sign.Equal 39 ∷ word_at "z" 40 ∷ sign_at sign.CloseParenthesis 41
    ∷ sign_at sign.CloseBracket 42 ∷ [])
    43 (tree_from 25 43 (Sequence (item (tree_from 27 41 (Where (tree_from 27 31 (Arrows (trees_of
    (bound_at "x" 27 ∷ bound_at "y" 30 ∷ [])))) (declarations_of (declared_at "A" 38
    (bound_at "z" 40) ∷ [])))))))
    -- `[(x->y,z)]`
    ∷ pattern 8 (sign_at sign.OpenBracket 25 ∷ sign_at sign.OpenParenthesis 26 ∷ word_at "x" 27
    ∷ sign_at sign.Arrow 28 ∷ word_at "y" 30 ∷ sign_at sign.Comma 31 ∷ word_at "z" 32
    ∷ sign_at sign.CloseParenthesis 33 ∷ sign_at sign.CloseBracket 34 ∷ [])
    35 (tree_from 25 35 (Sequence (item (tree_from 26 34 (Tuple (trees_of (tree_from 27 31 (Arrows
    (trees_of (bound_at "x" 27 ∷ bound_at "y" 30 ∷ []))) ∷ bound_at "z" 32 ∷ [])))))))
    ∷ []
