-- Texts as their tokens, and the trees that they write.
use Rattle.std.specs.Prelude.{ℕ, ◌<◌, pos, List, [], ◌∷◌, ◌++◌, codes}
use Rattle.std.specs.Prelude.{Some, None}
use Rattle.cd_syntax.specs.declared.sign.Sign.TheVariants as sign
use Rattle.cd_syntax.specs.declared.tokens.Token.{Token}
use Rattle.cd_syntax.specs.declared.builtin.BuiltinName.TheVariants as builtin
use Rattle.cd_syntax.specs.declared.type_tree.Post.TheVariants as post
use Rattle.cd_syntax.specs.TypeTree.{Tree, Ints, Chars, Atom, Text, Tuple}
use Rattle.cd_syntax.specs.TypeTree.{Arrows, Union, Meet, Sequence, Record, Xml, Where}
use Rattle.cd_syntax.specs.TypeTree.{Declarations, Closed, Open, Typed}
use Rattle.cd_syntax.specs.TypeTree.{Nothing, Seq, Alt, Repeat}
use Rattle.cd_syntax.specs.TypeTree.{trees_of, signs_of, fields_of, declarations_of, regulars_of}
use Rattle.cd_grammar.specs.Language.{IsTree}
use Rattle.cd_grammar.specs.TreesAt.{sign_at, word_at, digit_at, chars_at, text_at, atom_at}
use Rattle.cd_grammar.specs.TreesAt.{tree_from, regular_from, number_at, named_at, built_in_at}
use Rattle.cd_grammar.specs.TreesAt.{ints_at, chars_type_at, any_at, kept, taken_off, field_at}
use Rattle.cd_grammar.specs.TreesAt.{optional_at, declared_at, no_attributes_at, item}
use Rattle.cd_grammar.specs.TreesAt.{letter_from}

-- `(1)`
abbrev pub group_tokens : List Token
group_tokens =
    sign_at sign.OpenParenthesis 0 ∷ digit_at 1 1 ∷ sign_at sign.CloseParenthesis 2 ∷ []

-- the tree of `(1)`: that of `1`, where `1` stands
abbrev pub group_tree : Tree
group_tree = number_at 1 1

-- `(1,2)`
abbrev pub tuple_tokens : List Token
tuple_tokens = sign_at sign.OpenParenthesis 0 ∷ digit_at 1 1 ∷ sign_at sign.Comma 2 ∷ digit_at 2 3
    ∷ sign_at sign.CloseParenthesis 4 ∷ []

-- the tree of `(1,2)`: a tuple, where its parentheses stand
abbrev pub tuple_tree : Tree
tuple_tree = tree_from 0 5 (Tuple (trees_of (number_at 1 1 ∷ number_at 2 3 ∷ [])))

-- `A->B->C`
abbrev pub arrows_tokens : List Token
arrows_tokens = word_at "A" 0 ∷ sign_at sign.Arrow 1 ∷ word_at "B" 3 ∷ sign_at sign.Arrow 4
    ∷ word_at "C" 6 ∷ []

-- the tree of `A->B->C`: one chain of three
abbrev pub arrows_tree : Tree
arrows_tree = tree_from 0 7
    (Arrows (trees_of (named_at "A" 0 ∷ named_at "B" 3 ∷ named_at "C" 6 ∷ [])))

-- `A->B`
abbrev pub arrow_tokens : List Token
arrow_tokens = word_at "A" 0 ∷ sign_at sign.Arrow 1 ∷ word_at "B" 3 ∷ []

-- `{a=Int;b=?_ ..}`
abbrev pub record_tokens : List Token
record_tokens = sign_at sign.OpenBrace 0 ∷ word_at "a" 1 ∷ sign_at sign.Equal 2 ∷ word_at "Int" 3
    ∷ sign_at sign.Semicolon 6 ∷ word_at "b" 7 ∷ sign_at sign.EqualQuestion 8 ∷ word_at "_" 10
    ∷ sign_at sign.Dots 12 ∷ sign_at sign.CloseBrace 14 ∷ []

-- the tree of `{a=Int;b=?_ ..}`: the second field may be absent, and others may stand beside the
-- two
abbrev pub record_tree : Tree
record_tree = tree_from 0 15
    (Record (fields_of (field_at "a" 1 (ints_at 3) ∷ optional_at "b" 7 (any_at 10) ∷ [])) Open)

-- `X where X=1|(X,X)`
abbrev pub where_tokens : List Token
where_tokens = word_at "X" 0 ∷ word_at "where" 2 ∷ word_at "X" 8 ∷ sign_at sign.Equal 9
    ∷ digit_at 1 10 ∷ sign_at sign.Or 11 ∷ sign_at sign.OpenParenthesis 12 ∷ word_at "X" 13
    ∷ sign_at sign.Comma 14 ∷ word_at "X" 15 ∷ sign_at sign.CloseParenthesis 16 ∷ []

-- the tree of `X where X=1|(X,X)`
abbrev pub where_tree : Tree
where_tree = tree_from 0 17 (Where (named_at "X" 0) (declarations_of (declared_at "X" 8
    (tree_from 10 17 (Union (trees_of (number_at 1 10
    ∷ tree_from 12 17 (Tuple (trees_of (named_at "X" 13 ∷ named_at "X" 15 ∷ []))) ∷ [])))) ∷ [])))

-- `1&2\3|4`
abbrev pub signs_tokens : List Token
signs_tokens = digit_at 1 0 ∷ sign_at sign.And 1 ∷ digit_at 2 2 ∷ sign_at sign.Backslash 3
    ∷ digit_at 3 4 ∷ sign_at sign.Or 5 ∷ digit_at 4 6 ∷ []

-- the tree of `1&2\3|4`: `&` and `\` bind first
abbrev pub signs_tree : Tree
signs_tree = tree_from 0 7 (Union (trees_of (tree_from 0 5
    (Meet (number_at 1 0) (signs_of (kept (number_at 2 2) ∷ taken_off (number_at 3 4) ∷ [])))
    ∷ number_at 4 6 ∷ [])))

-- `'a'--'z'`
abbrev pub characters_tokens : List Token
characters_tokens = chars_at "a" 0 ∷ sign_at sign.To 3 ∷ chars_at "z" 5 ∷ []

-- the tree of `'a'--'z'`
abbrev pub characters_tree : Tree
characters_tree = tree_from 0 8 (Chars 97 122)

-- `*--5`
abbrev pub at_most_tokens : List Token
at_most_tokens = sign_at sign.StarTo 0 ∷ digit_at 5 3 ∷ []

-- the tree of `*--5`
abbrev pub at_most_tree : Tree
at_most_tree = tree_from 0 4 (Ints None (Some (pos 5)))

-- `5--*`
abbrev pub at_least_tokens : List Token
at_least_tokens = digit_at 5 0 ∷ sign_at sign.ToStar 1 ∷ []

-- the tree of `5--*`
abbrev pub at_least_tree : Tree
at_least_tree = tree_from 0 4 (Ints (Some (pos 5)) None)

-- `type A=Int;;type B=A`
abbrev pub declared_tokens : List Token
declared_tokens = word_at "type" 0 ∷ word_at "A" 5 ∷ sign_at sign.Equal 6 ∷ word_at "Int" 7
    ∷ sign_at sign.Semicolons 10 ∷ word_at "type" 12 ∷ word_at "B" 17 ∷ sign_at sign.Equal 18
    ∷ word_at "A" 19 ∷ []

-- the declarations of `type A=Int;;type B=A`
abbrev pub declared_declarations : Declarations
declared_declarations =
    declarations_of (declared_at "A" 5 (ints_at 7) ∷ declared_at "B" 17 (named_at "A" 19) ∷ [])

-- `(1)->2`
abbrev pub argument_tokens : List Token
argument_tokens = sign_at sign.OpenParenthesis 0 ∷ digit_at 1 1 ∷ sign_at sign.CloseParenthesis 2
    ∷ sign_at sign.Arrow 3 ∷ digit_at 2 5 ∷ []

-- the tree of `(1)->2`
abbrev pub argument_tree : Tree
argument_tree = tree_from 0 6 (Arrows (trees_of (number_at 1 1 ∷ number_at 2 5 ∷ [])))

-- `[Int* 'ab']`
abbrev pub sequence_tokens : List Token
sequence_tokens = sign_at sign.OpenBracket 0 ∷ word_at "Int" 1 ∷ sign_at sign.Star 4
    ∷ chars_at "ab" 6 ∷ sign_at sign.CloseBracket 10 ∷ []

abbrev pub sequence_tree : Tree
sequence_tree = tree_from 0 11 (Sequence (regular_from 1 10 (Seq (regulars_of
    (regular_from 1 5 (Repeat (item (ints_at 1)) post.Star)
    ∷ regular_from 6 10 (Seq (regulars_of (letter_from 6 10 97 ∷ letter_from 6 10 98 ∷ [])))
    ∷ [])))))

-- `[(A|B)&C]`: a union of types, which `&` may follow
abbrev pub union_tokens : List Token
union_tokens = sign_at sign.OpenBracket 0 ∷ sign_at sign.OpenParenthesis 1 ∷ word_at "A" 2
    ∷ sign_at sign.Or 3 ∷ word_at "B" 4 ∷ sign_at sign.CloseParenthesis 5 ∷ sign_at sign.And 6
    ∷ word_at "C" 7 ∷ sign_at sign.CloseBracket 8 ∷ []

abbrev pub union_tree : Tree
union_tree = tree_from 0 9 (Sequence (item (tree_from 1 8 (Meet
    (tree_from 2 5 (Union (trees_of (named_at "A" 2 ∷ named_at "B" 4 ∷ []))))
    (signs_of (kept (named_at "C" 7) ∷ []))))))

-- `[(A B)?]`: a group, and `[(A B)&C]`, which is none
abbrev pub group_front : List Token
group_front = sign_at sign.OpenBracket 0 ∷ sign_at sign.OpenParenthesis 1 ∷ word_at "A" 2
    ∷ word_at "B" 4 ∷ sign_at sign.CloseParenthesis 5 ∷ []

abbrev pub group_sequence_tokens : List Token
group_sequence_tokens =
    group_front ++ sign_at sign.Question 6 ∷ sign_at sign.CloseBracket 7 ∷ []

abbrev pub group_sequence_tree : Tree
group_sequence_tree = tree_from 0 8 (Sequence (regular_from 1 7 (Repeat
    (regular_from 2 5 (Seq (regulars_of (item (named_at "A" 2) ∷ item (named_at "B" 4) ∷ []))))
    post.Opt)))

-- `[(A->B)C]`: an arrow in parentheses is a type
abbrev pub arrow_item_tokens : List Token
arrow_item_tokens = sign_at sign.OpenBracket 0 ∷ sign_at sign.OpenParenthesis 1 ∷ word_at "A" 2
    ∷ sign_at sign.Arrow 3 ∷ word_at "B" 5 ∷ sign_at sign.CloseParenthesis 6 ∷ word_at "C" 7
    ∷ sign_at sign.CloseBracket 8 ∷ []

abbrev pub arrow_item_tree : Tree
arrow_item_tree = tree_from 0 9 (Sequence (regular_from 1 8 (Seq (regulars_of
    (item (tree_from 2 6 (Arrows (trees_of (named_at "A" 2 ∷ named_at "B" 5 ∷ []))))
    ∷ item (named_at "C" 7) ∷ [])))))

-- `<a x=Int;..>[]`, and `<_>_`, whose attributes stand where they end
abbrev pub xml_tokens : List Token
xml_tokens = sign_at sign.Less 0 ∷ word_at "a" 1 ∷ word_at "x" 3 ∷ sign_at sign.Equal 4
    ∷ word_at "Int" 5 ∷ sign_at sign.Semicolon 8 ∷ sign_at sign.Dots 9 ∷ sign_at sign.Greater 11
    ∷ sign_at sign.OpenBracket 12 ∷ sign_at sign.CloseBracket 13 ∷ []

abbrev pub xml_tree : Tree
xml_tree = tree_from 0 14 (Xml (tree_from 1 2 (Atom (codes "a")))
    (tree_from 3 11 (Record (fields_of (field_at "x" 3 (ints_at 5) ∷ [])) Open))
    (tree_from 12 14 (Sequence (regular_from 13 13 Nothing))))

abbrev pub any_xml_tokens : List Token
any_xml_tokens =
    sign_at sign.Less 0 ∷ word_at "_" 1 ∷ sign_at sign.Greater 2 ∷ word_at "_" 3 ∷ []

abbrev pub any_xml_tree : Tree
any_xml_tree = tree_from 0 4 (Xml (any_at 1) (no_attributes_at 2) (any_at 3))

-- `[A|(B C)]`: a group that is an alternative stands from its first item on
abbrev pub alternative_tokens : List Token
alternative_tokens = sign_at sign.OpenBracket 0 ∷ word_at "A" 1 ∷ sign_at sign.Or 2
    ∷ sign_at sign.OpenParenthesis 3 ∷ word_at "B" 4 ∷ word_at "C" 6
    ∷ sign_at sign.CloseParenthesis 7 ∷ sign_at sign.CloseBracket 8 ∷ []

abbrev pub alternative_tree : Tree
alternative_tree = tree_from 0 9 (Sequence (regular_from 1 8 (Alt (regulars_of
    (item (named_at "A" 1)
    ∷ regular_from 4 7 (Seq (regulars_of (item (named_at "B" 4) ∷ item (named_at "C" 6) ∷ [])))
    ∷ [])))))

-- `[(A|'bc')]`: a group, since one of its alternatives is
abbrev pub mixed_tokens : List Token
mixed_tokens = sign_at sign.OpenBracket 0 ∷ sign_at sign.OpenParenthesis 1 ∷ word_at "A" 2
    ∷ sign_at sign.Or 3 ∷ chars_at "bc" 4 ∷ sign_at sign.CloseParenthesis 8
    ∷ sign_at sign.CloseBracket 9 ∷ []

abbrev pub mixed_tree : Tree
mixed_tree = tree_from 0 10 (Sequence (regular_from 2 8 (Alt (regulars_of
    (item (named_at "A" 2)
    ∷ regular_from 4 8 (Seq (regulars_of (letter_from 4 8 98 ∷ letter_from 4 8 99 ∷ [])))
    ∷ [])))))

-- `[((A|B)|C)]`: a union in a union
abbrev pub nested_tokens : List Token
nested_tokens = sign_at sign.OpenBracket 0 ∷ sign_at sign.OpenParenthesis 1
    ∷ sign_at sign.OpenParenthesis 2 ∷ word_at "A" 3 ∷ sign_at sign.Or 4 ∷ word_at "B" 5
    ∷ sign_at sign.CloseParenthesis 6 ∷ sign_at sign.Or 7 ∷ word_at "C" 8
    ∷ sign_at sign.CloseParenthesis 9 ∷ sign_at sign.CloseBracket 10 ∷ []

abbrev pub nested_tree : Tree
nested_tree = tree_from 0 11 (Sequence (item (tree_from 2 9 (Union (trees_of
    (tree_from 3 6 (Union (trees_of (named_at "A" 3 ∷ named_at "B" 5 ∷ [])))
    ∷ named_at "C" 8 ∷ []))))))

-- `<(A)(B)>C`: a type of tags and one of attributes, without their parentheses
abbrev pub typed_xml_tokens : List Token
typed_xml_tokens = sign_at sign.Less 0 ∷ sign_at sign.OpenParenthesis 1 ∷ word_at "A" 2
    ∷ sign_at sign.CloseParenthesis 3 ∷ sign_at sign.OpenParenthesis 4 ∷ word_at "B" 5
    ∷ sign_at sign.CloseParenthesis 6 ∷ sign_at sign.Greater 7 ∷ word_at "C" 8 ∷ []

abbrev pub typed_xml_tree : Tree
typed_xml_tree = tree_from 0 9 (Xml (named_at "A" 2) (named_at "B" 5) (named_at "C" 8))

-- `<_><_>_`: the inner type stands in the content of the outer one
abbrev pub content_tokens : List Token
content_tokens = sign_at sign.Less 0 ∷ word_at "_" 1 ∷ sign_at sign.Greater 2 ∷ sign_at sign.Less 3
    ∷ word_at "_" 4 ∷ sign_at sign.Greater 5 ∷ word_at "_" 6 ∷ []

-- `<_(A)>_`
abbrev pub attributes_tokens : List Token
attributes_tokens = sign_at sign.Less 0 ∷ word_at "_" 1 ∷ sign_at sign.OpenParenthesis 2
    ∷ word_at "A" 3 ∷ sign_at sign.CloseParenthesis 4 ∷ sign_at sign.Greater 5 ∷ word_at "_" 6 ∷ []

-- `{let=Int}`: a keyword is a label, and opens nothing
abbrev pub keyword_tokens : List Token
keyword_tokens = sign_at sign.OpenBrace 0 ∷ word_at "let" 1 ∷ sign_at sign.Equal 4
    ∷ word_at "Int" 5 ∷ sign_at sign.CloseBrace 8 ∷ []

abbrev pub keyword_tree : Tree
keyword_tree = tree_from 0 9 (Record (fields_of (field_at "let" 1 (ints_at 5) ∷ [])) Closed)

-- A text, the tree that it writes, and how deep it is
pub record Example : Type 0 where
  pub depth : ℕ
  pub tokens : List Token
  pub is : Tree

-- it writes the tree at this depth, and none at a smaller one
abbrev pub IsExample : Example → Type 0
IsExample one =
    IsTree one.depth one.tokens one.is
    × ((less : ℕ) (other : Tree) → less < one.depth → IsTree less one.tokens other → ⊥)

abbrev pub AreExamples : List Example → Type 0
AreExamples [] = Unit {0}
AreExamples (one ∷ rest) = IsExample one × AreExamples rest

abbrev example : (depth : ℕ) → List Token → Tree → Example
example depth tokens is = record { depth = depth; tokens = tokens; is = is }

-- constants, intervals and names
abbrev pub constant_texts : List Example
constant_texts =
    -- `1--2`
    example 0 (digit_at 1 0 ∷ sign_at sign.To 1 ∷ digit_at 2 3 ∷ [])
    (tree_from 0 4 (Ints (Some (pos 1)) (Some (pos 2))))
    -- `1--*`
    ∷ example 0 (digit_at 1 0 ∷ sign_at sign.ToStar 1 ∷ [])
    (tree_from 0 4 (Ints (Some (pos 1)) None))
    -- `*--2`
    ∷ example 0 (sign_at sign.StarTo 0 ∷ digit_at 2 3 ∷ [])
    (tree_from 0 4 (Ints None (Some (pos 2))))
    -- `'a'`
    ∷ example 0 (chars_at "a" 0 ∷ []) (tree_from 0 3 (Chars 97 97))
    -- `'a'--'b'`
    ∷ example 0 (chars_at "a" 0 ∷ sign_at sign.To 3 ∷ chars_at "b" 5 ∷ [])
    (tree_from 0 8 (Chars 97 98))
    -- `"ab"`
    ∷ example 0 (text_at "ab" 0 ∷ []) (tree_from 0 4 (Text (codes "ab")))
    -- `` `a ``
    ∷ example 0 (atom_at "a" 0 ∷ []) (tree_from 0 2 (Atom (codes "a")))
    -- `_`
    ∷ example 0 (word_at "_" 0 ∷ []) (any_at 0)
    -- `Any|Empty|Int|Char|Byte|Atom|Bool|String|Arrow|Pair|Record|AnyXml|Data`
    ∷ example 0 (word_at "Any" 0 ∷ sign_at sign.Or 3 ∷ word_at "Empty" 4 ∷ sign_at sign.Or 9
    ∷ word_at "Int" 10 ∷ sign_at sign.Or 13 ∷ word_at "Char" 14 ∷ sign_at sign.Or 18
    ∷ word_at "Byte" 19 ∷ sign_at sign.Or 23 ∷ word_at "Atom" 24 ∷ sign_at sign.Or 28
    ∷ word_at "Bool" 29 ∷ sign_at sign.Or 33 ∷ word_at "String" 34 ∷ sign_at sign.Or 40
    ∷ word_at "Arrow" 41 ∷ sign_at sign.Or 46 ∷ word_at "Pair" 47 ∷ sign_at sign.Or 51
    ∷ word_at "Record" 52 ∷ sign_at sign.Or 58 ∷ word_at "AnyXml" 59 ∷ sign_at sign.Or 65
    ∷ word_at "Data" 66 ∷ [])
    (tree_from 0 70 (Union (trees_of (built_in_at "Any" builtin.Any 0
    ∷ built_in_at "Empty" builtin.Empty 4 ∷ ints_at 10 ∷ chars_type_at 14
    ∷ built_in_at "Byte" builtin.Byte 19 ∷ built_in_at "Atom" builtin.Atom 24
    ∷ built_in_at "Bool" builtin.Bool 29 ∷ built_in_at "String" builtin.String 34
    ∷ built_in_at "Arrow" builtin.Arrow 41 ∷ built_in_at "Pair" builtin.Pair 47
    ∷ built_in_at "Record" builtin.Record 52 ∷ built_in_at "AnyXml" builtin.AnyXml 59
    ∷ built_in_at "Data" builtin.Data 66 ∷ []))))
    ∷ []

-- signs between types: a chain in parentheses is a node of its own
abbrev pub chain_texts : List Example
chain_texts =
    -- `A where A = Int and B = Char`
    example 0 (word_at "A" 0 ∷ word_at "where" 2 ∷ word_at "A" 8 ∷ sign_at sign.Equal 10
    ∷ word_at "Int" 12 ∷ word_at "and" 16 ∷ word_at "B" 20 ∷ sign_at sign.Equal 22
    ∷ word_at "Char" 24 ∷ [])
    (tree_from 0 28 (Where (named_at "A" 0) (declarations_of
    (declared_at "A" 8 (ints_at 12) ∷ declared_at "B" 20 (chars_type_at 24) ∷ []))))
    -- `(A->B)&C`
    ∷ example 2 (sign_at sign.OpenParenthesis 0 ∷ word_at "A" 1 ∷ sign_at sign.Arrow 2
    ∷ word_at "B" 4 ∷ sign_at sign.CloseParenthesis 5 ∷ sign_at sign.And 6 ∷ word_at "C" 7 ∷ [])
    (tree_from 0 8 (Meet (tree_from 1 5 (Arrows (trees_of (named_at "A" 1 ∷ named_at "B" 4 ∷ []))))
    (signs_of (kept (named_at "C" 7) ∷ []))))
    -- `A|(B|C)`
    ∷ example 1 (word_at "A" 0 ∷ sign_at sign.Or 1 ∷ sign_at sign.OpenParenthesis 2
    ∷ word_at "B" 3 ∷ sign_at sign.Or 4 ∷ word_at "C" 5 ∷ sign_at sign.CloseParenthesis 6 ∷ [])
    (tree_from 0 7 (Union (trees_of (named_at "A" 0
    ∷ tree_from 3 6 (Union (trees_of (named_at "B" 3 ∷ named_at "C" 5 ∷ []))) ∷ []))))
    -- `((1,2),3)`
    ∷ example 2 (sign_at sign.OpenParenthesis 0 ∷ sign_at sign.OpenParenthesis 1 ∷ digit_at 1 2
    ∷ sign_at sign.Comma 3 ∷ digit_at 2 4 ∷ sign_at sign.CloseParenthesis 5 ∷ sign_at sign.Comma 6
    ∷ digit_at 3 7 ∷ sign_at sign.CloseParenthesis 8 ∷ [])
    (tree_from 0 9 (Tuple (trees_of
    (tree_from 1 6 (Tuple (trees_of (number_at 1 2 ∷ number_at 2 4 ∷ [])))
    ∷ number_at 3 7 ∷ []))))
    ∷ []

-- records
abbrev pub record_texts : List Example
record_texts =
    -- `{}`
    example 1 (sign_at sign.OpenBrace 0 ∷ sign_at sign.CloseBrace 1 ∷ [])
    (tree_from 0 2 (Record (fields_of []) Closed))
    -- `{..}`
    ∷ example 1 (sign_at sign.OpenBrace 0 ∷ sign_at sign.Dots 1 ∷ sign_at sign.CloseBrace 3 ∷ [])
    (tree_from 0 4 (Record (fields_of []) Open))
    -- `{a=Int; ..}`
    ∷ example 1 (sign_at sign.OpenBrace 0 ∷ word_at "a" 1 ∷ sign_at sign.Equal 2
    ∷ word_at "Int" 3 ∷ sign_at sign.Semicolon 6 ∷ sign_at sign.Dots 8
    ∷ sign_at sign.CloseBrace 10 ∷ [])
    (tree_from 0 11 (Record (fields_of (field_at "a" 1 (ints_at 3) ∷ [])) Open))
    -- `{a=?Int;}`
    ∷ example 1 (sign_at sign.OpenBrace 0 ∷ word_at "a" 1 ∷ sign_at sign.EqualQuestion 2
    ∷ word_at "Int" 4 ∷ sign_at sign.Semicolon 7 ∷ sign_at sign.CloseBrace 8 ∷ [])
    (tree_from 0 9 (Record (fields_of (optional_at "a" 1 (ints_at 4) ∷ [])) Closed))
    -- `{a=1|2;A=3}`
    ∷ example 1 (sign_at sign.OpenBrace 0 ∷ word_at "a" 1 ∷ sign_at sign.Equal 2 ∷ digit_at 1 3
    ∷ sign_at sign.Or 4 ∷ digit_at 2 5 ∷ sign_at sign.Semicolon 6 ∷ word_at "A" 7
    ∷ sign_at sign.Equal 8 ∷ digit_at 3 9 ∷ sign_at sign.CloseBrace 10 ∷ [])
    (tree_from 0 11 (Record (fields_of
    (field_at "a" 1 (tree_from 3 6 (Union (trees_of (number_at 1 3 ∷ number_at 2 5 ∷ []))))
    ∷ field_at "A" 7 (number_at 3 9) ∷ [])) Closed))
    -- `{_=?Int}`
    ∷ example 1 (sign_at sign.OpenBrace 0 ∷ word_at "_" 1 ∷ sign_at sign.EqualQuestion 2
    ∷ word_at "Int" 4 ∷ sign_at sign.CloseBrace 7 ∷ [])
    (tree_from 0 8 (Record (fields_of []) (Typed (ints_at 4))))
    -- `{a=1 _=?Int}`
    ∷ example 1 (sign_at sign.OpenBrace 0 ∷ word_at "a" 1 ∷ sign_at sign.Equal 2 ∷ digit_at 1 3
    ∷ word_at "_" 5 ∷ sign_at sign.EqualQuestion 6 ∷ word_at "Int" 8 ∷ sign_at sign.CloseBrace 11
    ∷ [])
    (tree_from 0 12 (Record (fields_of (field_at "a" 1 (number_at 1 3) ∷ [])) (Typed (ints_at 8))))
    -- `{a=1; _=?A|B}`
    ∷ example 1 (sign_at sign.OpenBrace 0 ∷ word_at "a" 1 ∷ sign_at sign.Equal 2 ∷ digit_at 1 3
    ∷ sign_at sign.Semicolon 4 ∷ word_at "_" 6 ∷ sign_at sign.EqualQuestion 7 ∷ word_at "A" 9
    ∷ sign_at sign.Or 10 ∷ word_at "B" 11 ∷ sign_at sign.CloseBrace 12 ∷ [])
    (tree_from 0 13 (Record (fields_of (field_at "a" 1 (number_at 1 3) ∷ [])) (Typed (tree_from 9 12
    (Union (trees_of (named_at "A" 9 ∷ named_at "B" 11 ∷ [])))))))
    ∷ []

-- XML types: the type of an attribute and the content end as soon as they can
abbrev pub xml_texts : List Example
xml_texts =
    -- `<a x=Int y=?Int; ..>[]`
    example 2 (sign_at sign.Less 0 ∷ word_at "a" 1 ∷ word_at "x" 3 ∷ sign_at sign.Equal 4
    ∷ word_at "Int" 5 ∷ word_at "y" 9 ∷ sign_at sign.EqualQuestion 10 ∷ word_at "Int" 12
    ∷ sign_at sign.Semicolon 15 ∷ sign_at sign.Dots 17 ∷ sign_at sign.Greater 19
    ∷ sign_at sign.OpenBracket 20 ∷ sign_at sign.CloseBracket 21 ∷ [])
    (tree_from 0 22 (Xml (tree_from 1 2 (Atom (codes "a")))
    (tree_from 3 19 (Record (fields_of
    (field_at "x" 3 (ints_at 5) ∷ optional_at "y" 9 (ints_at 12) ∷ [])) Open))
    (tree_from 20 22 (Sequence (regular_from 21 21 Nothing)))))
    -- `<_ ({..})>Int`
    ∷ example 3 (sign_at sign.Less 0 ∷ word_at "_" 1 ∷ sign_at sign.OpenParenthesis 3
    ∷ sign_at sign.OpenBrace 4 ∷ sign_at sign.Dots 5 ∷ sign_at sign.CloseBrace 7
    ∷ sign_at sign.CloseParenthesis 8 ∷ sign_at sign.Greater 9 ∷ word_at "Int" 10 ∷ [])
    (tree_from 0 13
    (Xml (any_at 1) (tree_from 4 8 (Record (fields_of []) Open)) (ints_at 10)))
    -- ``<(`a) ..>_``
    ∷ example 2 (sign_at sign.Less 0 ∷ sign_at sign.OpenParenthesis 1 ∷ atom_at "a" 2
    ∷ sign_at sign.CloseParenthesis 4 ∷ sign_at sign.Dots 6 ∷ sign_at sign.Greater 8
    ∷ word_at "_" 9 ∷ [])
    (tree_from 0 10 (Xml (tree_from 2 4 (Atom (codes "a")))
    (tree_from 6 8 (Record (fields_of []) Open)) (any_at 9)))
    -- `<a>A|B`
    ∷ example 1 (sign_at sign.Less 0 ∷ word_at "a" 1 ∷ sign_at sign.Greater 2 ∷ word_at "A" 3
    ∷ sign_at sign.Or 4 ∷ word_at "B" 5 ∷ [])
    (tree_from 0 6 (Union (trees_of
    (tree_from 0 4 (Xml (tree_from 1 2 (Atom (codes "a"))) (no_attributes_at 2) (named_at "A" 3))
    ∷ named_at "B" 5 ∷ []))))
    -- `<A x=(1|2)>(3,4)`
    ∷ example 2 (sign_at sign.Less 0 ∷ word_at "A" 1 ∷ word_at "x" 3 ∷ sign_at sign.Equal 4
    ∷ sign_at sign.OpenParenthesis 5 ∷ digit_at 1 6 ∷ sign_at sign.Or 7 ∷ digit_at 2 8
    ∷ sign_at sign.CloseParenthesis 9 ∷ sign_at sign.Greater 10 ∷ sign_at sign.OpenParenthesis 11
    ∷ digit_at 3 12 ∷ sign_at sign.Comma 13 ∷ digit_at 4 14 ∷ sign_at sign.CloseParenthesis 15
    ∷ [])
    (tree_from 0 16 (Xml (tree_from 1 2 (Atom (codes "A")))
    (tree_from 3 10 (Record (fields_of (field_at "x" 3
    (tree_from 6 9 (Union (trees_of (number_at 1 6 ∷ number_at 2 8 ∷ [])))) ∷ [])) Closed))
    (tree_from 11 16 (Tuple (trees_of (number_at 3 12 ∷ number_at 4 14 ∷ []))))))
    -- `<a x=1;y=2;>_`
    ∷ example 1 (sign_at sign.Less 0 ∷ word_at "a" 1 ∷ word_at "x" 3 ∷ sign_at sign.Equal 4
    ∷ digit_at 1 5 ∷ sign_at sign.Semicolon 6 ∷ word_at "y" 7 ∷ sign_at sign.Equal 8
    ∷ digit_at 2 9 ∷ sign_at sign.Semicolon 10 ∷ sign_at sign.Greater 11 ∷ word_at "_" 12 ∷ [])
    (tree_from 0 13 (Xml (tree_from 1 2 (Atom (codes "a")))
    (tree_from 3 11 (Record (fields_of
    (field_at "x" 3 (number_at 1 5) ∷ field_at "y" 7 (number_at 2 9) ∷ [])) Closed))
    (any_at 12)))
    -- `<a x=1 ..>_`
    ∷ example 1 (sign_at sign.Less 0 ∷ word_at "a" 1 ∷ word_at "x" 3 ∷ sign_at sign.Equal 4
    ∷ digit_at 1 5 ∷ sign_at sign.Dots 7 ∷ sign_at sign.Greater 9 ∷ word_at "_" 10 ∷ [])
    (tree_from 0 11 (Xml (tree_from 1 2 (Atom (codes "a")))
    (tree_from 3 9 (Record (fields_of (field_at "x" 3 (number_at 1 5) ∷ [])) Open)) (any_at 10)))
    -- `<a _=?Int>_`
    ∷ example 1 (sign_at sign.Less 0 ∷ word_at "a" 1 ∷ word_at "_" 3 ∷ sign_at sign.EqualQuestion 4
    ∷ word_at "Int" 6 ∷ sign_at sign.Greater 9 ∷ word_at "_" 10 ∷ [])
    (tree_from 0 11 (Xml (tree_from 1 2 (Atom (codes "a"))) (tree_from 3 9 (Record (fields_of [])
    (Typed (ints_at 6)))) (any_at 10)))
    -- `<a x=1 _=?Int>_`
    ∷ example 1 (sign_at sign.Less 0 ∷ word_at "a" 1 ∷ word_at "x" 3 ∷ sign_at sign.Equal 4
    ∷ digit_at 1 5 ∷ word_at "_" 7 ∷ sign_at sign.EqualQuestion 8 ∷ word_at "Int" 10
    ∷ sign_at sign.Greater 13 ∷ word_at "_" 14 ∷ [])
    (tree_from 0 15 (Xml (tree_from 1 2 (Atom (codes "a"))) (tree_from 3 13 (Record (fields_of
    (field_at "x" 3 (number_at 1 5) ∷ [])) (Typed (ints_at 10)))) (any_at 14)))
    -- `<a x=1; _=?(1|2)>_`
    ∷ example 2 (sign_at sign.Less 0 ∷ word_at "a" 1 ∷ word_at "x" 3 ∷ sign_at sign.Equal 4
    ∷ digit_at 1 5 ∷ sign_at sign.Semicolon 6 ∷ word_at "_" 8 ∷ sign_at sign.EqualQuestion 9
    ∷ sign_at sign.OpenParenthesis 11 ∷ digit_at 1 12 ∷ sign_at sign.Or 13 ∷ digit_at 2 14
    ∷ sign_at sign.CloseParenthesis 15 ∷ sign_at sign.Greater 16 ∷ word_at "_" 17 ∷ [])
    (tree_from 0 18 (Xml (tree_from 1 2 (Atom (codes "a"))) (tree_from 3 16 (Record (fields_of
    (field_at "x" 3 (number_at 1 5) ∷ [])) (Typed (tree_from 12 15 (Union (trees_of (number_at 1 12
    ∷ number_at 2 14 ∷ []))))))) (any_at 17)))
    ∷ []

-- each keyword is a label
abbrev pub keyword_texts : List Example
keyword_texts =
    -- `<type let=_ fun=_ in=_ match=_ with=_ if=_>_`
    example 1 (sign_at sign.Less 0 ∷ word_at "type" 1 ∷ word_at "let" 6 ∷ sign_at sign.Equal 9
    ∷ word_at "_" 10 ∷ word_at "fun" 12 ∷ sign_at sign.Equal 15 ∷ word_at "_" 16
    ∷ word_at "in" 18 ∷ sign_at sign.Equal 20 ∷ word_at "_" 21 ∷ word_at "match" 23
    ∷ sign_at sign.Equal 28 ∷ word_at "_" 29 ∷ word_at "with" 31 ∷ sign_at sign.Equal 35
    ∷ word_at "_" 36 ∷ word_at "if" 38 ∷ sign_at sign.Equal 40 ∷ word_at "_" 41
    ∷ sign_at sign.Greater 42 ∷ word_at "_" 43 ∷ [])
    (tree_from 0 44 (Xml (tree_from 1 5 (Atom (codes "type")))
    (tree_from 6 42 (Record (fields_of (field_at "let" 6 (any_at 10)
    ∷ field_at "fun" 12 (any_at 16) ∷ field_at "in" 18 (any_at 21)
    ∷ field_at "match" 23 (any_at 29) ∷ field_at "with" 31 (any_at 36)
    ∷ field_at "if" 38 (any_at 41) ∷ [])) Closed)) (any_at 43)))
    -- `<then else=_ try=_ map=_ transform=_ where=_ and=_>_`
    ∷ example 1 (sign_at sign.Less 0 ∷ word_at "then" 1 ∷ word_at "else" 6 ∷ sign_at sign.Equal 10
    ∷ word_at "_" 11 ∷ word_at "try" 13 ∷ sign_at sign.Equal 16 ∷ word_at "_" 17
    ∷ word_at "map" 19 ∷ sign_at sign.Equal 22 ∷ word_at "_" 23 ∷ word_at "transform" 25
    ∷ sign_at sign.Equal 34 ∷ word_at "_" 35 ∷ word_at "where" 37 ∷ sign_at sign.Equal 42
    ∷ word_at "_" 43 ∷ word_at "and" 45 ∷ sign_at sign.Equal 48 ∷ word_at "_" 49
    ∷ sign_at sign.Greater 50 ∷ word_at "_" 51 ∷ [])
    (tree_from 0 52 (Xml (tree_from 1 5 (Atom (codes "then")))
    (tree_from 6 50 (Record (fields_of (field_at "else" 6 (any_at 11)
    ∷ field_at "try" 13 (any_at 17) ∷ field_at "map" 19 (any_at 23)
    ∷ field_at "transform" 25 (any_at 35) ∷ field_at "where" 37 (any_at 43)
    ∷ field_at "and" 45 (any_at 49) ∷ [])) Closed)) (any_at 51)))
    -- `<div mod=_ not=_ flatten=_ int_of=_ string_of=_ raise=_>_`
    ∷ example 1 (sign_at sign.Less 0 ∷ word_at "div" 1 ∷ word_at "mod" 5 ∷ sign_at sign.Equal 8
    ∷ word_at "_" 9 ∷ word_at "not" 11 ∷ sign_at sign.Equal 14 ∷ word_at "_" 15
    ∷ word_at "flatten" 17 ∷ sign_at sign.Equal 24 ∷ word_at "_" 25 ∷ word_at "int_of" 27
    ∷ sign_at sign.Equal 33 ∷ word_at "_" 34 ∷ word_at "string_of" 36 ∷ sign_at sign.Equal 45
    ∷ word_at "_" 46 ∷ word_at "raise" 48 ∷ sign_at sign.Equal 53 ∷ word_at "_" 54
    ∷ sign_at sign.Greater 55 ∷ word_at "_" 56 ∷ [])
    (tree_from 0 57 (Xml (tree_from 1 4 (Atom (codes "div")))
    (tree_from 5 55 (Record (fields_of (field_at "mod" 5 (any_at 9)
    ∷ field_at "not" 11 (any_at 15) ∷ field_at "flatten" 17 (any_at 25)
    ∷ field_at "int_of" 27 (any_at 34) ∷ field_at "string_of" 36 (any_at 46)
    ∷ field_at "raise" 48 (any_at 54) ∷ [])) Closed)) (any_at 56)))
    -- `<min_of max_of=_ select=_ from=_>_`
    ∷ example 1 (sign_at sign.Less 0 ∷ word_at "min_of" 1 ∷ word_at "max_of" 8
    ∷ sign_at sign.Equal 14 ∷ word_at "_" 15 ∷ word_at "select" 17 ∷ sign_at sign.Equal 23
    ∷ word_at "_" 24 ∷ word_at "from" 26 ∷ sign_at sign.Equal 30 ∷ word_at "_" 31
    ∷ sign_at sign.Greater 32 ∷ word_at "_" 33 ∷ [])
    (tree_from 0 34 (Xml (tree_from 1 7 (Atom (codes "min_of"))) (tree_from 8 32 (Record (fields_of
    (field_at "max_of" 8 (any_at 15) ∷ field_at "select" 17 (any_at 24) ∷ field_at "from" 26
    (any_at 31) ∷ [])) Closed)) (any_at 33)))
    ∷ []

-- sequences
abbrev pub sequence_texts : List Example
sequence_texts =
    -- `[]`
    example 1 (sign_at sign.OpenBracket 0 ∷ sign_at sign.CloseBracket 1 ∷ [])
    (tree_from 0 2 (Sequence (regular_from 1 1 Nothing)))
    -- `[Int+? Char?? 'ab' '']`
    ∷ example 1 (sign_at sign.OpenBracket 0 ∷ word_at "Int" 1 ∷ sign_at sign.PlusQuestion 4
    ∷ word_at "Char" 7 ∷ sign_at sign.QuestionQuestion 11 ∷ chars_at "ab" 14 ∷ chars_at "" 19
    ∷ sign_at sign.CloseBracket 21 ∷ [])
    (tree_from 0 22 (Sequence (regular_from 1 21 (Seq (regulars_of
    (regular_from 1 6 (Repeat (item (ints_at 1)) post.LazyPlus)
    ∷ regular_from 7 13 (Repeat (item (chars_type_at 7)) post.LazyOpt)
    ∷ regular_from 14 18 (Seq (regulars_of (letter_from 14 18 97 ∷ letter_from 14 18 98 ∷ [])))
    ∷ regular_from 19 21 Nothing ∷ []))))))
    -- `['a']`
    ∷ example 1 (sign_at sign.OpenBracket 0 ∷ chars_at "a" 1 ∷ sign_at sign.CloseBracket 4 ∷ [])
    (tree_from 0 5 (Sequence (letter_from 1 4 97)))
    -- `['ab'*]`
    ∷ example 1 (sign_at sign.OpenBracket 0 ∷ chars_at "ab" 1 ∷ sign_at sign.Star 5
    ∷ sign_at sign.CloseBracket 6 ∷ [])
    (tree_from 0 7 (Sequence (regular_from 1 6 (Repeat
    (regular_from 1 5 (Seq (regulars_of (letter_from 1 5 97 ∷ letter_from 1 5 98 ∷ []))))
    post.Star))))
    -- `[A|B C]`
    ∷ example 1 (sign_at sign.OpenBracket 0 ∷ word_at "A" 1 ∷ sign_at sign.Or 2 ∷ word_at "B" 3
    ∷ word_at "C" 5 ∷ sign_at sign.CloseBracket 6 ∷ [])
    (tree_from 0 7 (Sequence (regular_from 1 6 (Alt (regulars_of (item (named_at "A" 1)
    ∷ regular_from 3 6 (Seq (regulars_of (item (named_at "B" 3) ∷ item (named_at "C" 5) ∷ [])))
    ∷ []))))))
    -- `[A\B*]`
    ∷ example 1 (sign_at sign.OpenBracket 0 ∷ word_at "A" 1 ∷ sign_at sign.Backslash 2
    ∷ word_at "B" 3 ∷ sign_at sign.Star 4 ∷ sign_at sign.CloseBracket 5 ∷ [])
    (tree_from 0 6 (Sequence (regular_from 1 5 (Repeat
    (item (tree_from 1 4 (Meet (named_at "A" 1) (signs_of (taken_off (named_at "B" 3) ∷ [])))))
    post.Star))))
    ∷ []

-- types in parentheses in a sequence
abbrev pub item_texts : List Example
item_texts =
    -- `[((Int))]`
    example 3 (sign_at sign.OpenBracket 0 ∷ sign_at sign.OpenParenthesis 1
    ∷ sign_at sign.OpenParenthesis 2 ∷ word_at "Int" 3 ∷ sign_at sign.CloseParenthesis 6
    ∷ sign_at sign.CloseParenthesis 7 ∷ sign_at sign.CloseBracket 8 ∷ [])
    (tree_from 0 9 (Sequence (item (ints_at 3))))
    -- `[(Int|Char)*?]`
    ∷ example 2 (sign_at sign.OpenBracket 0 ∷ sign_at sign.OpenParenthesis 1 ∷ word_at "Int" 2
    ∷ sign_at sign.Or 5 ∷ word_at "Char" 6 ∷ sign_at sign.CloseParenthesis 10
    ∷ sign_at sign.StarQuestion 11 ∷ sign_at sign.CloseBracket 13 ∷ [])
    (tree_from 0 14 (Sequence (regular_from 1 13 (Repeat
    (item (tree_from 2 10 (Union (trees_of (ints_at 2 ∷ chars_type_at 6 ∷ [])))))
    post.LazyStar))))
    -- `[(Int -> Int) (1,2)]`
    ∷ example 3 (sign_at sign.OpenBracket 0 ∷ sign_at sign.OpenParenthesis 1 ∷ word_at "Int" 2
    ∷ sign_at sign.Arrow 6 ∷ word_at "Int" 9 ∷ sign_at sign.CloseParenthesis 12
    ∷ sign_at sign.OpenParenthesis 14 ∷ digit_at 1 15 ∷ sign_at sign.Comma 16 ∷ digit_at 2 17
    ∷ sign_at sign.CloseParenthesis 18 ∷ sign_at sign.CloseBracket 19 ∷ [])
    (tree_from 0 20 (Sequence (regular_from 1 19 (Seq (regulars_of
    (item (tree_from 2 12 (Arrows (trees_of (ints_at 2 ∷ ints_at 9 ∷ []))))
    ∷ item (tree_from 14 19 (Tuple (trees_of (number_at 1 15 ∷ number_at 2 17 ∷ [])))) ∷ []))))))
    -- `[(A->B,C)]`
    ∷ example 3 (sign_at sign.OpenBracket 0 ∷ sign_at sign.OpenParenthesis 1 ∷ word_at "A" 2
    ∷ sign_at sign.Arrow 3 ∷ word_at "B" 5 ∷ sign_at sign.Comma 6 ∷ word_at "C" 7
    ∷ sign_at sign.CloseParenthesis 8 ∷ sign_at sign.CloseBracket 9 ∷ [])
    (tree_from 0 10 (Sequence (item (tree_from 1 9 (Tuple (trees_of
    (tree_from 2 6 (Arrows (trees_of (named_at "A" 2 ∷ named_at "B" 5 ∷ [])))
    ∷ named_at "C" 7 ∷ [])))))))
    -- `[(A where A=1)]`
    ∷ example 2 (sign_at sign.OpenBracket 0 ∷ sign_at sign.OpenParenthesis 1 ∷ word_at "A" 2
    ∷ word_at "where" 4 ∷ word_at "A" 10 ∷ sign_at sign.Equal 11 ∷ digit_at 1 12
    ∷ sign_at sign.CloseParenthesis 13 ∷ sign_at sign.CloseBracket 14 ∷ [])
    (tree_from 0 15 (Sequence (item (tree_from 2 13
    (Where (named_at "A" 2) (declarations_of (declared_at "A" 10 (number_at 1 12) ∷ [])))))))
    -- `[(A->B where B=1)]`
    ∷ example 3 (sign_at sign.OpenBracket 0 ∷ sign_at sign.OpenParenthesis 1 ∷ word_at "A" 2
    ∷ sign_at sign.Arrow 3 ∷ word_at "B" 5 ∷ word_at "where" 7 ∷ word_at "B" 13
    ∷ sign_at sign.Equal 14 ∷ digit_at 1 15 ∷ sign_at sign.CloseParenthesis 16
    ∷ sign_at sign.CloseBracket 17 ∷ [])
    (tree_from 0 18 (Sequence (item (tree_from 2 16
    (Where (tree_from 2 6 (Arrows (trees_of (named_at "A" 2 ∷ named_at "B" 5 ∷ []))))
    (declarations_of (declared_at "B" 13 (number_at 1 15) ∷ [])))))))
    ∷ []

-- groups in parentheses in a sequence
abbrev pub group_texts : List Example
group_texts =
    -- `[(Int Char | Atom)]`
    example 2 (sign_at sign.OpenBracket 0 ∷ sign_at sign.OpenParenthesis 1 ∷ word_at "Int" 2
    ∷ word_at "Char" 6 ∷ sign_at sign.Or 11 ∷ word_at "Atom" 13
    ∷ sign_at sign.CloseParenthesis 17 ∷ sign_at sign.CloseBracket 18 ∷ [])
    (tree_from 0 19 (Sequence (regular_from 2 17 (Alt (regulars_of
    (regular_from 2 10 (Seq (regulars_of (item (ints_at 2) ∷ item (chars_type_at 6) ∷ [])))
    ∷ item (built_in_at "Atom" builtin.Atom 13) ∷ []))))))
    -- `[('ab'|'cd'|'e')+]`
    ∷ example 2 (sign_at sign.OpenBracket 0 ∷ sign_at sign.OpenParenthesis 1 ∷ chars_at "ab" 2
    ∷ sign_at sign.Or 6 ∷ chars_at "cd" 7 ∷ sign_at sign.Or 11 ∷ chars_at "e" 12
    ∷ sign_at sign.CloseParenthesis 15 ∷ sign_at sign.Plus 16 ∷ sign_at sign.CloseBracket 17 ∷ [])
    (tree_from 0 18 (Sequence (regular_from 1 17 (Repeat
    (regular_from 2 15 (Alt (regulars_of
    (regular_from 2 6 (Seq (regulars_of (letter_from 2 6 97 ∷ letter_from 2 6 98 ∷ [])))
    ∷ regular_from 7 11 (Seq (regulars_of (letter_from 7 11 99 ∷ letter_from 7 11 100 ∷ [])))
    ∷ letter_from 12 15 101 ∷ []))))
    post.Plus))))
    -- `[(A|B|'cd')]`
    ∷ example 2 (sign_at sign.OpenBracket 0 ∷ sign_at sign.OpenParenthesis 1 ∷ word_at "A" 2
    ∷ sign_at sign.Or 3 ∷ word_at "B" 4 ∷ sign_at sign.Or 5 ∷ chars_at "cd" 6
    ∷ sign_at sign.CloseParenthesis 10 ∷ sign_at sign.CloseBracket 11 ∷ [])
    (tree_from 0 12 (Sequence (regular_from 2 10 (Alt (regulars_of
    (item (named_at "A" 2) ∷ item (named_at "B" 4)
    ∷ regular_from 6 10 (Seq (regulars_of (letter_from 6 10 99 ∷ letter_from 6 10 100 ∷ [])))
    ∷ []))))))
    -- `[(A* B C)]`
    ∷ example 2 (sign_at sign.OpenBracket 0 ∷ sign_at sign.OpenParenthesis 1 ∷ word_at "A" 2
    ∷ sign_at sign.Star 3 ∷ word_at "B" 5 ∷ word_at "C" 7 ∷ sign_at sign.CloseParenthesis 8
    ∷ sign_at sign.CloseBracket 9 ∷ [])
    (tree_from 0 10 (Sequence (regular_from 2 8 (Seq (regulars_of
    (regular_from 2 4 (Repeat (item (named_at "A" 2)) post.Star)
    ∷ item (named_at "B" 5) ∷ item (named_at "C" 7) ∷ []))))))
    -- `[(''? A)]`
    ∷ example 2 (sign_at sign.OpenBracket 0 ∷ sign_at sign.OpenParenthesis 1 ∷ chars_at "" 2
    ∷ sign_at sign.Question 4 ∷ word_at "A" 6 ∷ sign_at sign.CloseParenthesis 7
    ∷ sign_at sign.CloseBracket 8 ∷ [])
    (tree_from 0 9 (Sequence (regular_from 2 7 (Seq (regulars_of
    (regular_from 2 5 (Repeat (regular_from 2 4 Nothing) post.Opt)
    ∷ item (named_at "A" 6) ∷ []))))))
    -- `[((A B)|C)]`
    ∷ example 3 (sign_at sign.OpenBracket 0 ∷ sign_at sign.OpenParenthesis 1
    ∷ sign_at sign.OpenParenthesis 2 ∷ word_at "A" 3 ∷ word_at "B" 5
    ∷ sign_at sign.CloseParenthesis 6 ∷ sign_at sign.Or 7 ∷ word_at "C" 8
    ∷ sign_at sign.CloseParenthesis 9 ∷ sign_at sign.CloseBracket 10 ∷ [])
    (tree_from 0 11 (Sequence (regular_from 2 9 (Alt (regulars_of
    (regular_from 3 6 (Seq (regulars_of (item (named_at "A" 3) ∷ item (named_at "B" 5) ∷ [])))
    ∷ item (named_at "C" 8) ∷ []))))))
    ∷ []

-- chains of three in types and in sequences, and attributes of which none is named
abbrev pub longer_texts : List Example
longer_texts =
    -- `1\2&3`
    example 0 (digit_at 1 0 ∷ sign_at sign.Backslash 1 ∷ digit_at 2 2 ∷ sign_at sign.And 3
    ∷ digit_at 3 4 ∷ [])
    (tree_from 0 5 (Meet (number_at 1 0)
    (signs_of (taken_off (number_at 2 2) ∷ kept (number_at 3 4) ∷ []))))
    -- `(1,2,3)`
    ∷ example 1 (sign_at sign.OpenParenthesis 0 ∷ digit_at 1 1 ∷ sign_at sign.Comma 2
    ∷ digit_at 2 3 ∷ sign_at sign.Comma 4 ∷ digit_at 3 5 ∷ sign_at sign.CloseParenthesis 6 ∷ [])
    (tree_from 0 7 (Tuple (trees_of (number_at 1 1 ∷ number_at 2 3 ∷ number_at 3 5 ∷ []))))
    -- `<a ..>_`
    ∷ example 1 (sign_at sign.Less 0 ∷ word_at "a" 1 ∷ sign_at sign.Dots 3
    ∷ sign_at sign.Greater 5 ∷ word_at "_" 6 ∷ [])
    (tree_from 0 7 (Xml (tree_from 1 2 (Atom (codes "a")))
    (tree_from 3 5 (Record (fields_of []) Open)) (any_at 6)))
    -- `[1|2|3]`
    ∷ example 1 (sign_at sign.OpenBracket 0 ∷ digit_at 1 1 ∷ sign_at sign.Or 2 ∷ digit_at 2 3
    ∷ sign_at sign.Or 4 ∷ digit_at 3 5 ∷ sign_at sign.CloseBracket 6 ∷ [])
    (tree_from 0 7 (Sequence (regular_from 1 6 (Alt (regulars_of
    (item (number_at 1 1) ∷ item (number_at 2 3) ∷ item (number_at 3 5) ∷ []))))))
    -- `[(1*|2*|3*)]`
    ∷ example 2 (sign_at sign.OpenBracket 0 ∷ sign_at sign.OpenParenthesis 1 ∷ digit_at 1 2
    ∷ sign_at sign.Star 3 ∷ sign_at sign.Or 4 ∷ digit_at 2 5 ∷ sign_at sign.Star 6
    ∷ sign_at sign.Or 7 ∷ digit_at 3 8 ∷ sign_at sign.Star 9 ∷ sign_at sign.CloseParenthesis 10
    ∷ sign_at sign.CloseBracket 11 ∷ [])
    (tree_from 0 12 (Sequence (regular_from 2 10 (Alt (regulars_of
    (regular_from 2 4 (Repeat (item (number_at 1 2)) post.Star)
    ∷ regular_from 5 7 (Repeat (item (number_at 2 5)) post.Star)
    ∷ regular_from 8 10 (Repeat (item (number_at 3 8)) post.Star) ∷ []))))))
    -- `[1&2&3\4]`
    ∷ example 1 (sign_at sign.OpenBracket 0 ∷ digit_at 1 1 ∷ sign_at sign.And 2 ∷ digit_at 2 3
    ∷ sign_at sign.And 4 ∷ digit_at 3 5 ∷ sign_at sign.Backslash 6 ∷ digit_at 4 7
    ∷ sign_at sign.CloseBracket 8 ∷ [])
    (tree_from 0 9 (Sequence (item (tree_from 1 8 (Meet (number_at 1 1)
    (signs_of (kept (number_at 2 3) ∷ kept (number_at 3 5) ∷ taken_off (number_at 4 7) ∷ [])))))))
    -- `[(1,2,3)]`
    ∷ example 2 (sign_at sign.OpenBracket 0 ∷ sign_at sign.OpenParenthesis 1 ∷ digit_at 1 2
    ∷ sign_at sign.Comma 3 ∷ digit_at 2 4 ∷ sign_at sign.Comma 5 ∷ digit_at 3 6
    ∷ sign_at sign.CloseParenthesis 7 ∷ sign_at sign.CloseBracket 8 ∷ [])
    (tree_from 0 9 (Sequence (item (tree_from 1 8 (Tuple
    (trees_of (number_at 1 2 ∷ number_at 2 4 ∷ number_at 3 6 ∷ [])))))))
    -- `[(1->2->3)]`
    ∷ example 4 (sign_at sign.OpenBracket 0 ∷ sign_at sign.OpenParenthesis 1 ∷ digit_at 1 2
    ∷ sign_at sign.Arrow 3 ∷ digit_at 2 5 ∷ sign_at sign.Arrow 6 ∷ digit_at 3 8
    ∷ sign_at sign.CloseParenthesis 9 ∷ sign_at sign.CloseBracket 10 ∷ [])
    (tree_from 0 11 (Sequence (item (tree_from 2 9 (Arrows
    (trees_of (number_at 1 2 ∷ number_at 2 5 ∷ number_at 3 8 ∷ [])))))))
    -- `[(1|2|3)]`
    ∷ example 2 (sign_at sign.OpenBracket 0 ∷ sign_at sign.OpenParenthesis 1 ∷ digit_at 1 2
    ∷ sign_at sign.Or 3 ∷ digit_at 2 4 ∷ sign_at sign.Or 5 ∷ digit_at 3 6
    ∷ sign_at sign.CloseParenthesis 7 ∷ sign_at sign.CloseBracket 8 ∷ [])
    (tree_from 0 9 (Sequence (item (tree_from 2 7 (Union
    (trees_of (number_at 1 2 ∷ number_at 2 4 ∷ number_at 3 6 ∷ [])))))))
    ∷ []

-- `type A=Int type B=A;;`
abbrev pub declared_alone_tokens : List Token
declared_alone_tokens = word_at "type" 0 ∷ word_at "A" 5 ∷ sign_at sign.Equal 6 ∷ word_at "Int" 7
    ∷ word_at "type" 11 ∷ word_at "B" 16 ∷ sign_at sign.Equal 17 ∷ word_at "A" 18
    ∷ sign_at sign.Semicolons 19 ∷ []

abbrev pub declared_alone_declarations : Declarations
declared_alone_declarations =
    declarations_of (declared_at "A" 5 (ints_at 7) ∷ declared_at "B" 16 (named_at "A" 18) ∷ [])

-- `[(Int* , Int)]`
abbrev pub comma_after_group : List Token
comma_after_group = sign_at sign.OpenBracket 0 ∷ sign_at sign.OpenParenthesis 1 ∷ word_at "Int" 2
    ∷ sign_at sign.Star 5 ∷ sign_at sign.Comma 7 ∷ word_at "Int" 9
    ∷ sign_at sign.CloseParenthesis 12 ∷ sign_at sign.CloseBracket 13 ∷ []

-- `[(A B) & C]`
abbrev pub and_after_group : List Token
and_after_group = group_front
    ++ sign_at sign.And 7 ∷ word_at "C" 9 ∷ sign_at sign.CloseBracket 10 ∷ []

-- `['ab'&A]`
abbrev pub and_after_letters : List Token
and_after_letters = sign_at sign.OpenBracket 0 ∷ chars_at "ab" 1 ∷ sign_at sign.And 5
    ∷ word_at "A" 6 ∷ sign_at sign.CloseBracket 7 ∷ []

-- `[A**]`
abbrev pub two_postfixes : List Token
two_postfixes = sign_at sign.OpenBracket 0 ∷ word_at "A" 1 ∷ sign_at sign.Star 2
    ∷ sign_at sign.Star 3 ∷ sign_at sign.CloseBracket 4 ∷ []

-- `'ab'`
abbrev pub two_letters : List Token
two_letters = chars_at "ab" 0 ∷ []

-- `{a=Int b=Int}`
abbrev pub no_semicolon : List Token
no_semicolon = sign_at sign.OpenBrace 0 ∷ word_at "a" 1 ∷ sign_at sign.Equal 2 ∷ word_at "Int" 3
    ∷ word_at "b" 7 ∷ sign_at sign.Equal 8 ∷ word_at "Int" 9 ∷ sign_at sign.CloseBrace 12 ∷ []

-- `{_=1}`
abbrev pub no_label : List Token
no_label = sign_at sign.OpenBrace 0 ∷ word_at "_" 1 ∷ sign_at sign.Equal 2 ∷ digit_at 1 3
    ∷ sign_at sign.CloseBrace 4 ∷ []

-- `{_=?1;}`
abbrev pub semicolon_after_others : List Token
semicolon_after_others = sign_at sign.OpenBrace 0 ∷ word_at "_" 1 ∷ sign_at sign.EqualQuestion 2 ∷ digit_at 1 4
    ∷ sign_at sign.Semicolon 5 ∷ sign_at sign.CloseBrace 6 ∷ []

-- `{.. _=?1}`
abbrev pub others_again : List Token
others_again = sign_at sign.OpenBrace 0 ∷ sign_at sign.Dots 1 ∷ word_at "_" 4 ∷ sign_at sign.EqualQuestion 5
    ∷ digit_at 1 7 ∷ sign_at sign.CloseBrace 8 ∷ []

-- `<a x=1|2>_`
abbrev pub union_of_attribute : List Token
union_of_attribute = sign_at sign.Less 0 ∷ word_at "a" 1 ∷ word_at "x" 3 ∷ sign_at sign.Equal 4
    ∷ digit_at 1 5 ∷ sign_at sign.Or 6 ∷ digit_at 2 7 ∷ sign_at sign.Greater 8 ∷ word_at "_" 9 ∷ []

-- `()`
abbrev pub no_part : List Token
no_part = sign_at sign.OpenParenthesis 0 ∷ sign_at sign.CloseParenthesis 1 ∷ []

-- `let`, `a`
abbrev pub keyword_alone : List Token
keyword_alone = word_at "let" 0 ∷ []

abbrev pub label_alone : List Token
label_alone = word_at "a" 0 ∷ []

-- `1 2`
abbrev pub two_types : List Token
two_types = digit_at 1 0 ∷ digit_at 2 2 ∷ []

-- `A where A=1 where B=2`
abbrev pub where_again : List Token
where_again = word_at "A" 0 ∷ word_at "where" 2 ∷ word_at "A" 8 ∷ sign_at sign.Equal 9
    ∷ digit_at 1 10 ∷ word_at "where" 12 ∷ word_at "B" 18 ∷ sign_at sign.Equal 19
    ∷ digit_at 2 20 ∷ []

-- `Int ->`
abbrev pub begun_arrow : List Token
begun_arrow = word_at "Int" 0 ∷ sign_at sign.Arrow 4 ∷ []

-- `A=Int`, `type a=Int`, `type A=Int;;;;`, `type A=`
abbrev pub no_keyword : List Token
no_keyword = word_at "A" 0 ∷ sign_at sign.Equal 1 ∷ word_at "Int" 2 ∷ []

abbrev pub no_type_name : List Token
no_type_name = word_at "type" 0 ∷ word_at "a" 5 ∷ sign_at sign.Equal 6 ∷ word_at "Int" 7 ∷ []

abbrev pub semicolons_again : List Token
semicolons_again = word_at "type" 0 ∷ word_at "A" 5 ∷ sign_at sign.Equal 6 ∷ word_at "Int" 7
    ∷ sign_at sign.Semicolons 10 ∷ sign_at sign.Semicolons 12 ∷ []

abbrev pub begun_declaration : List Token
begun_declaration = word_at "type" 0 ∷ word_at "A" 5 ∷ sign_at sign.Equal 6 ∷ []
