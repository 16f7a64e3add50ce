-- What each rule makes of types and patterns; `here` is from the first character of its first token
-- to the end of its last one. A part that is not of the form that a rule wants gives nothing of
-- use.
use Rattle.std.specs.Prelude.{ℕ, ℤ, Bool, List, [], ◌∷◌, ◌++◌, map}
use Rattle.std.specs.Prelude.{Option, Some, None}
use Rattle.cd_syntax.specs.declared.tokens.Span.{Span}
use Rattle.cd_syntax.specs.declared.tokens.Token.{Token}
use Rattle.cd_syntax.specs.declared.tokens.TokenKind.{TokenKind}
use Rattle.cd_syntax.specs.declared.tokens.TokenKind.TheVariants as token
use Rattle.cd_syntax.specs.declared.builtin.BuiltinName.{BuiltinName}
use Rattle.cd_syntax.specs.declared.builtin.BuiltinName.TheVariants as builtin
use Rattle.cd_syntax.specs.declared.constant.Constant.{Constant}
use Rattle.cd_syntax.specs.declared.constant.Constant.TheVariants as constants
use Rattle.cd_syntax.specs.Name.{Name}
use Rattle.cd_syntax.specs.TypeTree.{Tree, tree, Kind, Builtin, Ints, Chars, Atom, Text, Tuple}
use Rattle.cd_syntax.specs.TypeTree.{Arrows, Union, Meet, Sequence, Record, Xml, Named, Where}
use Rattle.cd_syntax.specs.TypeTree.{Variable, Default, Declaration, trees_of, signs_of, fields_of}
use Rattle.cd_syntax.specs.TypeTree.{declarations_of, regulars_of, Regular, regular}
use Rattle.cd_syntax.specs.TypeTree.{RegularKind, Nothing, Item, Seq, Alt, Repeat, Capture}
use Rattle.cd_syntax.specs.TypeTree.{Closed, Typed}
use Rattle.cd_tables.specs.Rows.{row_of}
use Rattle.cd_tables.specs.Words.{type_names}
use Rattle.cd_grammar.specs.Parts.{Part, ATree, Trees, Signs, SomeFields, Names, AFile}
use Rattle.cd_grammar.specs.Parts.{ARegular, Regulars, AConstant, Junk, token_in, tree_in}
use Rattle.cd_grammar.specs.Parts.{trees_in, signs_in, fields_in, names_in, regular_in}
use Rattle.cd_grammar.specs.Parts.{regulars_in, mark_in, constant_in, of_one, of_two, of_three}

-- what a token has: its number, its name, or the characters between quotes or of an atom
abbrev pub number_in : TokenKind → Option ℤ
number_in (token.Int n) = Some n
number_in _ = None

abbrev pub name_in : TokenKind → Name
name_in (token.Word name) = name
name_in _ = []

abbrev pub characters_in : TokenKind → List ℕ
characters_in (token.Chars characters) = characters
characters_in (token.Text characters) = characters
characters_in (token.Atom characters) = characters
characters_in _ = []

-- rows of trees
abbrev pub two_trees : Part → Part → Part
two_trees first second =
    of_two (tree_in first) (tree_in second) (λ one other. Trees (one ∷ other ∷ []))

abbrev pub next_tree : Part → Part → Part
next_tree row is = of_two (trees_in row) (tree_in is) (λ all one. Trees (all ++ one ∷ []))

abbrev pub before_trees : Part → Part → Part
before_trees is row = of_two (tree_in is) (trees_in row) (λ one all. Trees (one ∷ all))

-- one tree of a row
abbrev pub union : Span → Part → Part
union here row = of_one (trees_in row) (λ all. ATree (tree here (Union (trees_of all))))

abbrev pub arrows : Span → Part → Part
arrows here row = of_one (trees_in row) (λ all. ATree (tree here (Arrows (trees_of all))))

abbrev pub tuple : Span → Part → Part
tuple here row = of_one (trees_in row) (λ all. ATree (tree here (Tuple (trees_of all))))

-- trees with signs
abbrev pub first_sign : (kept : Bool) → Part → Part → Part
first_sign kept first second =
    of_two (tree_in first) (tree_in second)
    (λ one other. Signs one (record { kept = kept; tree = other } ∷ []))

abbrev pub next_sign : (kept : Bool) → Part → Part → Part
next_sign kept signs is =
    of_two (signs_in signs) (tree_in is)
    (λ all one. Signs all.0 (all.1 ++ record { kept = kept; tree = one } ∷ []))

abbrev pub meet : Span → Part → Part
meet here signs = of_one (signs_in signs) (λ all. ATree (tree here (Meet all.0 (signs_of all.1))))

-- constants and intervals
abbrev pub integers : Span → Part → Part → Part
integers here low high =
    of_two (token_in low) (token_in high)
    (λ from to. ATree (tree here (Ints (number_in from.kind) (number_in to.kind))))

abbrev pub between : Span → List ℕ → List ℕ → Part
between here (low ∷ []) (high ∷ []) = ATree (tree here (Chars low high))
between here _ _ = Junk

abbrev pub characters : Span → Part → Part → Part
characters here low high =
    of_two (token_in low) (token_in high)
    (λ from to. between here (characters_in from.kind) (characters_in to.kind))

abbrev pub text : Span → Part → Part
text here is = of_one (token_in is) (λ one. ATree (tree here (Text (characters_in one.kind))))

abbrev pub atom : Span → Part → Part
atom here is = of_one (token_in is) (λ one. ATree (tree here (Atom (characters_in one.kind))))

-- names
abbrev pub type_of : Option BuiltinName → Name → Kind
type_of (Some is) name = Builtin is
type_of None name = Named name

abbrev pub named : Span → Part → Part
named here word =
    of_one (token_in word)
    (λ one. ATree (tree here (type_of (row_of type_names (name_in one.kind)) (name_in one.kind))))

abbrev pub any : Span → Part
any here = ATree (tree here (Builtin builtin.Any))

-- declarations
abbrev pub declared : Token → Tree → Declaration
declared word is = record { name = name_in word.kind; at = word.span.from; tree = is }

abbrev pub name : Part → Part → Part
name word is = of_two (token_in word) (tree_in is) (λ one it. Names (declared one it ∷ []))

abbrev pub next_names : Part → Part → Part
next_names names more = of_two (names_in names) (names_in more) (λ all rest. Names (all ++ rest))

abbrev pub where_names : Span → Part → Part → Part
where_names here is names =
    of_two (tree_in is) (names_in names)
    (λ one all. ATree (tree here (Where one (declarations_of all))))

abbrev pub file : Part → Part
file names = of_one (names_in names) (λ all. AFile (declarations_of all))

-- records
abbrev pub field : (optional : Bool) → Part → Part → Part
field optional label is =
    of_two (token_in label) (tree_in is)
    (λ word one. SomeFields (record {
      label = name_in word.kind;
      at = word.span.from;
      optional = optional;
      tree = one;
    } ∷ []) Closed)

abbrev pub next_fields : Part → Part → Part
next_fields fields more =
    of_two (fields_in fields) (fields_in more) (λ all rest. SomeFields (all.0 ++ rest.0) Closed)

abbrev pub typed_others : Part → Part
typed_others is = of_one (tree_in is) (λ one. SomeFields [] (Typed one))

-- fields, and what stands after them
abbrev pub and_others : Part → Part → Part
and_others fields others =
    of_two (fields_in fields) (fields_in others) (λ all rest. SomeFields all.0 rest.1)

abbrev pub no_fields : Span → Part
no_fields here = ATree (tree here (Record (fields_of []) Closed))

abbrev pub fields : Span → Part → Part
fields here is = of_one (fields_in is) (λ all. ATree (tree here (Record (fields_of all.0) all.1)))

-- XML types; attributes that are not written stand at the place of the `>`
abbrev pub label : Span → Part → Part
label here word = of_one (token_in word) (λ one. ATree (tree here (Atom (name_in one.kind))))

abbrev pub no_attributes : (at : ℕ) → Tree
no_attributes at = tree (record { from = at; to = at }) (Record (fields_of []) Closed)

abbrev pub xml : Span → (tag close content : Part) → Part
xml here tag close content =
    of_three (tree_in tag) (token_in close) (tree_in content)
    (λ name end inner. ATree (tree here (Xml name (no_attributes end.span.from) inner)))

abbrev pub xml_with : Span → (tag attributes content : Part) → Part
xml_with here tag attributes content =
    of_three (tree_in tag) (tree_in attributes) (tree_in content)
    (λ name all inner. ATree (tree here (Xml name all inner)))

-- sequences; what stands for no item stands at the place of the `]`
abbrev pub no_item : (at : ℕ) → Regular
no_item at = regular (record { from = at; to = at }) Nothing

abbrev pub empty_sequence : Span → Part → Part
empty_sequence here close =
    of_one (token_in close) (λ end. ATree (tree here (Sequence (no_item end.span.from))))

abbrev pub sequence : Span → Part → Part
sequence here is = of_one (regular_in is) (λ one. ATree (tree here (Sequence one)))

-- a type that is one item
abbrev pub item_of : Tree → Regular
item_of (tree span kind) = regular span (Item (tree span kind))

abbrev pub item : Part → Part
item is = of_one (tree_in is) (λ one. ARegular (item_of one))

-- characters: none, or each an item
abbrev pub letter : Span → ℕ → Regular
letter here c = regular here (Item (tree here (Chars c c)))

abbrev pub letters : Span → List ℕ → RegularKind
letters here [] = Nothing
letters here (c ∷ rest) = Seq (regulars_of (map (letter here) (c ∷ rest)))

abbrev pub run : Span → Part → Part
run here is =
    of_one (token_in is) (λ one. ARegular (regular here (letters here (characters_in one.kind))))

-- rows of expressions
abbrev pub two_regulars : Part → Part → Part
two_regulars first second =
    of_two (regular_in first) (regular_in second) (λ one other. Regulars (one ∷ other ∷ []))

abbrev pub next_regular : Part → Part → Part
next_regular row is =
    of_two (regulars_in row) (regular_in is) (λ all one. Regulars (all ++ one ∷ []))

abbrev pub or_item : Part → Part → Part
or_item row is =
    of_two (regulars_in row) (tree_in is) (λ all one. Regulars (all ++ item_of one ∷ []))

abbrev pub regular_or_item : Part → Part → Part
regular_or_item first second =
    of_two (regular_in first) (tree_in second)
    (λ one other. Regulars (one ∷ item_of other ∷ []))

abbrev pub item_regular : Part → Part → Part
item_regular first second =
    of_two (tree_in first) (regular_in second)
    (λ one other. Regulars (item_of one ∷ other ∷ []))

abbrev pub items_or : Part → Part → Part
items_or items is =
    of_two (trees_in items) (regular_in is) (λ all one. Regulars (map item_of all ++ one ∷ []))

abbrev pub alternatives : Span → Part → Part
alternatives here row =
    of_one (regulars_in row) (λ all. ARegular (regular here (Alt (regulars_of all))))

abbrev pub in_turn : Span → Part → Part
in_turn here row =
    of_one (regulars_in row) (λ all. ARegular (regular here (Seq (regulars_of all))))

abbrev pub repeated : Span → Part → Part → Part
repeated here is mark =
    of_two (regular_in is) (mark_in mark) (λ one post. ARegular (regular here (Repeat one post)))

abbrev pub repeated_item : Span → Part → Part → Part
repeated_item here is mark =
    of_two (tree_in is) (mark_in mark)
    (λ one post. ARegular (regular here (Repeat (item_of one) post)))

-- what stands in patterns alone
abbrev pub variable : Span → Part → Part
variable here word = of_one (token_in word) (λ one. ATree (tree here (Variable (name_in one.kind))))

abbrev pub constant_of : TokenKind → Option Constant
constant_of (token.Int n) = Some (constants.Int n)
constant_of (token.Chars (c ∷ [])) = Some (constants.Char c)
constant_of (token.Text characters) = Some (constants.Text characters)
constant_of (token.Atom name) = Some (constants.Atom name)
constant_of _ = None

abbrev pub constant : Part → Part
constant is = of_one (token_in is) (λ one. of_one (constant_of one.kind) (λ it. AConstant it))

abbrev pub nil : Part
nil = AConstant constants.Nil

abbrev pub default : Span → Part → Part → Part
default here word is =
    of_two (token_in word) (constant_in is)
    (λ one it. ATree (tree here (Default (name_in one.kind) it)))

abbrev pub capture : Span → Part → Part → Part
capture here word is =
    of_two (token_in word) (regular_in is)
    (λ one items. ARegular (regular here (Capture (name_in one.kind) items)))
