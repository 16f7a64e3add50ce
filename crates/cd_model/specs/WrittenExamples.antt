-- Written types of which laws say what they hold, and which of their names are guarded.
use Rattle.std.specs.Prelude.{ℕ, pos, true, false, List, [], ◌∷◌, Some, None, codes}
use Rattle.cd_syntax.specs.declared.builtin.BuiltinName.TheVariants as builtin
use Rattle.cd_syntax.specs.declared.tokens.Span.{Span}
use Rattle.cd_syntax.specs.declared.type_tree.Post.TheVariants.{Star, Plus, Opt, LazyStar, LazyPlus}
use Rattle.cd_syntax.specs.declared.type_tree.Post.TheVariants.{LazyOpt}
use Rattle.cd_syntax.specs.Name.{Name}
use Rattle.cd_syntax.specs.TypeTree.{Tree, tree, Kind, Builtin, Ints, Chars, Text, Tuple, Arrows}
use Rattle.cd_syntax.specs.TypeTree.{Union, Meet, Sequence, Record, Named, Where, Regular, regular}
use Rattle.cd_syntax.specs.TypeTree.{RegularKind, Nothing, Item, Seq, Alt, Repeat, trees_of}
use Rattle.cd_syntax.specs.TypeTree.{regulars_of, NoSign, ASign, NoField, AField, Declarations, Closed, Open}
use Rattle.cd_syntax.specs.TypeTree.{NoDeclaration, ADeclaration}
use Rattle.cd_model.specs.Scope.{Scope, Declared}
use Rattle.cd_model.specs.Written.{Written}

-- all trees stand at the same place, and all regular expressions
abbrev pub place : Span
place = record { from = 0; to = 0 }

abbrev pub here : Kind → Tree
here kind = tree place kind

abbrev pub expression : RegularKind → Regular
expression kind = regular place kind

abbrev pub item : Tree → Regular
item is = expression (Item is)

abbrev pub number : ℕ → Tree
number n = here (Ints (Some (pos n)) (Some (pos n)))

abbrev pub int : Tree
int = here (Builtin builtin.Int)

abbrev pub char : Tree
char = here (Builtin builtin.Char)

abbrev pub bool : Tree
bool = here (Builtin builtin.Bool)

abbrev pub character : ℕ → Tree
character c = here (Chars c c)

abbrev pub named : List ℕ → Tree
named name = here (Named name)

-- one declaration, and two
abbrev pub one : Name → Tree → Declarations
one name is = ADeclaration name 0 is NoDeclaration

abbrev pub two : Name → Tree → Name → Tree → Declarations
two name is other then = ADeclaration name 0 is (ADeclaration other 1 then NoDeclaration)

-- a type that sees these lists, and one that sees none
abbrev pub seen : Scope → Tree → Written
seen scope is = record { scope = scope; tree = is }

abbrev pub alone : Kind → Written
alone kind = seen [] (here kind)

-- `A where A = Char` under `A = Int`; `A where B = Char` under `A = B` and `B = Int`; `A` declared
-- as Int and then as Char
abbrev pub hidden : Written
hidden = seen (one (codes "A") int ∷ []) (here (Where (named (codes "A")) (one (codes "A") char)))

abbrev pub not_hidden : Written
not_hidden = seen (two (codes "A") (named (codes "B")) (codes "B") int ∷ [])
    (here (Where (named (codes "A")) (one (codes "B") char)))

abbrev pub declared_twice : Written
declared_twice = seen (two (codes "A") int (codes "A") char ∷ []) (named (codes "A"))

-- `"ab"`, `(1,2,3)`, `0 -> 1 -> 2`, `{a=Int}`, `{a=Int ..}` and `{a=?Int}`
abbrev pub text : Written
text = alone (Text (codes "ab"))

abbrev pub three : Written
three = alone (Tuple (trees_of (number 1 ∷ number 2 ∷ number 3 ∷ [])))

abbrev pub curried : Written
curried = alone (Arrows (trees_of (number 0 ∷ number 1 ∷ number 2 ∷ [])))

abbrev pub closed : Written
closed = alone (Record (AField (codes "a") 0 false int NoField) Closed)

abbrev pub opened : Written
opened = alone (Record (AField (codes "a") 0 false int NoField) Open)

abbrev pub optional : Written
optional = alone (Record (AField (codes "a") 0 true int NoField) Closed)

-- `*--5`, `5--0`, `Int \ 0 & 1--2`, `X where X = X`, `Any \ X where X = X`, and `L where L = "" |
-- (Int, L)`
abbrev pub at_most : Written
at_most = alone (Ints None (Some (pos 5)))

abbrev pub falling : Written
falling = alone (Ints (Some (pos 5)) (Some (pos 0)))

abbrev pub signs : Written
signs = alone
    (Meet int (ASign false (number 0)
    (ASign true (here (Ints (Some (pos 1)) (Some (pos 2)))) NoSign)))

abbrev pub itself : Declarations
itself = one (codes "X") (named (codes "X"))

abbrev pub circular : Written
circular = alone (Where (named (codes "X")) itself)

abbrev pub not_circular : Written
not_circular =
    alone (Where
    (here (Meet (here (Builtin builtin.Any)) (ASign false (named (codes "X")) NoSign))) itself)

abbrev pub list_declared : Declarations
list_declared = one (codes "L")
    (here (Union
    (trees_of (here (Text []) ∷ here (Tuple (trees_of (int ∷ named (codes "L") ∷ []))) ∷ []))))

abbrev pub list : Written
list = alone (Where (named (codes "L")) list_declared)

-- `[]`, `[Int* Bool?]`, `['ab']`, `[Int+ | Bool]`, `[(Int?)*]`, and `X where X = [X*]`
abbrev pub sequence : Regular → Written
sequence is = alone (Sequence is)

abbrev pub no_items : Written
no_items = sequence (expression Nothing)

abbrev pub ints_then_bool : Written
ints_then_bool = sequence
    (expression
    (Seq (regulars_of (expression (Repeat (item int) Star) ∷ expression (Repeat (item bool) Opt)
    ∷ []))))

abbrev pub characters : Written
characters =
    sequence (expression (Seq (regulars_of (item (character 97) ∷ item (character 98) ∷ []))))

abbrev pub ints_or_bool : Written
ints_or_bool =
    sequence (expression (Alt (regulars_of (expression (Repeat (item int) Plus) ∷ item bool ∷ []))))

abbrev pub ints_if_any : Written
ints_if_any = sequence (expression (Repeat (expression (Repeat (item int) Opt)) Star))

abbrev pub nested : Written
nested = alone (Where (named (codes "X"))
    (one (codes "X") (here (Sequence (expression (Repeat (item (named (codes "X"))) Star))))))

-- `[Int*?]`, `[Int+?]`, `[Int??]`, `[(Int?)+]`, `[(Int Char)*]`, and `X where X = [A*] and A = Int
-- | X`
abbrev pub lazy_ints : Written
lazy_ints = sequence (expression (Repeat (item int) LazyStar))

abbrev pub some_lazy_ints : Written
some_lazy_ints = sequence (expression (Repeat (item int) LazyPlus))

abbrev pub lazy_int_if_any : Written
lazy_int_if_any = sequence (expression (Repeat (item int) LazyOpt))

abbrev pub some_ints_if_any : Written
some_ints_if_any = sequence (expression (Repeat (expression (Repeat (item int) Opt)) Plus))

abbrev pub both_in_turn : Written
both_in_turn =
    sequence (expression (Repeat (expression (Seq (regulars_of (item int ∷ item char ∷ [])))) Star))

abbrev pub mixed : Written
mixed = alone (Where (named (codes "X"))
    (two (codes "X") (here (Sequence (expression (Repeat (item (named (codes "A"))) Star))))
    (codes "A") (here (Union (trees_of (int ∷ named (codes "X") ∷ []))))))

-- the names of `X = (Int,X)`, `A = (Int where B = A)`, `X = X | Int`, `X = Int \ X` and `A = (B
-- where B = A)`
abbrev pub name_as : Name → Tree → Declared
name_as name is = record { name = name; scope = one name is ∷ []; tree = is }

abbrev pub under_constructor : Declared
under_constructor = name_as (codes "X") (here (Tuple (trees_of (int ∷ named (codes "X") ∷ []))))

abbrev pub in_declaration : Declared
in_declaration = name_as (codes "A") (here (Where int (one (codes "B") (named (codes "A")))))

abbrev pub in_union : Declared
in_union = name_as (codes "X") (here (Union (trees_of (named (codes "X") ∷ int ∷ []))))

abbrev pub in_difference : Declared
in_difference = name_as (codes "X") (here (Meet int (ASign false (named (codes "X")) NoSign)))

abbrev pub through_where : Declared
through_where = name_as (codes "A")
    (here (Where (named (codes "B")) (one (codes "B") (named (codes "A")))))
