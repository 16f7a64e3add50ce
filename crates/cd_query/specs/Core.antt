-- What selects and paths stand for: the expressions that the grammar makes of them.
use Rattle.std.specs.Prelude.{true, false, List, [], ◌∷◌, ◌++◌, Option, Some, None, codes}
use Rattle.cd_syntax.specs.Name.{Name}
use Rattle.cd_syntax.specs.declared.tokens.Span.{Span}
use Rattle.cd_syntax.specs.declared.builtin.BuiltinName.TheVariants as builtin
use Rattle.cd_syntax.specs.declared.type_tree.Post.TheVariants as post
use Rattle.cd_syntax.specs.TypeTree as trees
use Rattle.cd_syntax.specs.TypeTree.{Tree, tree, regular}
use Rattle.cd_program.specs.Expr.{Expr, expr, Variable, Sequence, Transform, If, Chain, NoItem}
use Rattle.cd_program.specs.Expr.{AnItem, One, Branches, NoBranch, ABranch, Tail, Select, tails_of}

-- a source of a select: what is taken from which sequence
pub record Source : Type 0 where
  pub pattern : Tree
  pub value : Expr

abbrev pub one_branch : Tree → Expr → Branches
one_branch pattern body = ABranch pattern body NoBranch

-- `[e]` and `[]`
abbrev pub single : (here : Span) → Expr → Expr
single here e = expr here (Sequence (AnItem (One e) NoItem))

abbrev pub nothing : (here : Span) → Expr
nothing here = expr here (Sequence NoItem)

-- what is given where all sources are taken: with a condition `if c then [e] else []`
abbrev pub given : (here : Span) → (condition : Option Expr) → Expr → Expr
given here None e = single here e
given here (Some c) e = expr here (If c (single here e) (nothing here))

-- `(select e from p in a, .. where c)` is `transform a with p -> ..`, one in the other
abbrev pub select : (here : Span) → List Source → (condition : Option Expr) → Expr → Expr
select here [] condition e = given here condition e
select here (source ∷ more) condition e =
    expr here (Transform source.value (one_branch source.pattern (select here more condition e)))

-- The variables of a path. They are type names, which are labels and no variables of a text, so no
-- program has a variable of these names.
abbrev pub content_name : Name
content_name = codes "Content"

abbrev pub child_name : Name
child_name = codes "Child"

-- `_`, `{..}`, and a variable, as patterns
abbrev pub anything : (here : Span) → Tree
anything here = tree here (trees.Builtin builtin.Any)

abbrev pub any_fields : (here : Span) → Tree
any_fields here = tree here (trees.Record trees.NoField trees.Open)

abbrev pub bound_to : (here : Span) → Name → Tree
bound_to here name = tree here (trees.Variable name)

-- `[Any*]`
abbrev pub any_items : (here : Span) → Tree
any_items here = tree here (trees.Sequence (regular here (trees.Repeat
    (regular here (trees.Item (anything here))) post.Star)))

abbrev pub both : (here : Span) → (first second : Tree) → Tree
both here first second = tree here (trees.Meet first (trees.ASign true second trees.NoSign))

-- `<_ ..>(Content & [Any*])`, `Child & <l ..>_` and `<_ l=Content ..>_`
abbrev pub element_pattern : (here : Span) → Tree
element_pattern here = tree here (trees.Xml (anything here) (any_fields here)
    (both here (bound_to here content_name) (any_items here)))

abbrev pub child_pattern : (here : Span) → Name → Tree
child_pattern here label = both here (bound_to here child_name)
    (tree here (trees.Xml (tree here (trees.Atom label)) (any_fields here) (anything here)))

-- a field of this label whose value is the content
abbrev pub content_field : (here : Span) → Name → Tree
content_field here label = tree here (trees.Record
    (trees.AField label here.from false (bound_to here content_name) trees.NoField) trees.Open)

abbrev pub attribute_pattern : (here : Span) → Name → Tree
attribute_pattern here label =
    tree here (trees.Xml (anything here) (content_field here label) (anything here))

abbrev pub named : (here : Span) → Name → Expr
named here name = expr here (Variable name)

-- `a/l` is `transform a with <_ ..>(Content & [Any*]) -> transform Content with Child & <l ..>_ ->
-- [Child]`. The one pattern stands at the sign and the other one at the label, so that no two
-- patterns of a program begin at one place.
abbrev pub child : (here sign word : Span) → Expr → Name → Expr
child here sign word e label = expr here (Transform e (one_branch (element_pattern sign)
    (expr here (Transform (named here content_name) (one_branch (child_pattern word label)
    (single here (named here child_name)))))))

-- `a/@l` is `transform a with <_ l=Content ..>_ -> [Content]`
abbrev pub attribute : (here sign : Span) → Expr → Name → Expr
attribute here sign e label = expr here (Transform e (one_branch (attribute_pattern sign label)
    (single here (named here content_name))))

-- a step of a path: where its sign stands, if that matters, and where its label stands
pub data Step : Type 0 where
  ToField : (word : Span) → Name → Step
  ToChild : (sign word : Span) → Name → Step
  ToAttribute : (sign word : Span) → Name → Step

-- the fields that are read one after the other are one chain
abbrev pub closed : (place : Span) → Expr → List Tail → Expr
closed place first [] = first
closed place first (tail ∷ more) = expr place (Chain first (tails_of (tail ∷ more)))

-- from the beginning of the form to the end of a label in it
abbrev pub up_to : (here word : Span) → Span
up_to here word = record { from = here.from; to = word.to }

-- the steps after what has been read: an expression, and fields of it up to a place
abbrev pub path : (here place : Span) → Expr → List Tail → List Step → Expr
path here place first tails [] = closed place first tails
path here place first tails (ToField word label ∷ rest) =
    path here (up_to here word) first (tails ++ Select label ∷ []) rest
path here place first tails (ToChild sign word label ∷ rest) =
    let to = up_to here word in
    path here to (child to sign word (closed place first tails) label) [] rest
path here place first tails (ToAttribute sign word label ∷ rest) =
    let to = up_to here word in
    path here to (attribute to sign (closed place first tails) label) [] rest
