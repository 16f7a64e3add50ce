-- Facts of trees, expressions and functions which their constructors keep, and parts of a sort of which they hold.
use Rattle.std.proofs.Common.{◌≡◌, refl, ℕ, ℤ, Bool, true, false, List, [], ◌∷◌, ◌++◌, Option, Some, None}
use Rattle.std.specs.List.{AllByRecursion as AllOf}
use Rattle.cd_syntax.specs.declared.tokens.Span.{Span}
use Rattle.cd_syntax.specs.declared.tokens.Token.{Token}
use Rattle.cd_syntax.specs.declared.tokens.TokenKind.TheVariants as token
use Rattle.cd_syntax.specs.declared.builtin.BuiltinName.{BuiltinName}
use Rattle.cd_syntax.specs.declared.type_tree.Post.{Post}
use Rattle.cd_syntax.specs.declared.constant.Constant.{Constant}
use Rattle.cd_syntax.specs.declared.constant.Constant.TheVariants as constants
use Rattle.cd_syntax.specs.Name.{Name}
use Rattle.cd_syntax.specs.Tokens.{at}
use Rattle.cd_syntax.specs.TypeTree as trees
use Rattle.cd_syntax.specs.TypeTree.{Tree, tree, Signed, Field, Declaration, Declarations, Regular, regular, Rest}
use Rattle.cd_program.specs.declared.operator.BuiltIn.{BuiltIn}
use Rattle.cd_program.specs.declared.operator.Form.{Form}
use Rattle.cd_program.specs.Expr as exprs
use Rattle.cd_program.specs.Expr.{Expr, expr, Item, Tail, Branch, Signature, FunctionTree, function, of_form}
use Rattle.cd_query.specs.Core as queries
use Rattle.cd_query.specs.Core.{Step, Source}
use Rattle.cd_grammar.specs.Parts.{Part, AToken, ATree, Trees, Signs, SomeFields, Names, AFile, ARegular, Regulars}
use Rattle.cd_grammar.specs.Parts.{AMark, AConstant, AnExpr, Exprs, AChain, Items, ExprFields, Branches, Signatures}
use Rattle.cd_grammar.specs.Parts.{Steps, Sources, AFunction, AProgram}
use Rattle.cd_grammar.specs.Actions.{name_in, constant_of}
use Rattle.cd_grammar.proofs.Sorts.{Sort, OfTree, OfTrees, OfSigns, OfFields, OfNames, OfFile, OfRegular, OfRegulars}
use Rattle.cd_grammar.proofs.Sorts.{OfMark, OfToken, OfLiteral, OfCharacter, OfAtom, OfLabel, OfAnything, OfConstant}
use Rattle.cd_grammar.proofs.Sorts.{OfExpr, OfExprs, OfChain, OfItems, OfExprFields, OfBranches, OfSignatures}
use Rattle.cd_grammar.proofs.Sorts.{OfSteps, OfSources, OfFunction, OfProgram}

pub joined : {A : Type 0} (fact : A → Type 0) (all more : List A) → AllOf fact all → AllOf fact more
    → AllOf fact (all ++ more)
joined fact [] more are so = so
joined fact (first ∷ rest) more are so = (are.0, joined fact rest more are.1 so)

-- facts of what is made of trees, of labels and of expressions, by facts of these
abbrev pub OfSign : (Tree → Type 0) → Signed → Type 0
OfSign T sign = T sign.tree

abbrev pub OfField : (Tree → Type 0) → (Name → Type 0) → Field → Type 0
OfField T L one = L one.label × T one.tree

abbrev pub OfName : (Tree → Type 0) → Declaration → Type 0
OfName T one = T one.tree

abbrev pub OfValue : (Name → Type 0) → Constant → Type 0
OfValue L (constants.Atom name) = L name
OfValue L constant = Unit {0}

abbrev pub OfItem : (Expr → Type 0) → Item → Type 0
OfItem E (exprs.One is) = E is
OfItem E (exprs.Splice is) = E is
OfItem E (exprs.Run characters) = Unit {0}

abbrev pub OfExprField : (Expr → Type 0) → (Name → Type 0) → exprs.Field → Type 0
OfExprField E L one = L one.label × E one.expr

abbrev pub OfTail : (Expr → Type 0) → (Name → Type 0) → Tail → Type 0
OfTail E L (exprs.Operand op is) = E is
OfTail E L (exprs.Without label) = L label
OfTail E L (exprs.Select label) = L label

abbrev pub OfRest : (Tree → Type 0) → Rest → Type 0
OfRest T trees.Closed = Unit {0}
OfRest T trees.Open = Unit {0}
OfRest T (trees.Typed is) = T is

abbrev pub OfBranch : (Tree → Type 0) → (Expr → Type 0) → Branch → Type 0
OfBranch T E one = T one.pattern × E one.body

abbrev pub OfSignature : (Tree → Type 0) → Signature → Type 0
OfSignature T one = T one.takes × T one.gives

abbrev pub OfStep : (Name → Type 0) → Step → Type 0
OfStep L (queries.ToField word label) = L label
OfStep L (queries.ToChild sign word label) = L label
OfStep L (queries.ToAttribute sign word label) = L label

abbrev pub OfSource : (Tree → Type 0) → (Expr → Type 0) → Source → Type 0
OfSource T E one = T one.pattern × E one.value

abbrev pub OfCondition : (Expr → Type 0) → Option Expr → Type 0
OfCondition E None = Unit {0}
OfCondition E (Some is) = E is

-- facts of types and of patterns, of their expressions of sequences, of labels, variables and atoms' names, of files,
-- of expressions, and of functions that are declared
pub record Facts : Type 1 where
  pub of_tree : (pattern : Bool) → Tree → Type 0
  pub of_regular : (pattern : Bool) → Regular → Type 0
  pub of_label : Name → Type 0
  pub of_file : Declarations → Type 0
  pub of_expr : Expr → Type 0
  pub of_function : FunctionTree → Type 0

module _ (facts : Facts) where
  open facts use {of_tree as T, of_regular as R, of_label as L, of_file as D, of_expr as E, of_function as F}

  -- each constructor that rules use keeps them
  pub record TreesAreKept (p : Bool) : Type 0 where
    pub built_in : (here : Span) (name : BuiltinName) → T p (tree here (trees.Builtin name))
    pub named : (here : Span) (name : Name) → T p (tree here (trees.Named name))
    pub ints : (here : Span) (low high : Option ℤ) → T p (tree here (trees.Ints low high))
    pub chars : (here : Span) (low high : ℕ) → T p (tree here (trees.Chars low high))
    pub letters : (here : Span) (characters : List ℕ) → T p (tree here (trees.Text characters))
    pub atom : (here : Span) (name : Name) → L name → T p (tree here (trees.Atom name))
    pub tuple : (here : Span) (first second : Tree) (rest : List Tree) → AllOf (T p) (first ∷ second ∷ rest)
        → T p (tree here (trees.Tuple (trees.trees_of (first ∷ second ∷ rest))))
    pub arrows : (here : Span) (first second : Tree) (rest : List Tree) → AllOf (T p) (first ∷ second ∷ rest)
        → T p (tree here (trees.Arrows (trees.trees_of (first ∷ second ∷ rest))))
    pub union : (here : Span) (first second : Tree) (rest : List Tree) → AllOf (T p) (first ∷ second ∷ rest)
        → T p (tree here (trees.Union (trees.trees_of (first ∷ second ∷ rest))))
    pub meet : (here : Span) (first : Tree) (rest : List Signed) → T p first → AllOf (OfSign (T p)) rest
        → T p (tree here (trees.Meet first (trees.signs_of rest)))
    pub sequence : (here : Span) (is : Regular) → R p is → T p (tree here (trees.Sequence is))
    pub fields : (here : Span) (all : List Field) (others : Rest) → AllOf (OfField (T p) L) all → OfRest (T p) others
        → T p (tree here (trees.Record (trees.fields_of all) others))
    pub xml : (here : Span) (tag attributes content : Tree) → T p tag → T p attributes → T p content
        → T p (tree here (trees.Xml tag attributes content))
    pub where_names : (here : Span) (is : Tree) (all : List Declaration) → T p is → AllOf (OfName (T p)) all
        → T p (tree here (trees.Where is (trees.declarations_of all)))
    pub nothing : (here : Span) → R p (regular here trees.Nothing)
    pub item : (here : Span) (is : Tree) → T p is → R p (regular here (trees.Item is))
    pub in_turn : (here : Span) (all : List Regular) → AllOf (R p) all
        → R p (regular here (trees.Seq (trees.regulars_of all)))
    pub alternatives : (here : Span) (all : List Regular) → AllOf (R p) all
        → R p (regular here (trees.Alt (trees.regulars_of all)))
    pub repeated : (here : Span) (is : Regular) (mark : Post) → R p is → R p (regular here (trees.Repeat is mark))

  pub record PatternsAreKept : Type 0 where
    pub variable : (here : Span) (name : Name) → L name → T true (tree here (trees.Variable name))
    pub default : (here : Span) (name : Name) (is : Constant) → L name → OfValue L is
        → T true (tree here (trees.Default name is))
    pub capture : (here : Span) (name : Name) (is : Regular) → L name → R true is
        → R true (regular here (trees.Capture name is))

  pub record ExprsAreKept : Type 0 where
    pub constant : (here : Span) (is : Constant) → OfValue L is → E (expr here (exprs.Constant is))
    pub variable : (here : Span) (name : Name) → L name → E (expr here (exprs.Variable name))
    pub tuple : (here : Span) (first second : Expr) (rest : List Expr) → AllOf E (first ∷ second ∷ rest)
        → E (expr here (exprs.Tuple (exprs.exprs_of (first ∷ second ∷ rest))))
    pub apply : (here : Span) (first second : Expr) (rest : List Expr) → AllOf E (first ∷ second ∷ rest)
        → E (expr here (exprs.Apply (exprs.exprs_of (first ∷ second ∷ rest))))
    pub sequence : (here : Span) (all : List Item) → AllOf (OfItem E) all
        → E (expr here (exprs.Sequence (exprs.items_of all)))
    pub fields : (here : Span) (all : List exprs.Field) → AllOf (OfExprField E L) all
        → E (expr here (exprs.Record (exprs.fields_of all)))
    pub xml : (here : Span) (tag attributes content : Expr) → E tag → E attributes → E content
        → E (expr here (exprs.Xml tag attributes content))
    pub chain : (here : Span) (first : Expr) (next : Tail) (rest : List Tail) → E first
        → AllOf (OfTail E L) (next ∷ rest) → E (expr here (exprs.Chain first (exprs.tails_of (next ∷ rest))))
    pub call : (word : BuiltIn) (here : Span) (is : Expr) → E is → E (expr here (exprs.Call word is))
    pub matching : (form : Form) (here : Span) (value : Expr) (first : Branch) (rest : List Branch) → E value
        → AllOf (OfBranch (T true) E) (first ∷ rest)
        → E (expr here (of_form form value (exprs.branches_of (first ∷ rest))))
    pub let_in : (here : Span) (pattern : Tree) (value rest : Expr) → T true pattern → E value → E rest
        → E (expr here (exprs.Let pattern value rest))
    pub if_else : (here : Span) (condition one other : Expr) → E condition → E one → E other
        → E (expr here (exprs.If condition one other))
    pub unnamed : (here : Span) (word : ℕ) (arrow : Signature) (arrows : List Signature) (first : Branch)
        (rest : List Branch) → AllOf (OfSignature (T false)) (arrow ∷ arrows) → AllOf (OfBranch (T true) E) (first ∷ rest)
        → E (expr here (exprs.Function (function word None word (arrow ∷ arrows) (exprs.branches_of (first ∷ rest)))))
    pub named : (here : Span) (word : ℕ) (name : Name) (name_at : ℕ) (arrow : Signature) (arrows : List Signature)
        (first : Branch) (rest : List Branch) → L name → AllOf (OfSignature (T false)) (arrow ∷ arrows)
        → AllOf (OfBranch (T true) E) (first ∷ rest)
        → E (expr here (exprs.Function
        (function word (Some name) name_at (arrow ∷ arrows) (exprs.branches_of (first ∷ rest)))))
    pub declared : (word : ℕ) (name : Name) (name_at : ℕ) (arrow : Signature) (arrows : List Signature)
        (first : Branch) (rest : List Branch) → L name → AllOf (OfSignature (T false)) (arrow ∷ arrows)
        → AllOf (OfBranch (T true) E) (first ∷ rest)
        → F (function word (Some name) name_at (arrow ∷ arrows) (exprs.branches_of (first ∷ rest)))

  -- the names of variables that no text has
  pub record HiddenAreKept : Type 0 where
    pub content : L queries.content_name
    pub child : L queries.child_name

  pub record AreKept : Type 0 where
    pub trees_kept : (p : Bool) → TreesAreKept p
    pub patterns_kept : PatternsAreKept
    pub exprs_kept : ExprsAreKept
    pub hidden_kept : HiddenAreKept
    pub file : (all : List Declaration) → AllOf (OfName (T false)) all → D (trees.declarations_of all)

  -- a part is of a sort, and the facts hold of what is in it; rows have two members at least, and chains an operator
  pub data Fits : Sort → Part → Type 0 where
    one_tree : {p : Bool} (is : Tree) → T p is → Fits (OfTree p) (ATree is)
    some_trees : {p : Bool} (first second : Tree) (rest : List Tree) → AllOf (T p) (first ∷ second ∷ rest)
        → Fits (OfTrees p) (Trees (first ∷ second ∷ rest))
    some_signs : {p : Bool} (first : Tree) (rest : List Signed) → T p first → AllOf (OfSign (T p)) rest
        → Fits (OfSigns p) (Signs first rest)
    some_fields : {p : Bool} (all : List Field) (others : Rest) → AllOf (OfField (T p) L) all → OfRest (T p) others
        → Fits (OfFields p) (SomeFields all others)
    some_names : {p : Bool} (all : List Declaration) → AllOf (OfName (T p)) all → Fits (OfNames p) (Names all)
    one_regular : {p : Bool} (is : Regular) → R p is → Fits (OfRegular p) (ARegular is)
    some_regulars : {p : Bool} (first second : Regular) (rest : List Regular) → AllOf (R p) (first ∷ second ∷ rest)
        → Fits (OfRegulars p) (Regulars (first ∷ second ∷ rest))
    one_file : (is : Declarations) → D is → Fits OfFile (AFile is)
    one_mark : (is : Post) → Fits OfMark (AMark is)
    one_constant : (is : Constant) → OfValue L is → Fits OfConstant (AConstant is)
    one_expr : (is : Expr) → E is → Fits OfExpr (AnExpr is)
    some_exprs : (first second : Expr) (rest : List Expr) → AllOf E (first ∷ second ∷ rest)
        → Fits OfExprs (Exprs (first ∷ second ∷ rest))
    one_chain : (first : Expr) (next : Tail) (rest : List Tail) → E first → AllOf (OfTail E L) (next ∷ rest)
        → Fits OfChain (AChain first (next ∷ rest))
    some_items : (all : List Item) → AllOf (OfItem E) all → Fits OfItems (Items all)
    some_expr_fields : (all : List exprs.Field) → AllOf (OfExprField E L) all → Fits OfExprFields (ExprFields all)
    some_branches : (first : Branch) (rest : List Branch) → AllOf (OfBranch (T true) E) (first ∷ rest)
        → Fits OfBranches (Branches (first ∷ rest))
    some_signatures : (first : Signature) (rest : List Signature) → AllOf (OfSignature (T false)) (first ∷ rest)
        → Fits OfSignatures (Signatures (first ∷ rest))
    some_steps : (all : List Step) → AllOf (OfStep L) all → Fits OfSteps (Steps all)
    some_sources : (all : List Source) (condition : Option Expr) → AllOf (OfSource (T true) E) all
        → OfCondition E condition → Fits OfSources (Sources all condition)
    one_function : (is : FunctionTree) → F is → Fits OfFunction (AFunction is)
    one_program : (types : List Declaration) (functions : List FunctionTree) → AllOf (OfName (T false)) types
        → AllOf F functions → Fits OfProgram (AProgram types functions)
    one_token : (is : Token) → Fits OfToken (AToken is)
    one_literal : (is : Token) (value : Constant) → constant_of is.kind ≡ Some value → OfValue L value
        → Fits OfLiteral (AToken is)
    one_character : (c : ℕ) (span : Span) → Fits OfCharacter (AToken (at (token.Chars (c ∷ [])) span))
    one_atom : (name : Name) (span : Span) → L name → Fits OfAtom (AToken (at (token.Atom name) span))
    one_label : (is : Token) → L (name_in is.kind) → Fits OfLabel (AToken is)
    one_part : (is : Part) → Fits OfAnything is

  -- what a part of a sort is
  pub tree_in : (p : Bool) (part : Part) → Fits (OfTree p) part → (is : Tree) × (part ≡ ATree is) × T p is
  tree_in p _ (one_tree is so) = (is, refl, so)

  pub file_in : (part : Part) → Fits OfFile part → (is : Declarations) × (part ≡ AFile is) × D is
  file_in _ (one_file is so) = (is, refl, so)

  pub program_in : (part : Part) → Fits OfProgram part
      → (types : List Declaration) × (functions : List FunctionTree) × (part ≡ AProgram types functions)
      × AllOf (OfName (T false)) types × AllOf F functions
  program_in _ (one_program types functions are so) = (types, functions, refl, are, so)

  pub data AreFit : List Sort → List Part → Type 0 where
    none : AreFit [] []
    and : {sort : Sort} {part : Part} {sorts : List Sort} {parts : List Part} → Fits sort part → AreFit sorts parts
        → AreFit (sort ∷ sorts) (part ∷ parts)
