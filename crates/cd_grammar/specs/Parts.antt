-- What a rule of the grammar makes.
use Rattle.std.specs.Prelude.{List, Option, Some, None}
use Rattle.cd_syntax.specs.declared.tokens.Token.{Token}
use Rattle.cd_syntax.specs.declared.type_tree.Post.{Post}
use Rattle.cd_syntax.specs.declared.constant.Constant.{Constant}
use Rattle.cd_syntax.specs.TypeTree.{Tree, Signed, Field, Declaration, Declarations, Regular}
use Rattle.cd_syntax.specs.TypeTree.{Rest}
use Rattle.cd_program.specs.Expr.{Expr, Tail, Item, Field as ExprField, Branch, Signature}
use Rattle.cd_program.specs.Expr.{FunctionTree}
use Rattle.cd_query.specs.Core.{Step, Source}

pub data Part : Type 0 where
  AToken : Token → Part
  -- of types and patterns: a tree, an expression of sequences, the sign after one, or rows of such
  ATree : Tree → Part
  Trees : List Tree → Part
  Signs : (first : Tree) → List Signed → Part
  SomeFields : List Field → Rest → Part
  Names : List Declaration → Part
  AFile : Declarations → Part
  ARegular : Regular → Part
  Regulars : List Regular → Part
  AMark : Post → Part
  AConstant : Constant → Part
  -- of programs
  AnExpr : Expr → Part
  Exprs : List Expr → Part
  AChain : (first : Expr) → List Tail → Part
  Items : List Item → Part
  ExprFields : List ExprField → Part
  Branches : List Branch → Part
  Signatures : List Signature → Part
  Steps : List Step → Part
  Sources : List Source → (condition : Option Expr) → Part
  AFunction : FunctionTree → Part
  AProgram : List Declaration → List FunctionTree → Part
  -- nothing of use
  Junk : Part

-- what a part is, where it is of one form
abbrev pub token_in : Part → Option Token
token_in (AToken is) = Some is
token_in _ = None

abbrev pub tree_in : Part → Option Tree
tree_in (ATree is) = Some is
tree_in _ = None

abbrev pub trees_in : Part → Option (List Tree)
trees_in (Trees all) = Some all
trees_in _ = None

abbrev pub signs_in : Part → Option (Tree × List Signed)
signs_in (Signs first rest) = Some (first, rest)
signs_in _ = None

abbrev pub fields_in : Part → Option (List Field × Rest)
fields_in (SomeFields all rest) = Some (all, rest)
fields_in _ = None

abbrev pub names_in : Part → Option (List Declaration)
names_in (Names all) = Some all
names_in _ = None

abbrev pub regular_in : Part → Option Regular
regular_in (ARegular is) = Some is
regular_in _ = None

abbrev pub regulars_in : Part → Option (List Regular)
regulars_in (Regulars all) = Some all
regulars_in _ = None

abbrev pub mark_in : Part → Option Post
mark_in (AMark mark) = Some mark
mark_in _ = None

abbrev pub constant_in : Part → Option Constant
constant_in (AConstant is) = Some is
constant_in _ = None

abbrev pub expr_in : Part → Option Expr
expr_in (AnExpr is) = Some is
expr_in _ = None

abbrev pub exprs_in : Part → Option (List Expr)
exprs_in (Exprs all) = Some all
exprs_in _ = None

abbrev pub chain_in : Part → Option (Expr × List Tail)
chain_in (AChain first rest) = Some (first, rest)
chain_in _ = None

abbrev pub items_in : Part → Option (List Item)
items_in (Items all) = Some all
items_in _ = None

abbrev pub expr_fields_in : Part → Option (List ExprField)
expr_fields_in (ExprFields all) = Some all
expr_fields_in _ = None

abbrev pub branches_in : Part → Option (List Branch)
branches_in (Branches all) = Some all
branches_in _ = None

abbrev pub signatures_in : Part → Option (List Signature)
signatures_in (Signatures all) = Some all
signatures_in _ = None

abbrev pub steps_in : Part → Option (List Step)
steps_in (Steps all) = Some all
steps_in _ = None

abbrev pub sources_in : Part → Option (List Source × Option Expr)
sources_in (Sources all condition) = Some (all, condition)
sources_in _ = None

abbrev pub function_in : Part → Option FunctionTree
function_in (AFunction is) = Some is
function_in _ = None

abbrev pub program_in : Part → Option (List Declaration × List FunctionTree)
program_in (AProgram types functions) = Some (types, functions)
program_in _ = None

-- what is made of parts that are of their forms
abbrev pub of_one : {A : Type 0} → Option A → (A → Part) → Part
of_one None make = Junk
of_one (Some a) make = make a

abbrev pub of_two : {A B : Type 0} → Option A → Option B → (A → B → Part) → Part
of_two None b make = Junk
of_two (Some a) None make = Junk
of_two (Some a) (Some b) make = make a b

abbrev pub of_three : {A B C : Type 0} → Option A → Option B → Option C → (A → B → C → Part)
    → Part
of_three None b c make = Junk
of_three (Some a) None c make = Junk
of_three (Some a) (Some b) None make = Junk
of_three (Some a) (Some b) (Some c) make = make a b c

abbrev pub of_four : {A B C D : Type 0} → Option A → Option B → Option C → Option D
    → (A → B → C → D → Part) → Part
of_four None b c d make = Junk
of_four (Some a) None c d make = Junk
of_four (Some a) (Some b) None d make = Junk
of_four (Some a) (Some b) (Some c) None make = Junk
of_four (Some a) (Some b) (Some c) (Some d) make = make a b c d
