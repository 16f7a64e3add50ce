-- Expressions and functions are in range where their parts are.
use Rattle.std.proofs.Common.{ℕ, List, [], ◌∷◌, Option, Some, None}
use Rattle.std.specs.Char.{IsScalar}
use Rattle.cd_syntax.specs.Name.{Name}
use Rattle.cd_syntax.specs.declared.tokens.Span.{Span}
use Rattle.cd_syntax.specs.declared.tokens.Token.{Token}
use Rattle.cd_syntax.specs.declared.tokens.TokenKind.{TokenKind}
use Rattle.cd_syntax.specs.declared.tokens.TokenKind.TheVariants as kinds
use Rattle.cd_syntax.specs.TypeTree.{Tree}
use Rattle.cd_model.specs.AllOf.{AllOf}
use Rattle.cd_model.specs.Thing.{IsElement}
use Rattle.cd_model.proofs.SoundBuiltIns.{nil_is_label}
use Rattle.cd_matching.specs.Sequences.{text_of}
use Rattle.cd_program.specs.declared.operator.BuiltIn.{BuiltIn}
use Rattle.cd_program.specs.declared.operator.Form.{Form}
use Rattle.cd_program.specs.declared.operator.Form.TheVariants as forms
use Rattle.cd_program.specs.Expr as exprs
use Rattle.cd_program.specs.Expr.{Expr, expr, exprs_of, Item, One, Splice, Run, items_of, Field, fields_of, Tail}
use Rattle.cd_program.specs.Expr.{Operand, Without, Select, tails_of, Branch, branches_of, of_form, Signature}
use Rattle.cd_program.specs.Expr.{FunctionTree, function}
use Rattle.cd_program.specs.WellMade.{AreWellMadeExprs, AreWellMadeItems, AreWellMadeExprFields, AreWellMadeTails}
use Rattle.cd_program.specs.WellMade.{AreWellMadeBranches}
use Rattle.cd_safety.specs.KindsIn.{KindsOfExprs, KindsOfItems, KindsOfFields, KindsOfTails, KindsOfBranches}
use Rattle.cd_safety.specs.WellWritten.{InRange, HaveCharacters}
use Rattle.cd_grammar.specs.Parts.{AnExpr, of_one}
use Rattle.cd_grammar.specs.Actions.{constant_of, characters_in, name_in}
use Rattle.cd_grammar.specs.ProgramActions.{named, no_attributes_expr}
use Rattle.cd_placed.proofs.TokensInRange.{TokenInRange}
use Rattle.cd_placed.proofs.PartsInRange.{ExprInRange, FunctionInRange, ItemInRange, FieldInRange, TailInRange}
use Rattle.cd_placed.proofs.PartsInRange.{BranchInRange, PartInRange}

-- constants
text_is_element : (text : List ℕ) → AllOf IsScalar text → IsElement (text_of text)
text_is_element [] are = nil_is_label
text_is_element (c ∷ text) are = (are.0, text_is_element text are.1)

pub constant_in_range : (here : Span) (kind : TokenKind) → TokenInRange kind
    → PartInRange (of_one (constant_of kind) (λ is. AnExpr (expr here (exprs.Constant is))))
constant_in_range here (kinds.Int n) fits = λ made. (fits, tt)
constant_in_range here (kinds.Chars (c ∷ [])) are = λ made. (are.0, tt)
constant_in_range here (kinds.Text characters) are = λ made. (text_is_element characters are, tt)
constant_in_range here (kinds.Atom name) is = λ made. (made, tt)
constant_in_range here _ is = tt

pub run_in_range : (kind : TokenKind) → TokenInRange kind → AllOf IsScalar (characters_in kind)
run_in_range (kinds.Chars characters) are = are
run_in_range (kinds.Text characters) are = are
run_in_range (kinds.Atom name) are = are
run_in_range _ is = tt

-- rows
exprs_in_range : (all : List Expr) → AllOf ExprInRange all → AreWellMadeExprs (exprs_of all)
    → KindsOfExprs InRange (exprs_of all)
exprs_in_range [] are made = tt
exprs_in_range (e ∷ rest) are made = (are.0 made.0, exprs_in_range rest are.1 made.1)

have_characters : (all : List Item) → AllOf ItemInRange all → HaveCharacters (items_of all)
have_characters [] are = tt
have_characters (One e ∷ rest) are = have_characters rest are.1
have_characters (Splice e ∷ rest) are = have_characters rest are.1
have_characters (Run characters ∷ rest) are = (are.0, have_characters rest are.1)

items_in_range : (all : List Item) → AllOf ItemInRange all → AreWellMadeItems (items_of all)
    → KindsOfItems InRange (items_of all)
items_in_range [] are made = tt
items_in_range (One e ∷ rest) are made = (are.0 made.0, items_in_range rest are.1 made.1)
items_in_range (Splice e ∷ rest) are made = (are.0 made.0, items_in_range rest are.1 made.1)
items_in_range (Run characters ∷ rest) are made = items_in_range rest are.1 made.1

fields_in_range : (all : List Field) → AllOf FieldInRange all → AreWellMadeExprFields (fields_of all)
    → KindsOfFields InRange (fields_of all)
fields_in_range [] are made = tt
fields_in_range (one ∷ rest) are made = (are.0 made.1, fields_in_range rest are.1 made.2)

tails_in_range : (all : List Tail) → AllOf TailInRange all → AreWellMadeTails (tails_of all)
    → KindsOfTails InRange (tails_of all)
tails_in_range [] are made = tt
tails_in_range (Operand op e ∷ rest) are made = (are.0 made.0, tails_in_range rest are.1 made.1)
tails_in_range (Without label ∷ rest) are made = tails_in_range rest are.1 made.1
tails_in_range (Select label ∷ rest) are made = tails_in_range rest are.1 made.1

branches_in_range : (all : List Branch) → AllOf BranchInRange all → AreWellMadeBranches (branches_of all)
    → KindsOfBranches InRange (branches_of all)
branches_in_range [] are made = tt
branches_in_range (one ∷ rest) are made = (are.0 made.1, branches_in_range rest are.1 made.2)

-- expressions of rows
pub tuple_in_range : (here : Span) (all : List Expr) → AllOf ExprInRange all
    → ExprInRange (expr here (exprs.Tuple (exprs_of all)))
tuple_in_range here all are = λ made. (tt, exprs_in_range all are made.1)

pub apply_in_range : (here : Span) (all : List Expr) → AllOf ExprInRange all
    → ExprInRange (expr here (exprs.Apply (exprs_of all)))
apply_in_range here all are = λ made. (tt, exprs_in_range all are made.1)

pub sequence_in_range : (here : Span) (all : List Item) → AllOf ItemInRange all
    → ExprInRange (expr here (exprs.Sequence (items_of all)))
sequence_in_range here all are = λ made. (have_characters all are, items_in_range all are made)

pub record_in_range : (here : Span) (all : List Field) → AllOf FieldInRange all
    → ExprInRange (expr here (exprs.Record (fields_of all)))
record_in_range here all are = λ made. (tt, fields_in_range all are made)

pub chain_in_range : (here : Span) (first : Expr) (rest : List Tail) → ExprInRange first → AllOf TailInRange rest
    → ExprInRange (expr here (exprs.Chain first (tails_of rest)))
chain_in_range here first rest is are = λ made. (tt, (is made.0, tails_in_range rest are made.2))

pub matching_in_range : (form : Form) (here : Span) (value : Expr) (all : List Branch) → ExprInRange value
    → AllOf BranchInRange all → ExprInRange (expr here (of_form form value (branches_of all)))
matching_in_range forms.Match here value all is are = λ made. (tt, (is made.0, branches_in_range all are made.2))
matching_in_range forms.Try here value all is are = λ made. (tt, (is made.0, branches_in_range all are made.2))
matching_in_range forms.Map here value all is are = λ made. (tt, (is made.0, branches_in_range all are made.2))
matching_in_range forms.Transform here value all is are = λ made. (tt, (is made.0, branches_in_range all are made.2))

-- expressions of one, two or three
pub call_in_range : (word : BuiltIn) (here : Span) (e : Expr) → ExprInRange e
    → ExprInRange (expr here (exprs.Call word e))
call_in_range word here e is = λ made. (tt, is made)

pub xml_in_range : (here : Span) (tag attributes content : Expr) → ExprInRange tag → ExprInRange attributes
    → ExprInRange content → ExprInRange (expr here (exprs.Xml tag attributes content))
xml_in_range here tag attributes content is so too = λ made. (tt, (is made.0, so made.1, too made.2))

pub let_in_range : (here : Span) (pattern : Tree) (value rest : Expr) → ExprInRange value → ExprInRange rest
    → ExprInRange (expr here (exprs.Let pattern value rest))
let_in_range here pattern value rest is so = λ made. (tt, (is made.1, so made.2))

pub if_in_range : (here : Span) (condition one other : Expr) → ExprInRange condition → ExprInRange one
    → ExprInRange other → ExprInRange (expr here (exprs.If condition one other))
if_in_range here condition one other is so too = λ made. (tt, (is made.0, so made.1, too made.2))

-- functions
function_in_range : (at : ℕ) (name : Option Name) (name_at : ℕ) (interface : List Signature) (all : List Branch)
    → AllOf BranchInRange all → FunctionInRange (function at name name_at interface (branches_of all))
function_in_range at name name_at interface all are = λ made. branches_in_range all are made.4

of_function_in_range : (here : Span) (f : FunctionTree) → FunctionInRange f → ExprInRange (expr here (exprs.Function f))
of_function_in_range here f is = λ made. (tt, is made)

pub unnamed_in_range : (here : Span) (at : ℕ) (interface : List Signature) (all : List Branch)
    → AllOf BranchInRange all
    → ExprInRange (expr here (exprs.Function (function at None at interface (branches_of all))))
unnamed_in_range here at interface all are =
    of_function_in_range here (function at None at interface (branches_of all))
    (function_in_range at None at interface all are)

pub named_in_range : (word name : Token) (interface : List Signature) (all : List Branch) → AllOf BranchInRange all
    → FunctionInRange (named word name interface all)
named_in_range word name interface all are =
    function_in_range word.span.from (Some (name_in name.kind)) name.span.from interface all are

pub of_named_in_range : (here : Span) (word name : Token) (interface : List Signature) (all : List Branch)
    → AllOf BranchInRange all → ExprInRange (expr here (exprs.Function (named word name interface all)))
of_named_in_range here word name interface all are =
    of_function_in_range here (named word name interface all) (named_in_range word name interface all are)

-- an element has no constants in attributes that are not written
pub bare_xml_in_range : (here : Span) (at : ℕ) (tag content : Expr) → ExprInRange tag → ExprInRange content
    → ExprInRange (expr here (exprs.Xml tag (no_attributes_expr at) content))
bare_xml_in_range here at tag content is so =
    xml_in_range here tag (no_attributes_expr at) content is (λ made. (tt, tt)) so
