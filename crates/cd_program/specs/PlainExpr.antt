-- The expressions of the code as plain data.
use Rattle.std.specs.Prelude.{List, map}
use Rattle.cd_syntax.specs.PlainTree.{plain as plain_tree}
use Rattle.cd_program.specs.Expr.{Signature, Expr, expr, Kind, Constant, Variable, Tuple, Sequence}
use Rattle.cd_program.specs.Expr.{Record, Xml, Function, Apply, Match, Try, Map, Transform, Let, If}
use Rattle.cd_program.specs.Expr.{Chain, Call, Exprs, Items, Item, One, Splice, Run, Fields, Tails}
use Rattle.cd_program.specs.Expr.{Tail, Operand, Without, Select, Branches, FunctionTree, function}
use Rattle.cd_program.specs.Expr.{Field, Branch, exprs_of, items_of, fields_of, tails_of}
use Rattle.cd_program.specs.Expr.{branches_of}
use Rattle.cd_program.specs.declared.expr.ExprKind.TheOpen as layer
use Rattle.cd_program.specs.declared.expr.Signature.{Signature as CodeSignature}
use Rattle.cd_program.specs.declared.expr.Interface.{Interface as CodeInterface}
use Rattle.cd_program.specs.declared.expr.ExprKind.{ExprKind as CodeExprKind, ExprKind-F, fold-ExprKind}
use Rattle.cd_program.specs.declared.expr.Item.{Item as CodeItem, Item-F, fold-Item}
use Rattle.cd_program.specs.declared.expr.Tail.{Tail as CodeTail, Tail-F, fold-Tail}
use Rattle.cd_program.specs.declared.expr.Branch.{Branch as CodeBranch, Branch-F, fold-Branch}
use Rattle.cd_program.specs.declared.expr.Branches.{Branches as CodeBranches, Branches-F, fold-Branches}
use Rattle.cd_program.specs.declared.expr.Expr.{Expr as CodeExpr, Expr-F, fold-Expr}
use Rattle.cd_program.specs.declared.expr.Exprs.{Exprs as CodeExprs, Exprs-F, fold-Exprs}
use Rattle.cd_program.specs.declared.expr.FieldExpr.{FieldExpr as CodeFieldExpr, FieldExpr-F, fold-FieldExpr}
use Rattle.cd_program.specs.declared.expr.FieldExprs.{FieldExprs as CodeFieldExprs, FieldExprs-F, fold-FieldExprs}
use Rattle.cd_program.specs.declared.expr.FunctionTree.{FunctionTree as CodeFunctionTree, FunctionTree-F, fold-FunctionTree}
use Rattle.cd_program.specs.declared.expr.Items.{Items as CodeItems, Items-F, fold-Items}
use Rattle.cd_program.specs.declared.expr.Tails.{Tails as CodeTails, Tails-F, fold-Tails}

-- an interface
abbrev pub plain_signature : CodeSignature → Signature
plain_signature one = record { takes = plain_tree one.takes; gives = plain_tree one.gives }

abbrev pub plain_interface : CodeInterface → List Signature
plain_interface list = map plain_signature list.items.items

-- one layer of each, whose parts are plain
abbrev pub kind_layer : ExprKind-F Kind Item Tail Branch Branches Expr Exprs Field Fields
    FunctionTree Items Tails → Kind
kind_layer (layer.Constant constant) = Constant constant
kind_layer (layer.Variable name) = Variable name
kind_layer (layer.Tuple exprs) = Tuple exprs
kind_layer (layer.Sequence items) = Sequence items
kind_layer (layer.Record fields) = Record fields
kind_layer (layer.Xml tag attributes content) = Xml tag.value attributes.value content.value
kind_layer (layer.Function is) = Function is.value
kind_layer (layer.Apply exprs) = Apply exprs
kind_layer (layer.Match value branches) = Match value.value branches
kind_layer (layer.Try value branches) = Try value.value branches
kind_layer (layer.Map value branches) = Map value.value branches
kind_layer (layer.Transform value branches) = Transform value.value branches
kind_layer (layer.Let pattern value rest) = Let (plain_tree pattern.value) value.value rest.value
kind_layer (layer.If condition then_one else_one) =
    If condition.value then_one.value else_one.value
kind_layer (layer.Chain first tails) = Chain first.value tails
kind_layer (layer.Call word value) = Call word value.value

abbrev pub item_layer : Item-F Kind Item Tail Branch Branches Expr Exprs Field Fields
    FunctionTree Items Tails → Item
item_layer (layer.One is) = One is.value
item_layer (layer.Splice is) = Splice is.value
item_layer (layer.Run characters) = Run characters

abbrev pub tail_layer : Tail-F Kind Item Tail Branch Branches Expr Exprs Field Fields
    FunctionTree Items Tails → Tail
tail_layer (layer.Operand op is) = Operand op is.value
tail_layer (layer.Without label) = Without label
tail_layer (layer.Select label) = Select label

abbrev pub branch_layer : Branch-F Kind Item Tail Branch Branches Expr Exprs Field Fields
    FunctionTree Items Tails → Branch
branch_layer one = record { pattern = plain_tree one.pattern; body = one.body }

abbrev pub branches_layer : Branches-F Kind Item Tail Branch Branches Expr Exprs Field Fields
    FunctionTree Items Tails → Branches
branches_layer list = branches_of list.items.items

abbrev pub expr_layer : Expr-F Kind Item Tail Branch Branches Expr Exprs Field Fields
    FunctionTree Items Tails → Expr
expr_layer one = expr one.span one.kind

abbrev pub exprs_layer : Exprs-F Kind Item Tail Branch Branches Expr Exprs Field Fields
    FunctionTree Items Tails → Exprs
exprs_layer list = exprs_of list.items.items

abbrev pub field_layer : FieldExpr-F Kind Item Tail Branch Branches Expr Exprs Field Fields
    FunctionTree Items Tails → Field
field_layer one = record { label = one.label; at = one.at; expr = one.expr }

abbrev pub fields_layer : FieldExprs-F Kind Item Tail Branch Branches Expr Exprs Field Fields
    FunctionTree Items Tails → Fields
fields_layer list = fields_of list.items.items

abbrev pub function_layer : FunctionTree-F Kind Item Tail Branch Branches Expr Exprs Field
    Fields FunctionTree Items Tails → FunctionTree
function_layer one =
    function one.at one.name one.name_at (plain_interface one.interface) one.branches

abbrev pub items_layer : Items-F Kind Item Tail Branch Branches Expr Exprs Field Fields
    FunctionTree Items Tails → Items
items_layer list = items_of list.items.items

abbrev pub tails_layer : Tails-F Kind Item Tail Branch Branches Expr Exprs Field Fields
    FunctionTree Items Tails → Tails
tails_layer list = tails_of list.items.items

-- the plain data that each is
abbrev pub plain_kind : CodeExprKind → Kind
plain_kind =
    fold-ExprKind Kind Item Tail Branch Branches Expr Exprs Field Fields FunctionTree Items
    Tails kind_layer item_layer tail_layer branch_layer branches_layer expr_layer exprs_layer
    field_layer fields_layer function_layer items_layer tails_layer

abbrev pub plain_item : CodeItem → Item
plain_item =
    fold-Item Kind Item Tail Branch Branches Expr Exprs Field Fields FunctionTree Items Tails
    kind_layer item_layer tail_layer branch_layer branches_layer expr_layer exprs_layer
    field_layer fields_layer function_layer items_layer tails_layer

abbrev pub plain_tail : CodeTail → Tail
plain_tail =
    fold-Tail Kind Item Tail Branch Branches Expr Exprs Field Fields FunctionTree Items Tails
    kind_layer item_layer tail_layer branch_layer branches_layer expr_layer exprs_layer
    field_layer fields_layer function_layer items_layer tails_layer

abbrev pub plain_branch : CodeBranch → Branch
plain_branch =
    fold-Branch Kind Item Tail Branch Branches Expr Exprs Field Fields FunctionTree Items Tails
    kind_layer item_layer tail_layer branch_layer branches_layer expr_layer exprs_layer
    field_layer fields_layer function_layer items_layer tails_layer

abbrev pub plain_branches : CodeBranches → Branches
plain_branches =
    fold-Branches Kind Item Tail Branch Branches Expr Exprs Field Fields FunctionTree Items
    Tails kind_layer item_layer tail_layer branch_layer branches_layer expr_layer exprs_layer
    field_layer fields_layer function_layer items_layer tails_layer

abbrev pub plain : CodeExpr → Expr
plain =
    fold-Expr Kind Item Tail Branch Branches Expr Exprs Field Fields FunctionTree Items Tails
    kind_layer item_layer tail_layer branch_layer branches_layer expr_layer exprs_layer
    field_layer fields_layer function_layer items_layer tails_layer

abbrev pub plain_exprs : CodeExprs → Exprs
plain_exprs =
    fold-Exprs Kind Item Tail Branch Branches Expr Exprs Field Fields FunctionTree Items Tails
    kind_layer item_layer tail_layer branch_layer branches_layer expr_layer exprs_layer
    field_layer fields_layer function_layer items_layer tails_layer

abbrev pub plain_field : CodeFieldExpr → Field
plain_field =
    fold-FieldExpr Kind Item Tail Branch Branches Expr Exprs Field Fields FunctionTree Items
    Tails kind_layer item_layer tail_layer branch_layer branches_layer expr_layer exprs_layer
    field_layer fields_layer function_layer items_layer tails_layer

abbrev pub plain_fields : CodeFieldExprs → Fields
plain_fields =
    fold-FieldExprs Kind Item Tail Branch Branches Expr Exprs Field Fields FunctionTree Items
    Tails kind_layer item_layer tail_layer branch_layer branches_layer expr_layer exprs_layer
    field_layer fields_layer function_layer items_layer tails_layer

abbrev pub plain_function : CodeFunctionTree → FunctionTree
plain_function =
    fold-FunctionTree Kind Item Tail Branch Branches Expr Exprs Field Fields FunctionTree Items
    Tails kind_layer item_layer tail_layer branch_layer branches_layer expr_layer exprs_layer
    field_layer fields_layer function_layer items_layer tails_layer

abbrev pub plain_items : CodeItems → Items
plain_items =
    fold-Items Kind Item Tail Branch Branches Expr Exprs Field Fields FunctionTree Items Tails
    kind_layer item_layer tail_layer branch_layer branches_layer expr_layer exprs_layer
    field_layer fields_layer function_layer items_layer tails_layer

abbrev pub plain_tails : CodeTails → Tails
plain_tails =
    fold-Tails Kind Item Tail Branch Branches Expr Exprs Field Fields FunctionTree Items Tails
    kind_layer item_layer tail_layer branch_layer branches_layer expr_layer exprs_layer
    field_layer fields_layer function_layer items_layer tails_layer
