-- Expressions are in range where their parts are.
use Rattle.std.proofs.Common.{List, [], ◌∷◌}
use Rattle.cd_syntax.specs.declared.tokens.Span.{Span}
use Rattle.cd_model.specs.AllOf.{AllOf}
use Rattle.cd_program.specs.declared.operator.Form.{Form}
use Rattle.cd_program.specs.declared.operator.Form.TheVariants as forms
use Rattle.cd_program.specs.Expr.{Expr, expr, exprs_of, Item, One, Splice, Run, items_of, Field, fields_of, Tail}
use Rattle.cd_program.specs.Expr.{Operand, Without, Select, tails_of, Branch, branches_of, of_form}
use Rattle.cd_safety.specs.PatternsIn.{EachOfExprs, EachOfItems, EachOfFields, EachOfTails, EachOfBranches}
use Rattle.cd_nodes.specs.ConstantsInRange.{ConstantsInRange}
use Rattle.cd_texts.proofs.PartsInRange.{ExprInRange, ItemInRange, FieldInRange, TailInRange, BranchInRange}

pub exprs_in_range : (all : List Expr) → AllOf ExprInRange all → EachOfExprs ConstantsInRange (exprs_of all)
exprs_in_range [] are = tt
exprs_in_range (e ∷ rest) are = (are.0, exprs_in_range rest are.1)

pub row_in_range : (all : List Item) → AllOf ItemInRange all → EachOfItems ConstantsInRange (items_of all)
row_in_range [] are = tt
row_in_range (One e ∷ rest) are = (are.0, row_in_range rest are.1)
row_in_range (Splice e ∷ rest) are = (are.0, row_in_range rest are.1)
row_in_range (Run characters ∷ rest) are = row_in_range rest are.1

pub fields_in_range : (all : List Field) → AllOf FieldInRange all → EachOfFields ConstantsInRange (fields_of all)
fields_in_range [] are = tt
fields_in_range (one ∷ rest) are = (are.0, fields_in_range rest are.1)

pub tails_in_range : (all : List Tail) → AllOf TailInRange all → EachOfTails ConstantsInRange (tails_of all)
tails_in_range [] are = tt
tails_in_range (Operand op e ∷ rest) are = (are.0, tails_in_range rest are.1)
tails_in_range (Without label ∷ rest) are = tails_in_range rest are.1
tails_in_range (Select label ∷ rest) are = tails_in_range rest are.1

pub branches_in_range : (all : List Branch) → AllOf BranchInRange all
    → EachOfBranches ConstantsInRange (branches_of all)
branches_in_range [] are = tt
branches_in_range (one ∷ rest) are = (are.0.0, are.0.1, branches_in_range rest are.1)

pub matching_in_range : (form : Form) (here : Span) (value : Expr) (all : List Branch) → ExprInRange value
    → AllOf BranchInRange all → ExprInRange (expr here (of_form form value (branches_of all)))
matching_in_range forms.Match here value all is are = (is, branches_in_range all are)
matching_in_range forms.Try here value all is are = (is, branches_in_range all are)
matching_in_range forms.Map here value all is are = (is, branches_in_range all are)
matching_in_range forms.Transform here value all is are = (is, branches_in_range all are)
