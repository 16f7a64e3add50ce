-- Selects and paths are in range where their parts are.
use Rattle.std.proofs.Common.{List, [], ◌∷◌, ◌++◌, Option, Some, None}
use Rattle.cd_syntax.specs.Name.{Name}
use Rattle.cd_syntax.specs.declared.tokens.Span.{Span}
use Rattle.cd_model.specs.AllOf.{AllOf}
use Rattle.cd_model.proofs.Ones.{each_of_lists}
use Rattle.cd_program.specs.Expr.{Expr, Tail, Select}
use Rattle.cd_query.specs.Core.{Source, given, select, child, attribute, Step, ToField, ToChild, ToAttribute, closed}
use Rattle.cd_query.specs.Core.{element_pattern, child_pattern, attribute_pattern, up_to, path}
use Rattle.cd_nodes.specs.ConstantsInRange.{ConstantsInRange}
use Rattle.cd_texts.proofs.PartsInRange.{ExprInRange, TailInRange, SourceInRange, ConditionInRange}
use Rattle.cd_texts.proofs.ExprsInRange.{tails_in_range}

-- a select
given_in_range : (here : Span) (condition : Option Expr) (e : Expr) → ConditionInRange condition → ExprInRange e
    → ExprInRange (given here condition e)
given_in_range here None e so is = (is, tt)
given_in_range here (Some c) e so is = (so, (is, tt), tt)

pub select_in_range : (here : Span) (sources : List Source) (condition : Option Expr) (e : Expr)
    → AllOf SourceInRange sources → ConditionInRange condition → ExprInRange e
    → ExprInRange (select here sources condition e)
select_in_range here [] condition e are so is = given_in_range here condition e so is
select_in_range here (source ∷ more) condition e are so is =
    (are.0.1, (are.0.0, select_in_range here more condition e are.1 so is, tt))

-- the patterns of a path have no constants
element_in_range : (here : Span) → ConstantsInRange (element_pattern here)
element_in_range here = (tt, (tt, tt), (tt, (tt, tt)))

inner_in_range : (here : Span) (label : Name) → ConstantsInRange (child_pattern here label)
inner_in_range here label = (tt, ((tt, (tt, tt), tt), tt))

value_in_range : (here : Span) (label : Name) → ConstantsInRange (attribute_pattern here label)
value_in_range here label = (tt, ((tt, tt), tt), tt)

-- a path
child_in_range : (here sign word : Span) (e : Expr) (label : Name) → ExprInRange e
    → ExprInRange (child here sign word e label)
child_in_range here sign word e label is =
    (is, (element_in_range sign, (tt, (inner_in_range word label, (tt, tt), tt)), tt))

attribute_in_range : (here sign : Span) (e : Expr) (label : Name) → ExprInRange e
    → ExprInRange (attribute here sign e label)
attribute_in_range here sign e label is = (is, (value_in_range sign label, (tt, tt), tt))

closed_in_range : (place : Span) (first : Expr) (tails : List Tail) → ExprInRange first → AllOf TailInRange tails
    → ExprInRange (closed place first tails)
closed_in_range place first [] is are = is
closed_in_range place first (tail ∷ more) is are = (is, tails_in_range (tail ∷ more) are)

pub path_in_range : (here place : Span) (first : Expr) (tails : List Tail) (steps : List Step) → ExprInRange first
    → AllOf TailInRange tails → ExprInRange (path here place first tails steps)
path_in_range here place first tails [] is are = closed_in_range place first tails is are
path_in_range here place first tails (ToField word label ∷ rest) is are =
    path_in_range here (up_to here word) first (tails ++ Select label ∷ []) rest is
    (each_of_lists TailInRange tails (Select label ∷ []) are (tt, tt))
path_in_range here place first tails (ToChild sign word label ∷ rest) is are =
    let to = up_to here word in
    path_in_range here to (child to sign word (closed place first tails) label) [] rest
    (child_in_range to sign word (closed place first tails) label (closed_in_range place first tails is are)) tt
path_in_range here place first tails (ToAttribute sign word label ∷ rest) is are =
    let to = up_to here word in
    path_in_range here to (attribute to sign (closed place first tails) label) [] rest
    (attribute_in_range to sign (closed place first tails) label (closed_in_range place first tails is are)) tt
