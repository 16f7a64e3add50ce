-- Selects and paths are in range where their parts are.
use Rattle.std.proofs.Common.{List, [], ◌∷◌, ◌++◌, Option, Some, None}
use Rattle.cd_syntax.specs.Name.{Name}
use Rattle.cd_syntax.specs.declared.tokens.Span.{Span}
use Rattle.cd_syntax.specs.TypeTree.{Tree}
use Rattle.cd_model.specs.AllOf.{AllOf}
use Rattle.cd_model.proofs.Ones.{each_of_lists}
use Rattle.cd_program.specs.Expr.{Expr, expr, Transform, Tail, Select}
use Rattle.cd_query.specs.Core.{Source, one_branch, single, nothing, given, select, named, child, attribute}
use Rattle.cd_query.specs.Core.{element_pattern, child_pattern, attribute_pattern, content_name, child_name, Step}
use Rattle.cd_query.specs.Core.{ToField, ToChild, ToAttribute, closed, up_to, path}
use Rattle.cd_placed.proofs.PartsInRange.{ExprInRange, TailInRange, SourceInRange, ConditionInRange}
use Rattle.cd_placed.proofs.ExprsInRange.{chain_in_range, if_in_range}

-- `[e]`, `[]`, a variable, and a form with one branch
single_in_range : (here : Span) (e : Expr) → ExprInRange e → ExprInRange (single here e)
single_in_range here e is = λ made. (tt, (is made.0, tt))

nothing_in_range : (here : Span) → ExprInRange (nothing here)
nothing_in_range here = λ made. (tt, tt)

named_in_range : (here : Span) (name : Name) → ExprInRange (named here name)
named_in_range here name = λ made. (tt, tt)

branch_in_range : (here : Span) (value : Expr) (pattern : Tree) (body : Expr) → ExprInRange value → ExprInRange body
    → ExprInRange (expr here (Transform value (one_branch pattern body)))
branch_in_range here value pattern body is so = λ made. (tt, (is made.0, (so made.2.1, tt)))

-- a select
given_in_range : (here : Span) (condition : Option Expr) (e : Expr) → ConditionInRange condition → ExprInRange e
    → ExprInRange (given here condition e)
given_in_range here None e so is = single_in_range here e is
given_in_range here (Some c) e so is =
    if_in_range here c (single here e) (nothing here) so (single_in_range here e is) (nothing_in_range here)

pub select_in_range : (here : Span) (sources : List Source) (condition : Option Expr) (e : Expr)
    → AllOf SourceInRange sources → ConditionInRange condition → ExprInRange e
    → ExprInRange (select here sources condition e)
select_in_range here [] condition e are so is = given_in_range here condition e so is
select_in_range here (source ∷ more) condition e are so is =
    branch_in_range here source.value source.pattern (select here more condition e) are.0
    (select_in_range here more condition e are.1 so is)

-- a path
child_in_range : (here sign word : Span) (e : Expr) (label : Name) → ExprInRange e
    → ExprInRange (child here sign word e label)
child_in_range here sign word e label is =
    branch_in_range here e (element_pattern sign) _ is
    (branch_in_range here (named here content_name) (child_pattern word label) _ (named_in_range here content_name)
    (single_in_range here (named here child_name) (named_in_range here child_name)))

attribute_in_range : (here sign : Span) (e : Expr) (label : Name) → ExprInRange e
    → ExprInRange (attribute here sign e label)
attribute_in_range here sign e label is =
    branch_in_range here e (attribute_pattern sign label) _ is
    (single_in_range here (named here content_name) (named_in_range here content_name))

closed_in_range : (place : Span) (first : Expr) (tails : List Tail) → ExprInRange first → AllOf TailInRange tails
    → ExprInRange (closed place first tails)
closed_in_range place first [] is are = is
closed_in_range place first (tail ∷ more) is are = chain_in_range place first (tail ∷ more) is are

pub path_in_range : (here place : Span) (first : Expr) (tails : List Tail) (steps : List Step) → ExprInRange first
    → AllOf TailInRange tails → ExprInRange (path here place first tails steps)
path_in_range here place first tails [] is are = closed_in_range place first tails is are
path_in_range here place first tails (ToField word label ∷ rest) is are =
    path_in_range here (up_to here word) first (tails ++ Select label ∷ []) rest is
    (each_of_lists TailInRange tails (Select label ∷ []) are (tt, tt))
path_in_range here place first tails (ToChild sign word label ∷ rest) is are =
    let to = up_to here word in
    path_in_range here to (child to sign word (closed place first tails) label) [] rest
    (child_in_range to sign word (closed place first tails) label (closed_in_range place first tails is are)) tt
path_in_range here place first tails (ToAttribute sign word label ∷ rest) is are =
    let to = up_to here word in
    path_in_range here to (attribute to sign (closed place first tails) label) [] rest
    (attribute_in_range to sign (closed place first tails) label (closed_in_range place first tails is are)) tt
