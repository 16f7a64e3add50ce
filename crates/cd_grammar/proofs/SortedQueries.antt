-- What selects and paths stand for is an expression of which the facts hold, where they hold of their parts.
use Rattle.std.proofs.Common.{true, false, List, [], ◌∷◌, ◌++◌, Option, Some, None}
use Rattle.std.specs.List.{AllByRecursion as AllOf}
use Rattle.cd_syntax.specs.Name.{Name}
use Rattle.cd_syntax.specs.declared.tokens.Span.{Span}
use Rattle.cd_syntax.specs.declared.builtin.BuiltinName.TheVariants as builtin
use Rattle.cd_syntax.specs.declared.type_tree.Post.TheVariants as post
use Rattle.cd_syntax.specs.TypeTree.{Tree, Open}
use Rattle.cd_program.specs.declared.operator.Form.TheVariants as form
use Rattle.cd_program.specs.Expr.{Expr, expr, Transform, One, Tail, Select}
use Rattle.cd_query.specs.Core.{Source, one_branch, single, nothing, given, select, content_name, child_name}
use Rattle.cd_query.specs.Core.{anything, any_fields, bound_to, any_items, both, element_pattern, child_pattern}
use Rattle.cd_query.specs.Core.{content_field, attribute_pattern, named, child, attribute, Step, ToField, ToChild}
use Rattle.cd_query.specs.Core.{ToAttribute, closed, up_to, path}
use Rattle.cd_grammar.proofs.SortedParts.{Facts, AreKept, joined, OfTail, OfStep, OfSource, OfCondition}

module _ (facts : Facts) (kept : AreKept facts) where
  open facts use {of_tree as T, of_label as L, of_expr as E}
  open kept use {trees_kept, patterns_kept, exprs_kept, hidden_kept}

  -- `[e]`, `[]`, and a form with one branch
  single_fits : (here : Span) (e : Expr) → E e → E (single here e)
  single_fits here e is = exprs_kept.sequence here (One e ∷ []) (is, tt)

  nothing_fits : (here : Span) → E (nothing here)
  nothing_fits here = exprs_kept.sequence here [] tt

  branch_fits : (here : Span) (value : Expr) (pattern : Tree) (body : Expr) → E value → T true pattern → E body
      → E (expr here (Transform value (one_branch pattern body)))
  branch_fits here value pattern body is so too =
      exprs_kept.matching form.Transform here value (record { pattern = pattern; body = body }) [] is ((so, too), tt)

  -- a select
  given_fits : (here : Span) (condition : Option Expr) (e : Expr) → OfCondition E condition → E e
      → E (given here condition e)
  given_fits here None e so is = single_fits here e is
  given_fits here (Some c) e so is =
      exprs_kept.if_else here c (single here e) (nothing here) so (single_fits here e is) (nothing_fits here)

  pub select_fits : (here : Span) (sources : List Source) (condition : Option Expr) (e : Expr)
      → AllOf (OfSource (T true) E) sources → OfCondition E condition → E e → E (select here sources condition e)
  select_fits here [] condition e are so is = given_fits here condition e so is
  select_fits here (source ∷ more) condition e are so is =
      branch_fits here source.value source.pattern (select here more condition e) are.0.1 are.0.0
      (select_fits here more condition e are.1 so is)

  -- the patterns of a path
  anything_fits : (here : Span) → T true (anything here)
  anything_fits here = (trees_kept true).built_in here builtin.Any

  any_fields_fit : (here : Span) → T true (any_fields here)
  any_fields_fit here = (trees_kept true).fields here [] Open tt tt

  any_items_fit : (here : Span) → T true (any_items here)
  any_items_fit here =
      (trees_kept true).sequence here _
      ((trees_kept true).repeated here _ post.Star ((trees_kept true).item here _ (anything_fits here)))

  both_fit : (here : Span) (first second : Tree) → T true first → T true second → T true (both here first second)
  both_fit here first second is so =
      (trees_kept true).meet here first (record { kept = true; tree = second } ∷ []) is (so, tt)

  element_fits : (here : Span) → T true (element_pattern here)
  element_fits here =
      (trees_kept true).xml here _ _ _ (anything_fits here) (any_fields_fit here)
      (both_fit here _ _ (patterns_kept.variable here content_name hidden_kept.content) (any_items_fit here))

  child_pattern_fits : (here : Span) (label : Name) → L label → T true (child_pattern here label)
  child_pattern_fits here label is =
      both_fit here _ _ (patterns_kept.variable here child_name hidden_kept.child)
      ((trees_kept true).xml here _ _ _ ((trees_kept true).atom here label is) (any_fields_fit here)
      (anything_fits here))

  content_field_fits : (here : Span) (label : Name) → L label → T true (content_field here label)
  content_field_fits here label is =
      (trees_kept true).fields here (record {
        label = label;
        at = here.from;
        optional = false;
        tree = bound_to here content_name;
      } ∷ []) Open ((is, patterns_kept.variable here content_name hidden_kept.content), tt) tt

  attribute_pattern_fits : (here : Span) (label : Name) → L label → T true (attribute_pattern here label)
  attribute_pattern_fits here label is =
      (trees_kept true).xml here _ _ _ (anything_fits here) (content_field_fits here label is) (anything_fits here)

  -- a step
  child_fits : (here sign word : Span) (e : Expr) (label : Name) → E e → L label → E (child here sign word e label)
  child_fits here sign word e label is so =
      branch_fits here e (element_pattern sign) _ is (element_fits sign)
      (branch_fits here (named here content_name) (child_pattern word label) _
      (exprs_kept.variable here content_name hidden_kept.content) (child_pattern_fits word label so)
      (single_fits here (named here child_name) (exprs_kept.variable here child_name hidden_kept.child)))

  attribute_fits : (here sign : Span) (e : Expr) (label : Name) → E e → L label → E (attribute here sign e label)
  attribute_fits here sign e label is so =
      branch_fits here e (attribute_pattern sign label) _ is (attribute_pattern_fits sign label so)
      (single_fits here (named here content_name) (exprs_kept.variable here content_name hidden_kept.content))

  closed_fits : (place : Span) (first : Expr) (tails : List Tail) → E first → AllOf (OfTail E L) tails
      → E (closed place first tails)
  closed_fits place first [] is are = is
  closed_fits place first (tail ∷ more) is are = exprs_kept.chain place first tail more is are

  -- a path
  pub path_fits : (here place : Span) (first : Expr) (tails : List Tail) (steps : List Step) → E first
      → AllOf (OfTail E L) tails → AllOf (OfStep L) steps → E (path here place first tails steps)
  path_fits here place first tails [] is are so = closed_fits place first tails is are
  path_fits here place first tails (ToField word label ∷ rest) is are so =
      path_fits here (up_to here word) first (tails ++ Select label ∷ []) rest is
      (joined (OfTail E L) tails (Select label ∷ []) are (so.0, tt)) so.1
  path_fits here place first tails (ToChild sign word label ∷ rest) is are so =
      let to = up_to here word in
      path_fits here to (child to sign word (closed place first tails) label) [] rest
      (child_fits to sign word (closed place first tails) label (closed_fits place first tails is are) so.0) tt so.1
  path_fits here place first tails (ToAttribute sign word label ∷ rest) is are so =
      let to = up_to here word in
      path_fits here to (attribute to sign (closed place first tails) label) [] rest
      (attribute_fits to sign (closed place first tails) label (closed_fits place first tails is are) so.0) tt so.1
