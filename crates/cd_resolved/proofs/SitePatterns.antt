-- The patterns of the sites of a program are patterns of the program.
use Rattle.std.proofs.Common.{◌≡◌, List, [], ◌∷◌, ◌++◌, inl, inr, refl}
use Rattle.cd_syntax.specs.TypeTree.{Tree}
use Rattle.cd_model.specs.AllOf.{AllOf, AnyOf}
use Rattle.cd_model.proofs.Covered.{each_both, each_parts}
use Rattle.cd_model.proofs.Ones.{each_weaker}
use Rattle.cd_program.specs.Expr.{Expr, expr, Kind, Constant, Variable, Tuple, Sequence, Record, Xml}
use Rattle.cd_program.specs.Expr.{Function, Apply, Match, Try, Map, Transform, Let, If, Chain, Call}
use Rattle.cd_program.specs.Expr.{Exprs, NoExpr, AnExpr, Items, NoItem, AnItem, One, Splice, Run}
use Rattle.cd_program.specs.Expr.{Fields, NoField, AField, Tails, NoTail, ATail, Operand, Without, Select}
use Rattle.cd_program.specs.Expr.{Branches, NoBranch, ABranch, FunctionTree, function, Program}
use Rattle.cd_typing.specs.Branches.{patterns_of}
use Rattle.cd_typing.specs.Sites.{SiteKind, Closed, Catching, Filtering, Site, site, sites_in, sites_in_kind, sites_in_exprs, sites_in_items, sites_in_fields}
use Rattle.cd_typing.specs.Sites.{sites_in_tails, sites_in_branches, sites_of_function, sites_of_functions, all_sites}
use Rattle.cd_placed.specs.Patterns.{patterns_in, patterns_in_kind, patterns_in_exprs, patterns_in_items, patterns_in_fields}
use Rattle.cd_placed.specs.Patterns.{patterns_in_tails, patterns_in_branches, patterns_of_function, patterns_of_functions, all_patterns}
use Rattle.cd_resolved.specs.Parts.{IsPatternOf}

-- what all patterns have, the patterns of each site have
module _ (Fact : Tree → Type 0) where
  abbrev Are : List Tree → Type 0
  Are all = AllOf Fact all

  abbrev Have : List Site → Type 0
  Have sites = AllOf (λ site. AllOf Fact site.patterns) sites

  two : (ones others : List Tree) (sites more : List Site) → (Are ones → Have sites) → (Are others → Have more) → Are (ones ++ others)
      → Have (sites ++ more)
  two ones others sites more first second are = let parts = each_parts Fact ones others are in
      each_both (λ one. AllOf Fact one.patterns) sites more (first parts.0) (second parts.1)

  own_patterns : (branches : Branches) → Are (patterns_in_branches branches) → Are (patterns_of branches)
  own_patterns NoBranch are = tt
  own_patterns (ABranch pattern body rest) are =
      (are.0, own_patterns rest (each_parts Fact (patterns_in body) (patterns_in_branches rest) are.1).1)

  matching : (kind : SiteKind) (e : Expr) (branches : Branches) → (Are (patterns_in e) → Have (sites_in e))
      → (Are (patterns_in_branches branches) → Have (sites_in_branches branches)) → Are (patterns_in e ++ patterns_in_branches branches)
      → Have (site kind branches ∷ (sites_in e ++ sites_in_branches branches))
  matching kind e branches first second are = (
    own_patterns branches (each_parts Fact (patterns_in e) (patterns_in_branches branches) are).1,
    two (patterns_in e) (patterns_in_branches branches) (sites_in e) (sites_in_branches branches) first second are,
  )

  mutual
    in_expr : (e : Expr) → Are (patterns_in e) → Have (sites_in e)
    in_expr (expr span kind) are = in_kind kind are

    in_kind : (kind : Kind) → Are (patterns_in_kind kind) → Have (sites_in_kind kind)
    in_kind (Constant is) are = tt
    in_kind (Variable name) are = tt
    in_kind (Tuple exprs) are = in_exprs exprs are
    in_kind (Sequence items) are = in_items items are
    in_kind (Record fields) are = in_fields fields are
    in_kind (Xml tag attributes content) are =
        two (patterns_in tag) (patterns_in attributes ++ patterns_in content) (sites_in tag) (sites_in attributes ++ sites_in content)
        (in_expr tag) (two (patterns_in attributes) (patterns_in content) (sites_in attributes) (sites_in content)
        (in_expr attributes) (in_expr content)) are
    in_kind (Function (function at name name_at interface branches)) are = (own_patterns branches are, in_branches branches are)
    in_kind (Apply exprs) are = in_exprs exprs are
    in_kind (Match e branches) are = matching Closed e branches (in_expr e) (in_branches branches) are
    in_kind (Try body branches) are = matching Catching body branches (in_expr body) (in_branches branches) are
    in_kind (Map e branches) are = matching Closed e branches (in_expr e) (in_branches branches) are
    in_kind (Transform e branches) are = matching Filtering e branches (in_expr e) (in_branches branches) are
    in_kind (Let pattern e rest) are =
        ((are.0, tt), two (patterns_in e) (patterns_in rest) (sites_in e) (sites_in rest) (in_expr e) (in_expr rest) are.1)
    in_kind (If condition then_one else_one) are =
        two (patterns_in condition) (patterns_in then_one ++ patterns_in else_one) (sites_in condition) (sites_in then_one ++ sites_in else_one)
        (in_expr condition) (two (patterns_in then_one) (patterns_in else_one) (sites_in then_one) (sites_in else_one)
        (in_expr then_one) (in_expr else_one)) are
    in_kind (Chain first tails) are =
        two (patterns_in first) (patterns_in_tails tails) (sites_in first) (sites_in_tails tails) (in_expr first) (in_tails tails) are
    in_kind (Call word e) are = in_expr e are

    in_exprs : (exprs : Exprs) → Are (patterns_in_exprs exprs) → Have (sites_in_exprs exprs)
    in_exprs NoExpr are = tt
    in_exprs (AnExpr e rest) are =
        two (patterns_in e) (patterns_in_exprs rest) (sites_in e) (sites_in_exprs rest) (in_expr e) (in_exprs rest) are

    in_items : (items : Items) → Are (patterns_in_items items) → Have (sites_in_items items)
    in_items NoItem are = tt
    in_items (AnItem (One e) rest) are =
        two (patterns_in e) (patterns_in_items rest) (sites_in e) (sites_in_items rest) (in_expr e) (in_items rest) are
    in_items (AnItem (Splice e) rest) are =
        two (patterns_in e) (patterns_in_items rest) (sites_in e) (sites_in_items rest) (in_expr e) (in_items rest) are
    in_items (AnItem (Run characters) rest) are = in_items rest are

    in_fields : (fields : Fields) → Are (patterns_in_fields fields) → Have (sites_in_fields fields)
    in_fields NoField are = tt
    in_fields (AField label at e rest) are =
        two (patterns_in e) (patterns_in_fields rest) (sites_in e) (sites_in_fields rest) (in_expr e) (in_fields rest) are

    in_tails : (tails : Tails) → Are (patterns_in_tails tails) → Have (sites_in_tails tails)
    in_tails NoTail are = tt
    in_tails (ATail (Operand op e) rest) are =
        two (patterns_in e) (patterns_in_tails rest) (sites_in e) (sites_in_tails rest) (in_expr e) (in_tails rest) are
    in_tails (ATail (Without label) rest) are = in_tails rest are
    in_tails (ATail (Select label) rest) are = in_tails rest are

    in_branches : (branches : Branches) → Are (patterns_in_branches branches) → Have (sites_in_branches branches)
    in_branches NoBranch are = tt
    in_branches (ABranch pattern body rest) are =
        two (patterns_in body) (patterns_in_branches rest) (sites_in body) (sites_in_branches rest) (in_expr body) (in_branches rest) are.1

  in_function : (f : FunctionTree) → Are (patterns_of_function f) → Have (sites_of_function f)
  in_function (function at name name_at interface branches) are = (own_patterns branches are, in_branches branches are)

  in_functions : (functions : List FunctionTree) → Are (patterns_of_functions functions) → Have (sites_of_functions functions)
  in_functions [] are = tt
  in_functions (f ∷ rest) are =
      two (patterns_of_function f) (patterns_of_functions rest) (sites_of_function f) (sites_of_functions rest)
      (in_function f) (in_functions rest) are

-- each of a list is one of the list
each_is_one : {X : Type 0} (all : List X) → AllOf (λ x. AnyOf (λ one. one ≡ x) all) all
each_is_one [] = tt
each_is_one (x ∷ rest) = (
  inl refl,
  each_weaker (λ y. AnyOf (λ one. one ≡ y) rest) (λ y. AnyOf (λ one. one ≡ y) (x ∷ rest))
      (λ y is. inr is) rest (each_is_one rest),
)

pub patterns_of_sites : (program : Program) → AllOf (λ site. AllOf (λ pattern. IsPatternOf program pattern) site.patterns) (all_sites program)
patterns_of_sites program = in_functions (IsPatternOf program) program.functions (each_is_one (all_patterns program))
