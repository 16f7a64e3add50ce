-- What is shown of each expression, pattern and function that is well made and has no fault of its names, is shown of all that stand in
-- a program.
use Rattle.std.proofs.Common.{List, [], ◌∷◌, ◌++◌, inl, inr, refl}
use Rattle.cd_syntax.specs.TypeTree.{Tree, Declarations}
use Rattle.cd_syntax.specs.declared.tokens.Span.{Span}
use Rattle.cd_model.specs.AllOf.{AllOf}
use Rattle.cd_model.proofs.Covered.{each_both}
use Rattle.cd_resolve.specs.Faults.{Fault}
use Rattle.cd_variables.specs.VariableFaults.{IsOneIn}
use Rattle.cd_program.specs.Expr.{Expr, expr, Kind, Constant, Variable, Tuple, Sequence, Record, Xml, Function, Apply, Match, Try, Map}
use Rattle.cd_program.specs.Expr.{Transform, Let, If, Chain, Call, Exprs, NoExpr, AnExpr, Items, NoItem, AnItem, One, Splice, Run}
use Rattle.cd_program.specs.Expr.{Fields, NoField, AField, Tails, NoTail, ATail, Operand, Without, Select, Branches, NoBranch, ABranch}
use Rattle.cd_program.specs.Expr.{FunctionTree, function}
use Rattle.cd_program.specs.WellMade.{IsWellMadeExpr, IsWellMadeExprKind, AreWellMadeExprs, AreWellMadeItems, AreWellMadeExprFields}
use Rattle.cd_program.specs.WellMade.{AreWellMadeTails, AreWellMadeBranches, IsWellMadeFunction, AreWellMadeFunctions}
use Rattle.cd_names.specs.ProgramFaults.{Seen, names_of, with_name, IsFaultOfPattern, IsFaultOfFunction, all_exprs, item_exprs}
use Rattle.cd_names.specs.ProgramFaults.{field_exprs, operands, bodies, patterns, function_bodies, function_patterns, function_types}
use Rattle.cd_names.specs.ProgramFaults.{parts, patterns_in, types_in}
use Rattle.cd_names.proofs.FreeOfFaults.{NoFault, NoFaults, PartsAreFree, PatternsAreFree, TypesAreFree, AreFree, free_in_expr}
use Rattle.cd_names.proofs.FreeOfFaults.{free_in_function, each_free}
use Rattle.cd_evaluation.specs.ProgramFunctions.{functions_in, functions_in_kind, functions_in_exprs, functions_in_items}
use Rattle.cd_evaluation.specs.ProgramFunctions.{functions_in_fields, functions_in_tails, functions_in_branches, functions_within}
use Rattle.cd_evaluation.specs.ProgramFunctions.{within_all}
use Rattle.cd_safety.specs.KindsIn.{EachKind, KindsWithin, KindsOfExprs, KindsOfItems, KindsOfFields, KindsOfTails, KindsOfBranches}
use Rattle.cd_safety.specs.KindsIn.{KindsOfFunction}
use Rattle.cd_safety.specs.PatternsIn.{EachPattern, EachOfKind, EachOfExprs, EachOfItems, EachOfFields, EachOfTails, EachOfBranches}
use Rattle.cd_safety.specs.PatternsIn.{EachOfFunction}

module _ (types : Declarations) (OfKind : Kind → Type 0) (OfPattern : Tree → Type 0) (OfFunction : FunctionTree → Type 0) where
  -- what is shown of one of each
  pub record IsShown : Type 0 where
    pub of_kind : (seen : Seen) (span : Span) (kind : Kind) → IsWellMadeExprKind kind → NoFault types seen (expr span kind)
        → OfKind kind
    pub of_pattern : (pattern : Tree) → ((fault : Fault) → IsFaultOfPattern types pattern fault → ⊥) → OfPattern pattern
    pub of_function : (f : FunctionTree) → TypesAreFree types (function_types f) → OfFunction f

  -- facts of expressions, facts of patterns, and that each of some functions has its fact
  pub record AreShown (Kinds Patterns : Type 0) (functions : List FunctionTree) : Type 0 where
    pub kinds_are : Kinds
    pub patterns_are : Patterns
    pub functions_are : AllOf OfFunction functions

  nothing : AreShown (Unit {0}) (Unit {0}) []
  nothing = record { kinds_are = tt; patterns_are = tt; functions_are = tt }

  both : {Kinds Others Patterns More : Type 0} {first second : List FunctionTree} → AreShown Kinds Patterns first
      → AreShown Others More second → AreShown (Kinds × Others) (Patterns × More) (first ++ second)
  both {first = first} {second = second} one other = record {
    kinds_are = (one.kinds_are, other.kinds_are);
    patterns_are = (one.patterns_are, other.patterns_are);
    functions_are = each_both OfFunction first second one.functions_are other.functions_are;
  }

  three : {Kinds Others Last Patterns More End : Type 0} {first second third : List FunctionTree} → AreShown Kinds Patterns first
      → AreShown Others More second → AreShown Last End third
      → AreShown (Kinds × Others × Last) (Patterns × More × End) (first ++ (second ++ third))
  three {first = first} {second = second} {third = third} one other last = record {
    kinds_are = (one.kinds_are, other.kinds_are, last.kinds_are);
    patterns_are = (one.patterns_are, other.patterns_are, last.patterns_are);
    functions_are = each_both OfFunction first (second ++ third) one.functions_are
        (each_both OfFunction second third other.functions_are last.functions_are);
  }

  with_kind : {Kinds Patterns : Type 0} {functions : List FunctionTree} (kind : Kind) → OfKind kind
      → AreShown Kinds Patterns functions → AreShown (OfKind kind × Kinds) Patterns functions
  with_kind kind is all = record {
    kinds_are = (is, all.kinds_are);
    patterns_are = all.patterns_are;
    functions_are = all.functions_are;
  }

  -- of two parts after a pattern
  after_pattern : {Kinds Others Patterns More : Type 0} {first second : List FunctionTree} (pattern : Tree) → OfPattern pattern
      → AreShown Kinds Patterns first → AreShown Others More second
      → AreShown (Kinds × Others) (OfPattern pattern × Patterns × More) (first ++ second)
  after_pattern {first = first} {second = second} pattern is one other = record {
    kinds_are = (one.kinds_are, other.kinds_are);
    patterns_are = (is, one.patterns_are, other.patterns_are);
    functions_are = each_both OfFunction first second one.functions_are other.functions_are;
  }

  with_function : {Kinds Patterns : Type 0} {functions : List FunctionTree} (f : FunctionTree) → OfFunction f
      → AreShown Kinds Patterns functions → AreShown Kinds Patterns (f ∷ functions)
  with_function f is all = record {
    kinds_are = all.kinds_are;
    patterns_are = all.patterns_are;
    functions_are = (is, all.functions_are);
  }

  module _ (shown : IsShown) where
    mutual
      of_expr : (e : Expr) (seen : Seen) → IsWellMadeExpr e → NoFault types seen e
          → AreShown (EachKind OfKind e) (EachPattern OfPattern e) (functions_in e)
      of_expr (expr span kind) seen made none = with_kind kind (shown.of_kind seen span kind made none)
          (within_kind kind seen made (free_in_expr types seen span kind none))

      within_kind : (kind : Kind) (seen : Seen) → IsWellMadeExprKind kind
          → AreFree types (parts seen kind) (patterns_in kind) (types_in kind)
          → AreShown (KindsWithin OfKind kind) (EachOfKind OfPattern kind) (functions_in_kind kind)
      within_kind (Constant is) seen made free = nothing
      within_kind (Variable name) seen made free = nothing
      within_kind (Tuple exprs) seen made free =
          of_exprs exprs seen made.1 (each_free types seen (all_exprs exprs) free.parts_are)
      within_kind (Sequence items) seen made free =
          of_items items seen made (each_free types seen (item_exprs items) free.parts_are)
      within_kind (Record fields) seen made free =
          of_fields fields seen made (each_free types seen (field_exprs fields) free.parts_are)
      within_kind (Xml tag attributes content) seen made free =
          three (of_expr tag seen made.0 (free.parts_are seen tag (inl refl)))
          (of_expr attributes seen made.1 (free.parts_are seen attributes (inr (inl refl))))
          (of_expr content seen made.2 (free.parts_are seen content (inr (inr (inl refl)))))
      within_kind (Function f) seen made free = with_function f (shown.of_function f free.types_are)
          (of_function f seen made free)
      within_kind (Apply exprs) seen made free =
          of_exprs exprs seen made.1 (each_free types seen (all_exprs exprs) free.parts_are)
      within_kind (Match e branches) seen made free = both (of_expr e seen made.0 (free.parts_are seen e (inl refl)))
          (of_branches branches seen made.2 (λ inner body is. free.parts_are inner body (inr is)) free.patterns_are)
      within_kind (Try e branches) seen made free = both (of_expr e seen made.0 (free.parts_are seen e (inl refl)))
          (of_branches branches seen made.2 (λ inner body is. free.parts_are inner body (inr is)) free.patterns_are)
      within_kind (Map e branches) seen made free = both (of_expr e seen made.0 (free.parts_are seen e (inl refl)))
          (of_branches branches seen made.2 (λ inner body is. free.parts_are inner body (inr is)) free.patterns_are)
      within_kind (Transform e branches) seen made free = both (of_expr e seen made.0 (free.parts_are seen e (inl refl)))
          (of_branches branches seen made.2 (λ inner body is. free.parts_are inner body (inr is)) free.patterns_are)
      within_kind (Let pattern e rest) seen made free =
          after_pattern pattern (shown.of_pattern pattern (free.patterns_are pattern (inl refl)))
          (of_expr e seen made.1 (free.parts_are seen e (inl refl)))
          (of_expr rest (names_of pattern ++ seen) made.2 (free.parts_are (names_of pattern ++ seen) rest (inr (inl refl))))
      within_kind (If condition then_one else_one) seen made free =
          three (of_expr condition seen made.0 (free.parts_are seen condition (inl refl)))
          (of_expr then_one seen made.1 (free.parts_are seen then_one (inr (inl refl))))
          (of_expr else_one seen made.2 (free.parts_are seen else_one (inr (inr (inl refl)))))
      within_kind (Chain first tails) seen made free = both (of_expr first seen made.0 (free.parts_are seen first (inl refl)))
          (of_tails tails seen made.2 (each_free types seen (operands tails) (λ inner e is. free.parts_are inner e (inr is))))
      within_kind (Call word e) seen made free = of_expr e seen made (free.parts_are seen e (inl refl))

      of_exprs : (exprs : Exprs) (seen : Seen) → AreWellMadeExprs exprs → NoFaults types seen (all_exprs exprs)
          → AreShown (KindsOfExprs OfKind exprs) (EachOfExprs OfPattern exprs) (functions_in_exprs exprs)
      of_exprs NoExpr seen made none = nothing
      of_exprs (AnExpr e rest) seen made none = both (of_expr e seen made.0 (none e (inl refl)))
          (of_exprs rest seen made.1 (λ other is. none other (inr is)))

      of_items : (items : Items) (seen : Seen) → AreWellMadeItems items → NoFaults types seen (item_exprs items)
          → AreShown (KindsOfItems OfKind items) (EachOfItems OfPattern items) (functions_in_items items)
      of_items NoItem seen made none = nothing
      of_items (AnItem (One e) rest) seen made none = both (of_expr e seen made.0 (none e (inl refl)))
          (of_items rest seen made.1 (λ other is. none other (inr is)))
      of_items (AnItem (Splice e) rest) seen made none = both (of_expr e seen made.0 (none e (inl refl)))
          (of_items rest seen made.1 (λ other is. none other (inr is)))
      of_items (AnItem (Run characters) rest) seen made none = of_items rest seen made.1 none

      of_fields : (fields : Fields) (seen : Seen) → AreWellMadeExprFields fields → NoFaults types seen (field_exprs fields)
          → AreShown (KindsOfFields OfKind fields) (EachOfFields OfPattern fields) (functions_in_fields fields)
      of_fields NoField seen made none = nothing
      of_fields (AField label at e rest) seen made none = both (of_expr e seen made.1 (none e (inl refl)))
          (of_fields rest seen made.2 (λ other is. none other (inr is)))

      of_tails : (tails : Tails) (seen : Seen) → AreWellMadeTails tails → NoFaults types seen (operands tails)
          → AreShown (KindsOfTails OfKind tails) (EachOfTails OfPattern tails) (functions_in_tails tails)
      of_tails NoTail seen made none = nothing
      of_tails (ATail (Operand op e) rest) seen made none = both (of_expr e seen made.0 (none e (inl refl)))
          (of_tails rest seen made.1 (λ other is. none other (inr is)))
      of_tails (ATail (Without label) rest) seen made none = of_tails rest seen made.1 none
      of_tails (ATail (Select label) rest) seen made none = of_tails rest seen made.1 none

      of_branches : (branches : Branches) (seen : Seen) → AreWellMadeBranches branches → PartsAreFree types (bodies seen branches)
          → PatternsAreFree types (patterns branches)
          → AreShown (KindsOfBranches OfKind branches) (EachOfBranches OfPattern branches) (functions_in_branches branches)
      of_branches NoBranch seen made free patterns_are = nothing
      of_branches (ABranch pattern body rest) seen made free patterns_are =
          after_pattern pattern (shown.of_pattern pattern (patterns_are pattern (inl refl)))
          (of_expr body (names_of pattern ++ seen) made.1 (free (names_of pattern ++ seen) body (inl refl)))
          (of_branches rest seen made.2 (λ inner e is. free inner e (inr is)) (λ other is. patterns_are other (inr is)))

      of_function : (f : FunctionTree) (seen : Seen) → IsWellMadeFunction f
          → AreFree types (function_bodies seen f) (function_patterns f) (function_types f)
          → AreShown (KindsOfFunction OfKind f) (EachOfFunction OfPattern f) (functions_within f)
      of_function (function at name name_at interface branches) seen made free =
          of_branches branches (with_name name seen) made.4 free.parts_are free.patterns_are

    module _ (seen : Seen) where
      -- no fault of some functions that are declared
      abbrev NoFaultsOf : List FunctionTree → Type 0
      NoFaultsOf functions = (f : FunctionTree) → IsOneIn f functions → (fault : Fault) → IsFaultOfFunction types seen f fault → ⊥

      pub of_functions : (functions : List FunctionTree) → AreWellMadeFunctions functions → NoFaultsOf functions
          → AreShown (AllOf (KindsOfFunction OfKind) functions) (AllOf (EachOfFunction OfPattern) functions)
          (functions ++ within_all functions)
      of_functions functions made none = record {
        kinds_are = within.kinds_are;
        patterns_are = within.patterns_are;
        functions_are = each_both OfFunction functions (within_all functions) (declared functions none) within.functions_are;
      }
        where
          declared : (some : List FunctionTree) → NoFaultsOf some → AllOf OfFunction some
          declared [] none = tt
          declared (f ∷ rest) none = (
            shown.of_function f (free_in_function types seen f (none f (inl refl))).types_are,
            declared rest (λ other is. none other (inr is)),
          )

          all : (some : List FunctionTree) → AreWellMadeFunctions some → NoFaultsOf some
              → AreShown (AllOf (KindsOfFunction OfKind) some) (AllOf (EachOfFunction OfPattern) some) (within_all some)
          all [] made none = nothing
          all (f ∷ rest) made none = both (of_function f seen made.1 (free_in_function types seen f (none f (inl refl))))
              (all rest made.2 (λ other is. none other (inr is)))

          within : AreShown (AllOf (KindsOfFunction OfKind) functions) (AllOf (EachOfFunction OfPattern) functions)
              (within_all functions)
          within = all functions made none
