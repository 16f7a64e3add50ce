-- An expression of a program that is well made, and has no fault of its names, is sound part by part.
use Rattle.std.proofs.Common.{◌≡◌, ℕ, true, false, List, [], ◌∷◌, ◌++◌, ◌⊎◌, inl, inr, refl}
use Rattle.std.proofs.lemmas.Bool.{cases_Bool}
use Rattle.cd_syntax.specs.Name.{Name}
use Rattle.cd_syntax.specs.TypeTree.{Tree, Declarations}
use Rattle.cd_syntax.specs.declared.tokens.Span.{Span}
use Rattle.cd_model.specs.AllOf.{AllOf, AnyOf}
use Rattle.cd_model.proofs.Covered.{each_parts}
use Rattle.cd_model.proofs.Ones.{each_weaker}
use Rattle.cd_resolve.specs.Faults.{Fault}
use Rattle.cd_resolve.specs.declared.fault.NameFault.TheVariants.{Unknown, Twice}
use Rattle.cd_program.specs.Expr.{Expr, expr, Kind, Constant, Variable, Tuple, Sequence, Record, Xml}
use Rattle.cd_program.specs.Expr.{Function, Apply, Match, Try, Map, Transform, Let, If, Chain, Call}
use Rattle.cd_program.specs.Expr.{Exprs, NoExpr, AnExpr, Items, NoItem, AnItem, One, Splice, Run}
use Rattle.cd_program.specs.Expr.{Fields, NoField, AField, Tails, NoTail, ATail, Operand, Without, Select}
use Rattle.cd_program.specs.Expr.{Branches, NoBranch, ABranch, FunctionTree, function, Program}
use Rattle.cd_program.specs.WellMade.{IsWellMadeExpr, IsWellMadeExprKind, AreWellMadeExprs, AreWellMadeItems}
use Rattle.cd_program.specs.WellMade.{AreWellMadeExprFields, AreWellMadeTails, AreWellMadeBranches, IsWellMadeFunction}
use Rattle.cd_program.specs.WellMade.{AreWellMadeFunctions, IsWellMadeProgram}
use Rattle.cd_variables.specs.VariableFaults.{IsOneIn}
use Rattle.cd_names.specs.ProgramFaults as faults
use Rattle.cd_names.specs.ProgramFaults.{Seen, is_seen, names_of, with_name, IsFaultOfFunction, IsFaultOfProgram}
use Rattle.cd_names.specs.ProgramFaults.{all_exprs, item_exprs, field_exprs, operands, bodies, LabelAgain}
use Rattle.cd_names.proofs.FreeOfFaults.{NoFault, NoFaults, PartsAreFree, free_in_expr, each_free, lacks_label}
use Rattle.cd_evaluation.specs.ProgramFunctions.{functions_in, functions_in_kind, functions_in_exprs, functions_in_items}
use Rattle.cd_evaluation.specs.ProgramFunctions.{functions_in_fields, functions_in_tails, functions_in_branches, functions_within}
use Rattle.cd_evaluation.specs.ProgramFunctions.{within_all, all_functions}
use Rattle.cd_placed.specs.Patterns.{patterns_in, patterns_in_kind, patterns_in_exprs, patterns_in_items, patterns_in_fields}
use Rattle.cd_placed.specs.Patterns.{patterns_in_tails, patterns_in_branches, patterns_of_function, patterns_of_functions, all_patterns}
use Rattle.cd_resolved.specs.Parts.{IsFunctionOf, IsPatternOf}
use Rattle.cd_check.specs.Inner.SoundNames.{IsSound, KindIsSound, AreSound, ItemsAreSound, FieldsAreSound}
use Rattle.cd_check.specs.Inner.SoundNames.{TailsAreSound, BranchesAreSound, FunctionIsSound}

-- patterns and functions of the program
record AreParts (program : Program) (patterns : List Tree) (functions : List FunctionTree) : Type 0 where
  patterns_are : AllOf (IsPatternOf program) patterns
  functions_are : AllOf (IsFunctionOf program) functions

module _ (program : Program) where
  abbrev Are : List Tree → List FunctionTree → Type 0
  Are = AreParts program

  module _ (patterns others : List Tree) (functions more : List FunctionTree) (all : Are (patterns ++ others) (functions ++ more)) where
    first_parts : Are patterns functions
    first_parts = record {
      patterns_are = (each_parts (IsPatternOf program) patterns others all.patterns_are).0;
      functions_are = (each_parts (IsFunctionOf program) functions more all.functions_are).0;
    }

    other_parts : Are others more
    other_parts = record {
      patterns_are = (each_parts (IsPatternOf program) patterns others all.patterns_are).1;
      functions_are = (each_parts (IsFunctionOf program) functions more all.functions_are).1;
    }

  abbrev types : Declarations
  types = program.types

  mutual
    sound : (e : Expr) (seen : Seen) → IsWellMadeExpr e → NoFault types seen e → Are (patterns_in e) (functions_in e)
        → IsSound program seen e
    sound (expr span kind) seen made none all = sound_kind kind span seen made none all

    sound_kind : (kind : Kind) (span : Span) (seen : Seen) → IsWellMadeExprKind kind → NoFault types seen (expr span kind)
        → Are (patterns_in_kind kind) (functions_in_kind kind) → KindIsSound program seen kind
    sound_kind (Constant is) span seen made none all = made
    sound_kind (Variable name) span seen made none all = by (cases_Bool (is_seen seen name))
      where
        by : (is_seen seen name ≡ true) ⊎ (is_seen seen name ≡ false) → is_seen seen name ≡ true
        by (inl seen_here) = seen_here
        by (inr unseen) = absurd (none (record { fault = Unknown; name = name; at = span.from })
            (faults.IsFaultOfExpr.unknown seen span name unseen))
    sound_kind (Tuple exprs) span seen made none all = let free = free_in_expr types seen span (Tuple exprs) none in
        sound_all exprs seen made.1 (each_free types seen (all_exprs exprs) free.parts_are) all
    sound_kind (Sequence items) span seen made none all = let free = free_in_expr types seen span (Sequence items) none in
        sound_items items seen made (each_free types seen (item_exprs items) free.parts_are) all
    sound_kind (Record fields) span seen made none all = let free = free_in_expr types seen span (Record fields) none in
        sound_fields fields seen made (each_free types seen (field_exprs fields) free.parts_are)
        (λ label at again. none (record { fault = Twice; name = label; at = at })
        (faults.IsFaultOfExpr.label_twice seen span fields label at again)) all
    sound_kind (Xml tag attributes content) span seen made none all =
        let free = free_in_expr types seen span (Xml tag attributes content) none in
        let others = other_parts (patterns_in tag) (patterns_in attributes ++ patterns_in content) (functions_in tag)
        (functions_in attributes ++ functions_in content) all in (
          sound tag seen made.0 (free.parts_are seen tag (inl refl))
              (first_parts (patterns_in tag) (patterns_in attributes ++ patterns_in content) (functions_in tag)
              (functions_in attributes ++ functions_in content) all),
          sound attributes seen made.1 (free.parts_are seen attributes (inr (inl refl)))
              (first_parts (patterns_in attributes) (patterns_in content) (functions_in attributes) (functions_in content) others),
          sound content seen made.2 (free.parts_are seen content (inr (inr (inl refl))))
              (other_parts (patterns_in attributes) (patterns_in content) (functions_in attributes) (functions_in content) others),
        )
    sound_kind (Function (function at name name_at interface branches)) span seen made none all =
        let free = free_in_expr types seen span (Function (function at name name_at interface branches)) none in (
          all.functions_are.0,
          sound_branches branches (with_name name seen) made.4 free.parts_are
              (record { patterns_are = all.patterns_are; functions_are = all.functions_are.1 }),
        )
    sound_kind (Apply NoExpr) span seen made none all = absurd made.0
    sound_kind (Apply (AnExpr e rest)) span seen made none all = let free = free_in_expr types seen span (Apply (AnExpr e rest)) none in
        (tt, sound_all (AnExpr e rest) seen made.1 (each_free types seen (all_exprs (AnExpr e rest)) free.parts_are) all)
    sound_kind (Match value branches) span seen made none all = let free = free_in_expr types seen span (Match value branches) none in (
      sound value seen made.0 (free.parts_are seen value (inl refl)) (first_parts (patterns_in value) (patterns_in_branches branches)
          (functions_in value) (functions_in_branches branches) all),
      sound_branches branches seen made.2 (λ inner e is. free.parts_are inner e (inr is)) (other_parts (patterns_in value)
          (patterns_in_branches branches) (functions_in value) (functions_in_branches branches) all),
    )
    sound_kind (Try value branches) span seen made none all = let free = free_in_expr types seen span (Try value branches) none in (
      sound value seen made.0 (free.parts_are seen value (inl refl)) (first_parts (patterns_in value) (patterns_in_branches branches)
          (functions_in value) (functions_in_branches branches) all),
      sound_branches branches seen made.2 (λ inner e is. free.parts_are inner e (inr is)) (other_parts (patterns_in value)
          (patterns_in_branches branches) (functions_in value) (functions_in_branches branches) all),
    )
    sound_kind (Map value branches) span seen made none all = let free = free_in_expr types seen span (Map value branches) none in (
      sound value seen made.0 (free.parts_are seen value (inl refl)) (first_parts (patterns_in value) (patterns_in_branches branches)
          (functions_in value) (functions_in_branches branches) all),
      sound_branches branches seen made.2 (λ inner e is. free.parts_are inner e (inr is)) (other_parts (patterns_in value)
          (patterns_in_branches branches) (functions_in value) (functions_in_branches branches) all),
    )
    sound_kind (Transform value branches) span seen made none all = let free = free_in_expr types seen span (Transform value branches) none in (
      sound value seen made.0 (free.parts_are seen value (inl refl)) (first_parts (patterns_in value) (patterns_in_branches branches)
          (functions_in value) (functions_in_branches branches) all),
      sound_branches branches seen made.2 (λ inner e is. free.parts_are inner e (inr is)) (other_parts (patterns_in value)
          (patterns_in_branches branches) (functions_in value) (functions_in_branches branches) all),
    )
    sound_kind (Let pattern value rest) span seen made none all =
        let free = free_in_expr types seen span (Let pattern value rest) none in
        let both : Are (patterns_in value ++ patterns_in rest) (functions_in value ++ functions_in rest) =
        record { patterns_are = all.patterns_are.1; functions_are = all.functions_are } in (
          all.patterns_are.0,
          sound value seen made.1 (free.parts_are seen value (inl refl)) (first_parts (patterns_in value) (patterns_in rest)
              (functions_in value) (functions_in rest) both),
          sound rest (names_of pattern ++ seen) made.2 (free.parts_are (names_of pattern ++ seen) rest (inr (inl refl)))
              (other_parts (patterns_in value) (patterns_in rest) (functions_in value) (functions_in rest) both),
        )
    sound_kind (If condition then_one else_one) span seen made none all =
        let free = free_in_expr types seen span (If condition then_one else_one) none in
        let others = other_parts (patterns_in condition) (patterns_in then_one ++ patterns_in else_one) (functions_in condition)
        (functions_in then_one ++ functions_in else_one) all in (
          sound condition seen made.0 (free.parts_are seen condition (inl refl))
              (first_parts (patterns_in condition) (patterns_in then_one ++ patterns_in else_one) (functions_in condition)
              (functions_in then_one ++ functions_in else_one) all),
          sound then_one seen made.1 (free.parts_are seen then_one (inr (inl refl)))
              (first_parts (patterns_in then_one) (patterns_in else_one) (functions_in then_one) (functions_in else_one) others),
          sound else_one seen made.2 (free.parts_are seen else_one (inr (inr (inl refl))))
              (other_parts (patterns_in then_one) (patterns_in else_one) (functions_in then_one) (functions_in else_one) others),
        )
    sound_kind (Chain first tails) span seen made none all = let free = free_in_expr types seen span (Chain first tails) none in (
      sound first seen made.0 (free.parts_are seen first (inl refl)) (first_parts (patterns_in first) (patterns_in_tails tails)
          (functions_in first) (functions_in_tails tails) all),
      sound_tails tails seen made.2 (each_free types seen (operands tails) (λ inner e is. free.parts_are inner e (inr is)))
          (other_parts (patterns_in first) (patterns_in_tails tails) (functions_in first) (functions_in_tails tails) all),
    )
    sound_kind (Call word operand) span seen made none all = let free = free_in_expr types seen span (Call word operand) none in
        sound operand seen made (free.parts_are seen operand (inl refl)) all

    sound_all : (exprs : Exprs) (seen : Seen) → AreWellMadeExprs exprs → NoFaults types seen (all_exprs exprs)
        → Are (patterns_in_exprs exprs) (functions_in_exprs exprs) → AreSound program seen exprs
    sound_all NoExpr seen made free all = tt
    sound_all (AnExpr e rest) seen made free all = (
      sound e seen made.0 (free e (inl refl))
          (first_parts (patterns_in e) (patterns_in_exprs rest) (functions_in e) (functions_in_exprs rest) all),
      sound_all rest seen made.1 (λ other is. free other (inr is))
          (other_parts (patterns_in e) (patterns_in_exprs rest) (functions_in e) (functions_in_exprs rest) all),
    )

    sound_items : (items : Items) (seen : Seen) → AreWellMadeItems items → NoFaults types seen (item_exprs items)
        → Are (patterns_in_items items) (functions_in_items items) → ItemsAreSound program seen items
    sound_items NoItem seen made free all = tt
    sound_items (AnItem (One e) rest) seen made free all = (
      sound e seen made.0 (free e (inl refl))
          (first_parts (patterns_in e) (patterns_in_items rest) (functions_in e) (functions_in_items rest) all),
      sound_items rest seen made.1 (λ other is. free other (inr is))
          (other_parts (patterns_in e) (patterns_in_items rest) (functions_in e) (functions_in_items rest) all),
    )
    sound_items (AnItem (Splice e) rest) seen made free all = (
      sound e seen made.0 (free e (inl refl))
          (first_parts (patterns_in e) (patterns_in_items rest) (functions_in e) (functions_in_items rest) all),
      sound_items rest seen made.1 (λ other is. free other (inr is))
          (other_parts (patterns_in e) (patterns_in_items rest) (functions_in e) (functions_in_items rest) all),
    )
    sound_items (AnItem (Run characters) rest) seen made free all = (tt, sound_items rest seen made.1 free all)

    sound_fields : (fields : Fields) (seen : Seen) → AreWellMadeExprFields fields → NoFaults types seen (field_exprs fields)
        → ((label : Name) (at : ℕ) → LabelAgain label at fields → ⊥) → Are (patterns_in_fields fields) (functions_in_fields fields)
        → FieldsAreSound program seen fields
    sound_fields NoField seen made free once all = tt
    sound_fields (AField label at e rest) seen made free once all = (
      made.0,
      lacks_label label rest (λ there has. once label there (inl (refl, has))),
      sound e seen made.1 (free e (inl refl))
          (first_parts (patterns_in e) (patterns_in_fields rest) (functions_in e) (functions_in_fields rest) all),
      sound_fields rest seen made.2 (λ other is. free other (inr is)) (λ other there again. once other there (inr again))
          (other_parts (patterns_in e) (patterns_in_fields rest) (functions_in e) (functions_in_fields rest) all),
    )

    sound_tails : (tails : Tails) (seen : Seen) → AreWellMadeTails tails → NoFaults types seen (operands tails)
        → Are (patterns_in_tails tails) (functions_in_tails tails) → TailsAreSound program seen tails
    sound_tails NoTail seen made free all = tt
    sound_tails (ATail (Operand op e) rest) seen made free all = (
      sound e seen made.0 (free e (inl refl))
          (first_parts (patterns_in e) (patterns_in_tails rest) (functions_in e) (functions_in_tails rest) all),
      sound_tails rest seen made.1 (λ other is. free other (inr is))
          (other_parts (patterns_in e) (patterns_in_tails rest) (functions_in e) (functions_in_tails rest) all),
    )
    sound_tails (ATail (Without label) rest) seen made free all = (made.0, sound_tails rest seen made.1 free all)
    sound_tails (ATail (Select label) rest) seen made free all = (made.0, sound_tails rest seen made.1 free all)

    sound_branches : (branches : Branches) (seen : Seen) → AreWellMadeBranches branches → PartsAreFree types (bodies seen branches)
        → Are (patterns_in_branches branches) (functions_in_branches branches) → BranchesAreSound program seen branches
    sound_branches NoBranch seen made free all = tt
    sound_branches (ABranch pattern body rest) seen made free all =
        let both : Are (patterns_in body ++ patterns_in_branches rest) (functions_in body ++ functions_in_branches rest) =
        record { patterns_are = all.patterns_are.1; functions_are = all.functions_are } in (
          all.patterns_are.0,
          sound body (names_of pattern ++ seen) made.1 (free (names_of pattern ++ seen) body (inl refl))
              (first_parts (patterns_in body) (patterns_in_branches rest) (functions_in body) (functions_in_branches rest) both),
          sound_branches rest seen made.2 (λ inner e is. free inner e (inr is))
              (other_parts (patterns_in body) (patterns_in_branches rest) (functions_in body) (functions_in_branches rest) both),
        )

  -- functions that are declared
  sound_function : (f : FunctionTree) (seen : Seen) → IsWellMadeFunction f
      → ((fault : Fault) → IsFaultOfFunction types seen f fault → ⊥) → IsFunctionOf program f
      → Are (patterns_of_function f) (functions_within f) → FunctionIsSound program seen f
  sound_function (function at name name_at interface branches) seen made none is all = (
    is,
    sound_branches branches (with_name name seen) made.4
        (λ inner e here fault has. none fault (faults.IsFaultOfFunction.in_body inner e fault here has)) all,
  )

  sound_functions : (functions : List FunctionTree) (seen : Seen) → AreWellMadeFunctions functions
      → ((f : FunctionTree) → IsOneIn f functions → (fault : Fault) → IsFaultOfFunction types seen f fault → ⊥)
      → AllOf (IsFunctionOf program) functions → Are (patterns_of_functions functions) (within_all functions)
      → AllOf (FunctionIsSound program seen) functions
  sound_functions [] seen made none are all = tt
  sound_functions (f ∷ rest) seen made none are all = (
    sound_function f seen made.1 (none f (inl refl)) are.0
        (first_parts (patterns_of_function f) (patterns_of_functions rest) (functions_within f) (within_all rest) all),
    sound_functions rest seen made.2 (λ other is. none other (inr is)) are.1
        (other_parts (patterns_of_function f) (patterns_of_functions rest) (functions_within f) (within_all rest) all),
  )

-- each of some things is one of them
each_is_one : {X : Type 0} (all : List X) → AllOf (λ x. AnyOf (λ one. one ≡ x) all) all
each_is_one [] = tt
each_is_one {X} (x ∷ rest) = (
  inl refl,
  each_weaker (λ y. AnyOf (λ one. one ≡ y) rest) (λ y. AnyOf (λ one. one ≡ y) (x ∷ rest)) (λ y is. inr is) rest (each_is_one rest),
)

-- those of a program without naming faults
pub program_sound : (program : Program) → IsWellMadeProgram program → ((fault : Fault) → IsFaultOfProgram program fault → ⊥)
    → AllOf (FunctionIsSound program (faults.all_functions program)) program.functions
program_sound program made none =
    let functions = each_parts (IsFunctionOf program) program.functions (within_all program.functions)
    (each_is_one (all_functions program)) in
    sound_functions program program.functions (faults.all_functions program) made.1
    (λ f is fault has. none fault (faults.IsFaultOfProgram.in_function f fault is has)) functions.0
    (record { patterns_are = each_is_one (all_patterns program); functions_are = functions.1 })
