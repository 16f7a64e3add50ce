-- The patterns and the interfaces of a program that is well made, and has no fault of its names, are sound.
use Rattle.std.proofs.Common.{List, [], ◌∷◌, ◌++◌, inl, inr, refl, ap, map}
use Rattle.cd_syntax.specs.TypeTree.{Tree, Declarations}
use Rattle.cd_syntax.specs.declared.tokens.Span.{Span}
use Rattle.cd_model.specs.AllOf.{AllOf}
use Rattle.cd_model.proofs.Covered.{each_both}
use Rattle.cd_resolve.specs.Faults.{Fault, IsFaultOfType, IsFaultOfDeclarations}
use Rattle.cd_variables.specs.VariableFaults.{IsOneIn}
use Rattle.cd_program.specs.Expr.{Expr, expr, Kind, Constant, Variable, Tuple, Sequence, Record, Xml}
use Rattle.cd_program.specs.Expr.{Function, Apply, Match, Try, Map, Transform, Let, If, Chain, Call}
use Rattle.cd_program.specs.Expr.{Exprs, NoExpr, AnExpr, Items, NoItem, AnItem, One, Splice, Run}
use Rattle.cd_program.specs.Expr.{Fields, NoField, AField, Tails, NoTail, ATail, Operand, Without, Select}
use Rattle.cd_program.specs.Expr.{Branches, NoBranch, ABranch, FunctionTree, function, Program}
use Rattle.cd_program.specs.WellMade.{IsWellMadeExpr, IsWellMadeExprKind, AreWellMadeExprs, AreWellMadeItems}
use Rattle.cd_program.specs.WellMade.{AreWellMadeExprFields, AreWellMadeTails, AreWellMadeBranches, IsWellMadeFunction}
use Rattle.cd_program.specs.WellMade.{AreWellMadeFunctions, IsWellMadeProgram}
use Rattle.cd_names.specs.ProgramFaults as faults
use Rattle.cd_names.specs.ProgramFaults.{Seen, names_of, with_name, IsFaultOfPattern, IsFaultOfExpr, IsFaultOfFunction, IsFaultOfProgram}
use Rattle.cd_names.specs.ProgramFaults.{Part, part, all_exprs, item_exprs, field_exprs, operands, bodies, patterns, parts, patterns_in as patterns_at, types_in}
use Rattle.cd_names.specs.ProgramFaults.{all_functions, function_bodies, function_patterns, function_types}
use Rattle.cd_placed.specs.Patterns.{patterns_in, patterns_in_kind, patterns_in_exprs, patterns_in_items, patterns_in_fields}
use Rattle.cd_placed.specs.Patterns.{patterns_in_tails, patterns_in_branches, patterns_of_function, patterns_of_functions, all_patterns}
use Rattle.cd_evaluation.specs.ProgramFunctions as all
use Rattle.cd_evaluation.specs.ProgramFunctions.{functions_in, functions_in_kind, functions_in_exprs, functions_in_items, functions_in_fields}
use Rattle.cd_evaluation.specs.ProgramFunctions.{functions_in_tails, functions_in_branches, functions_within, within_all}
use Rattle.cd_resolved.specs.Inner.SoundInterfaces.{HasSoundInterface}
use Rattle.cd_resolved.specs.Inner.SoundPatterns.{IsSoundPattern}

in_map : {X Y : Type 0} (f : X → Y) (x : X) (xs : List X) → IsOneIn x xs → IsOneIn (f x) (map f xs)
in_map f x [] one = one
in_map f x (y ∷ xs) (inl here) = inl (ap f here)
in_map f x (y ∷ xs) (inr later) = inr (in_map f x xs later)

module _ (types : Declarations) where
  -- no fault of an expression, and of each of some
  abbrev NoFault : Seen → Expr → Type 0
  NoFault seen e = (fault : Fault) → IsFaultOfExpr types seen e fault → ⊥

  abbrev NoFaults : Seen → List Expr → Type 0
  NoFaults seen all = (e : Expr) → IsOneIn e all → NoFault seen e

  abbrev PartsAreFree : List Part → Type 0
  PartsAreFree all = (seen : Seen) (e : Expr) → IsOneIn (part seen e) all → NoFault seen e

  abbrev PatternsAreFree : List Tree → Type 0
  PatternsAreFree all = (pattern : Tree) → IsOneIn pattern all → (fault : Fault) → IsFaultOfPattern types pattern fault → ⊥

  record AreSound (trees : List Tree) (functions : List FunctionTree) : Type 0 where
    patterns_are : AllOf (IsSoundPattern types) trees
    functions_are : AllOf (HasSoundInterface types) functions

  parts_free : (seen : Seen) (span : Span) (kind : Kind) → NoFault seen (expr span kind) → PartsAreFree (parts seen kind)
  parts_free seen span kind none inner e is fault has = none fault (faults.IsFaultOfExpr.in_part seen inner span kind e fault is has)

  each_free : (seen : Seen) (all : List Expr) → PartsAreFree (map (part seen) all) → NoFaults seen all
  each_free seen all free e is = free seen e (in_map (part seen) e all is)

  patterns_free : (seen : Seen) (span : Span) (kind : Kind) → NoFault seen (expr span kind) → PatternsAreFree (patterns_at kind)
  patterns_free seen span kind none pattern is fault has =
      none fault (faults.IsFaultOfExpr.in_pattern seen span kind pattern fault is has)

  types_free : (seen : Seen) (span : Span) (kind : Kind) → NoFault seen (expr span kind) → (t : Tree) (fault : Fault) → IsOneIn t (types_in kind)
      → IsFaultOfType types t fault → ⊥
  types_free seen span kind none t fault is has = none fault (faults.IsFaultOfExpr.in_type seen span kind t fault is has)

  both : (ones others : List Tree) (functions more : List FunctionTree) → AreSound ones functions → AreSound others more
      → AreSound (ones ++ others) (functions ++ more)
  both ones others functions more first second = record {
    patterns_are = each_both (IsSoundPattern types) ones others first.patterns_are second.patterns_are;
    functions_are = each_both (HasSoundInterface types) functions more first.functions_are second.functions_are;
  }

  none_there : AreSound [] []
  none_there = record { patterns_are = tt; functions_are = tt }

  with_pattern : (pattern : Tree) (trees : List Tree) (functions : List FunctionTree) → IsSoundPattern types pattern → AreSound trees functions
      → AreSound (pattern ∷ trees) functions
  with_pattern pattern trees functions one rest =
      record { patterns_are = (one, rest.patterns_are); functions_are = rest.functions_are }

  with_function : (f : FunctionTree) (trees : List Tree) (functions : List FunctionTree) → HasSoundInterface types f → AreSound trees functions
      → AreSound trees (f ∷ functions)
  with_function f trees functions one rest =
      record { patterns_are = rest.patterns_are; functions_are = (one, rest.functions_are) }

  mutual
    in_expr : (e : Expr) (seen : Seen) → IsWellMadeExpr e → NoFault seen e → AreSound (patterns_in e) (functions_in e)
    in_expr (expr span kind) seen made none = in_kind kind span seen made none

    in_kind : (kind : Kind) (span : Span) (seen : Seen) → IsWellMadeExprKind kind → NoFault seen (expr span kind)
        → AreSound (patterns_in_kind kind) (functions_in_kind kind)
    in_kind (Constant is) span seen made none = none_there
    in_kind (Variable name) span seen made none = none_there
    in_kind (Tuple exprs) span seen made none =
        in_all exprs seen made.1 (each_free seen (all_exprs exprs) (parts_free seen span (Tuple exprs) none))
    in_kind (Sequence items) span seen made none =
        in_items items seen made (each_free seen (item_exprs items) (parts_free seen span (Sequence items) none))
    in_kind (Record fields) span seen made none =
        in_fields fields seen made (each_free seen (field_exprs fields) (parts_free seen span (Record fields) none))
    in_kind (Xml tag attributes content) span seen made none = let free = parts_free seen span (Xml tag attributes content) none in
        both (patterns_in tag) (patterns_in attributes ++ patterns_in content) (functions_in tag) (functions_in attributes ++ functions_in content) (in_expr tag seen made.0 (free seen tag (inl refl)))
        (both (patterns_in attributes) (patterns_in content) (functions_in attributes) (functions_in content) (in_expr attributes seen made.1 (free seen attributes (inr (inl refl))))
        (in_expr content seen made.2 (free seen content (inr (inr (inl refl))))))
    in_kind (Function (function at name name_at interface branches)) span seen made none =
        with_function (function at name name_at interface branches) (patterns_in_branches branches) (functions_in_branches branches)
        (record { well_made = made.2; sound = types_free seen span (Function (function at name name_at interface branches)) none })
        (in_branches branches (with_name name seen) made.4
        (parts_free seen span (Function (function at name name_at interface branches)) none)
        (patterns_free seen span (Function (function at name name_at interface branches)) none))
    in_kind (Apply exprs) span seen made none =
        in_all exprs seen made.1 (each_free seen (all_exprs exprs) (parts_free seen span (Apply exprs) none))
    in_kind (Match value branches) span seen made none = let free = parts_free seen span (Match value branches) none in
        both (patterns_in value) (patterns_in_branches branches) (functions_in value) (functions_in_branches branches) (in_expr value seen made.0 (free seen value (inl refl)))
        (in_branches branches seen made.2 (λ inner e is. free inner e (inr is)) (patterns_free seen span (Match value branches) none))
    in_kind (Try value branches) span seen made none = let free = parts_free seen span (Try value branches) none in
        both (patterns_in value) (patterns_in_branches branches) (functions_in value) (functions_in_branches branches) (in_expr value seen made.0 (free seen value (inl refl)))
        (in_branches branches seen made.2 (λ inner e is. free inner e (inr is)) (patterns_free seen span (Try value branches) none))
    in_kind (Map value branches) span seen made none = let free = parts_free seen span (Map value branches) none in
        both (patterns_in value) (patterns_in_branches branches) (functions_in value) (functions_in_branches branches) (in_expr value seen made.0 (free seen value (inl refl)))
        (in_branches branches seen made.2 (λ inner e is. free inner e (inr is)) (patterns_free seen span (Map value branches) none))
    in_kind (Transform value branches) span seen made none = let free = parts_free seen span (Transform value branches) none in
        both (patterns_in value) (patterns_in_branches branches) (functions_in value) (functions_in_branches branches) (in_expr value seen made.0 (free seen value (inl refl)))
        (in_branches branches seen made.2 (λ inner e is. free inner e (inr is)) (patterns_free seen span (Transform value branches) none))
    in_kind (Let pattern value rest) span seen made none = let free = parts_free seen span (Let pattern value rest) none in
        with_pattern pattern (patterns_in value ++ patterns_in rest) (functions_in value ++ functions_in rest)
        (record { well_made = made.0; sound = patterns_free seen span (Let pattern value rest) none pattern (inl refl) })
        (both (patterns_in value) (patterns_in rest) (functions_in value) (functions_in rest)
        (in_expr value seen made.1 (free seen value (inl refl)))
        (in_expr rest (names_of pattern ++ seen) made.2 (free (names_of pattern ++ seen) rest (inr (inl refl)))))
    in_kind (If condition then_one else_one) span seen made none = let free = parts_free seen span (If condition then_one else_one) none in
        both (patterns_in condition) (patterns_in then_one ++ patterns_in else_one) (functions_in condition) (functions_in then_one ++ functions_in else_one)
        (in_expr condition seen made.0 (free seen condition (inl refl)))
        (both (patterns_in then_one) (patterns_in else_one) (functions_in then_one) (functions_in else_one) (in_expr then_one seen made.1 (free seen then_one (inr (inl refl))))
        (in_expr else_one seen made.2 (free seen else_one (inr (inr (inl refl))))))
    in_kind (Chain first tails) span seen made none = let free = parts_free seen span (Chain first tails) none in
        both (patterns_in first) (patterns_in_tails tails) (functions_in first) (functions_in_tails tails) (in_expr first seen made.0 (free seen first (inl refl)))
        (in_tails tails seen made.2 (each_free seen (operands tails) (λ inner e is. free inner e (inr is))))
    in_kind (Call word operand) span seen made none =
        in_expr operand seen made (parts_free seen span (Call word operand) none seen operand (inl refl))

    in_all : (exprs : Exprs) (seen : Seen) → AreWellMadeExprs exprs → NoFaults seen (all_exprs exprs) → AreSound (patterns_in_exprs exprs) (functions_in_exprs exprs)
    in_all NoExpr seen made free = none_there
    in_all (AnExpr e rest) seen made free = both (patterns_in e) (patterns_in_exprs rest) (functions_in e) (functions_in_exprs rest)
        (in_expr e seen made.0 (free e (inl refl))) (in_all rest seen made.1 (λ other is. free other (inr is)))

    in_items : (items : Items) (seen : Seen) → AreWellMadeItems items → NoFaults seen (item_exprs items) → AreSound (patterns_in_items items) (functions_in_items items)
    in_items NoItem seen made free = none_there
    in_items (AnItem (One e) rest) seen made free = both (patterns_in e) (patterns_in_items rest) (functions_in e) (functions_in_items rest)
        (in_expr e seen made.0 (free e (inl refl))) (in_items rest seen made.1 (λ other is. free other (inr is)))
    in_items (AnItem (Splice e) rest) seen made free = both (patterns_in e) (patterns_in_items rest) (functions_in e) (functions_in_items rest)
        (in_expr e seen made.0 (free e (inl refl))) (in_items rest seen made.1 (λ other is. free other (inr is)))
    in_items (AnItem (Run characters) rest) seen made free = in_items rest seen made.1 free

    in_fields : (fields : Fields) (seen : Seen) → AreWellMadeExprFields fields → NoFaults seen (field_exprs fields)
        → AreSound (patterns_in_fields fields) (functions_in_fields fields)
    in_fields NoField seen made free = none_there
    in_fields (AField label at e rest) seen made free = both (patterns_in e) (patterns_in_fields rest) (functions_in e) (functions_in_fields rest)
        (in_expr e seen made.1 (free e (inl refl))) (in_fields rest seen made.2 (λ other is. free other (inr is)))

    in_tails : (tails : Tails) (seen : Seen) → AreWellMadeTails tails → NoFaults seen (operands tails) → AreSound (patterns_in_tails tails) (functions_in_tails tails)
    in_tails NoTail seen made free = none_there
    in_tails (ATail (Operand op e) rest) seen made free = both (patterns_in e) (patterns_in_tails rest) (functions_in e) (functions_in_tails rest)
        (in_expr e seen made.0 (free e (inl refl))) (in_tails rest seen made.1 (λ other is. free other (inr is)))
    in_tails (ATail (Without label) rest) seen made free = in_tails rest seen made.1 free
    in_tails (ATail (Select label) rest) seen made free = in_tails rest seen made.1 free

    in_branches : (branches : Branches) (seen : Seen) → AreWellMadeBranches branches → PartsAreFree (bodies seen branches)
        → PatternsAreFree (patterns branches) → AreSound (patterns_in_branches branches) (functions_in_branches branches)
    in_branches NoBranch seen made free patterns_are = none_there
    in_branches (ABranch pattern body rest) seen made free patterns_are =
        with_pattern pattern (patterns_in body ++ patterns_in_branches rest) (functions_in body ++ functions_in_branches rest)
        (record { well_made = made.0; sound = patterns_are pattern (inl refl) })
        (both (patterns_in body) (patterns_in_branches rest) (functions_in body) (functions_in_branches rest)
        (in_expr body (names_of pattern ++ seen) made.1 (free (names_of pattern ++ seen) body (inl refl)))
        (in_branches rest seen made.2 (λ inner e is. free inner e (inr is)) (λ other is. patterns_are other (inr is))))

  -- functions that are declared
  in_function : (f : FunctionTree) (seen : Seen) → IsWellMadeFunction f
      → ((fault : Fault) → IsFaultOfFunction types seen f fault → ⊥) → AreSound (patterns_of_function f) (functions_within f)
  in_function (function at name name_at interface branches) seen made none =
      in_branches branches (with_name name seen) made.4
      (λ inner e is fault has. none fault (faults.IsFaultOfFunction.in_body inner e fault is has))
      (λ pattern is fault has. none fault (faults.IsFaultOfFunction.in_pattern pattern fault is has))

  own_interface : (f : FunctionTree) (seen : Seen) → IsWellMadeFunction f
      → ((fault : Fault) → IsFaultOfFunction types seen f fault → ⊥) → HasSoundInterface types f
  own_interface (function at name name_at interface branches) seen made none = record {
    well_made = made.2;
    sound = λ t fault is has. none fault (faults.IsFaultOfFunction.in_type t fault is has);
  }

  abbrev AreFree : List FunctionTree → Seen → Type 0
  AreFree functions seen = (f : FunctionTree) → IsOneIn f functions → (fault : Fault) → IsFaultOfFunction types seen f fault → ⊥

  in_functions : (functions : List FunctionTree) (seen : Seen) → AreWellMadeFunctions functions → AreFree functions seen
      → AreSound (patterns_of_functions functions) (within_all functions)
  in_functions [] seen made free = none_there
  in_functions (f ∷ rest) seen made free =
      both (patterns_of_function f) (patterns_of_functions rest) (functions_within f) (within_all rest)
      (in_function f seen made.1 (free f (inl refl))) (in_functions rest seen made.2 (λ other is. free other (inr is)))

  own_interfaces : (functions : List FunctionTree) (seen : Seen) → AreWellMadeFunctions functions → AreFree functions seen
      → AllOf (HasSoundInterface types) functions
  own_interfaces [] seen made free = tt
  own_interfaces (f ∷ rest) seen made free =
      (own_interface f seen made.1 (free f (inl refl)), own_interfaces rest seen made.2 (λ other is. free other (inr is)))

module _ (program : Program) (made : IsWellMadeProgram program) (none : (fault : Fault) → IsFaultOfProgram program fault → ⊥) where
  each_free_of : (f : FunctionTree) → IsOneIn f program.functions → (fault : Fault)
      → IsFaultOfFunction program.types (all_functions program) f fault → ⊥
  each_free_of f is fault has = none fault (faults.IsFaultOfProgram.in_function f fault is has)

  pub sound_patterns : AllOf (IsSoundPattern program.types) (all_patterns program)
  sound_patterns = (in_functions program.types program.functions (all_functions program) made.1 each_free_of).patterns_are

  pub sound_interfaces : AllOf (HasSoundInterface program.types) (all.all_functions program)
  sound_interfaces = each_both (HasSoundInterface program.types) program.functions (within_all program.functions)
      (own_interfaces program.types program.functions (all_functions program) made.1 each_free_of)
      (in_functions program.types program.functions (all_functions program) made.1 each_free_of).functions_are

  -- nor are names of its declarations
  pub declarations_sound : (fault : Fault) → IsFaultOfDeclarations program.types fault → ⊥
  declarations_sound fault has = none fault (faults.IsFaultOfProgram.in_types fault has)
