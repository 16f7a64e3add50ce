-- What the walk over a program collects are all its functions and all its patterns.
use Rattle.std.proofs.Common.{◌≡◌, List, [], ◌∷◌, ◌++◌, refl, sym, ap, ◌∙◌}
use Rattle.std.proofs.lemmas.List.{append_assoc, append-nil}
use Rattle.cd_program.specs.Expr.{Expr, expr, Kind, Constant, Variable, Tuple, Sequence, Record, Xml, Function, Apply}
use Rattle.cd_program.specs.Expr.{Match, Try, Map, Transform, Let, If, Chain, Call, Exprs, NoExpr}
use Rattle.cd_program.specs.Expr.{AnExpr, Items, NoItem, AnItem, One, Splice, Run, Fields}
use Rattle.cd_program.specs.Expr.{NoField, AField, Tails, NoTail, ATail, Operand, Without}
use Rattle.cd_program.specs.Expr.{Select, Branches, NoBranch, ABranch, FunctionTree, function}
use Rattle.cd_program.specs.Expr.{Program}
use Rattle.cd_evaluation.specs.ProgramFunctions.{functions_in, functions_in_kind, functions_in_exprs, functions_in_items, functions_in_fields}
use Rattle.cd_evaluation.specs.ProgramFunctions.{functions_in_tails, functions_in_branches, within_all, all_functions}
use Rattle.cd_typing.specs.Sites.{site, Closed, Catching, Filtering}
use Rattle.cd_resolved.specs.Inner.Collecting.{Parts, nothing, with_function, with_pattern, with_site, with_expr, with_kind, with_exprs}
use Rattle.cd_resolved.specs.Inner.Collecting.{with_items, with_fields, with_tails, with_branches}
use Rattle.cd_resolved.specs.Inner.Collecting.{with_functions, with_parts_of_all, parts_of}
use Rattle.cd_placed.specs.Patterns.{patterns_in, patterns_in_kind, patterns_in_exprs, patterns_in_items, patterns_in_fields}
use Rattle.cd_placed.specs.Patterns.{patterns_in_tails, patterns_in_branches, patterns_of_functions, all_patterns}

-- one list after another
pub after : {X : Type 0} (old one other mid new : List X) → mid ≡ old ++ one → new ≡ mid ++ other → new ≡ old ++ (one ++ other)
after old one other mid new first second = second ∙ ap (λ all. all ++ other) first ∙ append_assoc old one other

pub none : {X : Type 0} (old : List X) → old ≡ old ++ []
none old = sym (append-nil old)

mutual
  functions_expr : (e : Expr) (parts : Parts) → (with_expr e parts).functions ≡ parts.functions ++ functions_in e
  functions_expr (expr span kind) parts = functions_kind kind parts

  functions_kind : (kind : Kind) (parts : Parts) → (with_kind kind parts).functions ≡ parts.functions ++ functions_in_kind kind
  functions_kind (Constant is) parts = none parts.functions
  functions_kind (Variable name) parts = none parts.functions
  functions_kind (Tuple exprs) parts = functions_exprs exprs parts
  functions_kind (Sequence items) parts = functions_items items parts
  functions_kind (Record fields) parts = functions_fields fields parts
  functions_kind (Xml tag attributes content) parts =
      after parts.functions (functions_in tag) (functions_in attributes ++ functions_in content) _ _ (functions_expr tag parts)
      (after (with_expr tag parts).functions (functions_in attributes) (functions_in content) _ _ (functions_expr attributes (with_expr tag parts))
      (functions_expr content (with_expr attributes (with_expr tag parts))))
  functions_kind (Function (function at name name_at interface branches)) parts =
      after parts.functions (function at name name_at interface branches ∷ []) (functions_in_branches branches) _ _ refl
      (functions_branches branches (with_site (site Closed branches) (with_function (function at name name_at interface branches) parts)))
  functions_kind (Apply exprs) parts = functions_exprs exprs parts
  functions_kind (Match e branches) parts = let own = with_site (site Closed branches) parts in
      after parts.functions (functions_in e) (functions_in_branches branches) _ _ (functions_expr e own) (functions_branches branches (with_expr e own))
  functions_kind (Try body branches) parts = let own = with_site (site Catching branches) parts in
      after parts.functions (functions_in body) (functions_in_branches branches) _ _ (functions_expr body own) (functions_branches branches (with_expr body own))
  functions_kind (Map e branches) parts = let own = with_site (site Closed branches) parts in
      after parts.functions (functions_in e) (functions_in_branches branches) _ _ (functions_expr e own) (functions_branches branches (with_expr e own))
  functions_kind (Transform e branches) parts = let own = with_site (site Filtering branches) parts in
      after parts.functions (functions_in e) (functions_in_branches branches) _ _ (functions_expr e own) (functions_branches branches (with_expr e own))
  functions_kind (Let pattern e rest) parts =
      let own = with_pattern pattern (with_site (site Closed (ABranch pattern rest NoBranch)) parts) in
      after parts.functions (functions_in e) (functions_in rest) _ _ (functions_expr e own) (functions_expr rest (with_expr e own))
  functions_kind (If condition then_one else_one) parts =
      after parts.functions (functions_in condition) (functions_in then_one ++ functions_in else_one) _ _ (functions_expr condition parts)
      (after (with_expr condition parts).functions (functions_in then_one) (functions_in else_one) _ _ (functions_expr then_one (with_expr condition parts))
      (functions_expr else_one (with_expr then_one (with_expr condition parts))))
  functions_kind (Chain first tails) parts =
      after parts.functions (functions_in first) (functions_in_tails tails) _ _ (functions_expr first parts) (functions_tails tails (with_expr first parts))
  functions_kind (Call word e) parts = functions_expr e parts

  functions_exprs : (exprs : Exprs) (parts : Parts) → (with_exprs exprs parts).functions ≡ parts.functions ++ functions_in_exprs exprs
  functions_exprs NoExpr parts = none parts.functions
  functions_exprs (AnExpr e rest) parts =
      after parts.functions (functions_in e) (functions_in_exprs rest) _ _ (functions_expr e parts) (functions_exprs rest (with_expr e parts))

  functions_items : (items : Items) (parts : Parts) → (with_items items parts).functions ≡ parts.functions ++ functions_in_items items
  functions_items NoItem parts = none parts.functions
  functions_items (AnItem (One e) rest) parts =
      after parts.functions (functions_in e) (functions_in_items rest) _ _ (functions_expr e parts) (functions_items rest (with_expr e parts))
  functions_items (AnItem (Splice e) rest) parts =
      after parts.functions (functions_in e) (functions_in_items rest) _ _ (functions_expr e parts) (functions_items rest (with_expr e parts))
  functions_items (AnItem (Run characters) rest) parts = functions_items rest parts

  functions_fields : (fields : Fields) (parts : Parts) → (with_fields fields parts).functions ≡ parts.functions ++ functions_in_fields fields
  functions_fields NoField parts = none parts.functions
  functions_fields (AField label at e rest) parts =
      after parts.functions (functions_in e) (functions_in_fields rest) _ _ (functions_expr e parts) (functions_fields rest (with_expr e parts))

  functions_tails : (tails : Tails) (parts : Parts) → (with_tails tails parts).functions ≡ parts.functions ++ functions_in_tails tails
  functions_tails NoTail parts = none parts.functions
  functions_tails (ATail (Operand op e) rest) parts =
      after parts.functions (functions_in e) (functions_in_tails rest) _ _ (functions_expr e parts) (functions_tails rest (with_expr e parts))
  functions_tails (ATail (Without label) rest) parts = functions_tails rest parts
  functions_tails (ATail (Select label) rest) parts = functions_tails rest parts

  functions_branches : (branches : Branches) (parts : Parts)
      → (with_branches branches parts).functions ≡ parts.functions ++ functions_in_branches branches
  functions_branches NoBranch parts = none parts.functions
  functions_branches (ABranch pattern body rest) parts =
      after parts.functions (functions_in body) (functions_in_branches rest) _ _ (functions_expr body (with_pattern pattern parts))
      (functions_branches rest (with_expr body (with_pattern pattern parts)))

mutual
  patterns_expr : (e : Expr) (parts : Parts) → (with_expr e parts).patterns ≡ parts.patterns ++ patterns_in e
  patterns_expr (expr span kind) parts = patterns_kind kind parts

  patterns_kind : (kind : Kind) (parts : Parts) → (with_kind kind parts).patterns ≡ parts.patterns ++ patterns_in_kind kind
  patterns_kind (Constant is) parts = none parts.patterns
  patterns_kind (Variable name) parts = none parts.patterns
  patterns_kind (Tuple exprs) parts = patterns_exprs exprs parts
  patterns_kind (Sequence items) parts = patterns_items items parts
  patterns_kind (Record fields) parts = patterns_fields fields parts
  patterns_kind (Xml tag attributes content) parts =
      after parts.patterns (patterns_in tag) (patterns_in attributes ++ patterns_in content) _ _ (patterns_expr tag parts)
      (after (with_expr tag parts).patterns (patterns_in attributes) (patterns_in content) _ _ (patterns_expr attributes (with_expr tag parts))
      (patterns_expr content (with_expr attributes (with_expr tag parts))))
  patterns_kind (Function (function at name name_at interface branches)) parts =
      patterns_branches branches (with_site (site Closed branches) (with_function (function at name name_at interface branches) parts))
  patterns_kind (Apply exprs) parts = patterns_exprs exprs parts
  patterns_kind (Match e branches) parts = let own = with_site (site Closed branches) parts in
      after parts.patterns (patterns_in e) (patterns_in_branches branches) _ _ (patterns_expr e own) (patterns_branches branches (with_expr e own))
  patterns_kind (Try body branches) parts = let own = with_site (site Catching branches) parts in
      after parts.patterns (patterns_in body) (patterns_in_branches branches) _ _ (patterns_expr body own) (patterns_branches branches (with_expr body own))
  patterns_kind (Map e branches) parts = let own = with_site (site Closed branches) parts in
      after parts.patterns (patterns_in e) (patterns_in_branches branches) _ _ (patterns_expr e own) (patterns_branches branches (with_expr e own))
  patterns_kind (Transform e branches) parts = let own = with_site (site Filtering branches) parts in
      after parts.patterns (patterns_in e) (patterns_in_branches branches) _ _ (patterns_expr e own) (patterns_branches branches (with_expr e own))
  patterns_kind (Let pattern e rest) parts =
      let own = with_pattern pattern (with_site (site Closed (ABranch pattern rest NoBranch)) parts) in
      after parts.patterns (pattern ∷ []) (patterns_in e ++ patterns_in rest) _ _ refl
      (after own.patterns (patterns_in e) (patterns_in rest) _ _ (patterns_expr e own) (patterns_expr rest (with_expr e own)))
  patterns_kind (If condition then_one else_one) parts =
      after parts.patterns (patterns_in condition) (patterns_in then_one ++ patterns_in else_one) _ _ (patterns_expr condition parts)
      (after (with_expr condition parts).patterns (patterns_in then_one) (patterns_in else_one) _ _ (patterns_expr then_one (with_expr condition parts))
      (patterns_expr else_one (with_expr then_one (with_expr condition parts))))
  patterns_kind (Chain first tails) parts =
      after parts.patterns (patterns_in first) (patterns_in_tails tails) _ _ (patterns_expr first parts) (patterns_tails tails (with_expr first parts))
  patterns_kind (Call word e) parts = patterns_expr e parts

  patterns_exprs : (exprs : Exprs) (parts : Parts) → (with_exprs exprs parts).patterns ≡ parts.patterns ++ patterns_in_exprs exprs
  patterns_exprs NoExpr parts = none parts.patterns
  patterns_exprs (AnExpr e rest) parts =
      after parts.patterns (patterns_in e) (patterns_in_exprs rest) _ _ (patterns_expr e parts) (patterns_exprs rest (with_expr e parts))

  patterns_items : (items : Items) (parts : Parts) → (with_items items parts).patterns ≡ parts.patterns ++ patterns_in_items items
  patterns_items NoItem parts = none parts.patterns
  patterns_items (AnItem (One e) rest) parts =
      after parts.patterns (patterns_in e) (patterns_in_items rest) _ _ (patterns_expr e parts) (patterns_items rest (with_expr e parts))
  patterns_items (AnItem (Splice e) rest) parts =
      after parts.patterns (patterns_in e) (patterns_in_items rest) _ _ (patterns_expr e parts) (patterns_items rest (with_expr e parts))
  patterns_items (AnItem (Run characters) rest) parts = patterns_items rest parts

  patterns_fields : (fields : Fields) (parts : Parts) → (with_fields fields parts).patterns ≡ parts.patterns ++ patterns_in_fields fields
  patterns_fields NoField parts = none parts.patterns
  patterns_fields (AField label at e rest) parts =
      after parts.patterns (patterns_in e) (patterns_in_fields rest) _ _ (patterns_expr e parts) (patterns_fields rest (with_expr e parts))

  patterns_tails : (tails : Tails) (parts : Parts) → (with_tails tails parts).patterns ≡ parts.patterns ++ patterns_in_tails tails
  patterns_tails NoTail parts = none parts.patterns
  patterns_tails (ATail (Operand op e) rest) parts =
      after parts.patterns (patterns_in e) (patterns_in_tails rest) _ _ (patterns_expr e parts) (patterns_tails rest (with_expr e parts))
  patterns_tails (ATail (Without label) rest) parts = patterns_tails rest parts
  patterns_tails (ATail (Select label) rest) parts = patterns_tails rest parts

  patterns_branches : (branches : Branches) (parts : Parts)
      → (with_branches branches parts).patterns ≡ parts.patterns ++ patterns_in_branches branches
  patterns_branches NoBranch parts = none parts.patterns
  patterns_branches (ABranch pattern body rest) parts =
      after parts.patterns (pattern ∷ []) (patterns_in body ++ patterns_in_branches rest) _ _ refl
      (after (with_pattern pattern parts).patterns (patterns_in body) (patterns_in_branches rest) _ _
      (patterns_expr body (with_pattern pattern parts))
      (patterns_branches rest (with_expr body (with_pattern pattern parts))))

-- the functions of a program
declared_functions : (functions : List FunctionTree) (parts : Parts)
    → (with_functions functions parts).functions ≡ parts.functions ++ functions
declared_functions [] parts = none parts.functions
declared_functions (f ∷ rest) parts =
    after parts.functions (f ∷ []) rest _ _ refl (declared_functions rest (with_function f parts))

declared_patterns : (functions : List FunctionTree) (parts : Parts)
    → (with_functions functions parts).patterns ≡ parts.patterns
declared_patterns [] parts = refl
declared_patterns (f ∷ rest) parts = declared_patterns rest (with_function f parts)

functions_within_all : (functions : List FunctionTree) (parts : Parts)
    → (with_parts_of_all functions parts).functions ≡ parts.functions ++ within_all functions
functions_within_all [] parts = none parts.functions
functions_within_all (function at name name_at interface branches ∷ rest) parts =
    let own = with_site (site Closed branches) parts in
    after parts.functions (functions_in_branches branches) (within_all rest) _ _ (functions_branches branches own)
    (functions_within_all rest (with_branches branches own))

patterns_within_all : (functions : List FunctionTree) (parts : Parts)
    → (with_parts_of_all functions parts).patterns ≡ parts.patterns ++ patterns_of_functions functions
patterns_within_all [] parts = none parts.patterns
patterns_within_all (function at name name_at interface branches ∷ rest) parts =
    let own = with_site (site Closed branches) parts in
    after parts.patterns (patterns_in_branches branches) (patterns_of_functions rest) _ _ (patterns_branches branches own)
    (patterns_within_all rest (with_branches branches own))

pub all_functions_found : (program : Program) → (parts_of program).functions ≡ all_functions program
all_functions_found program =
    functions_within_all program.functions (with_functions program.functions nothing)
    ∙ ap (λ declared. declared ++ within_all program.functions) (declared_functions program.functions nothing)

pub all_patterns_found : (program : Program) → (parts_of program).patterns ≡ all_patterns program
all_patterns_found program =
    patterns_within_all program.functions (with_functions program.functions nothing)
    ∙ ap (λ before. before ++ patterns_of_functions program.functions) (declared_patterns program.functions nothing)
