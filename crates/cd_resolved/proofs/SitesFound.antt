-- The sites that the walk over a program collects are all its sites.
use Rattle.std.proofs.Common.{◌≡◌, List, [], ◌∷◌, ◌++◌, refl, ap, ◌∙◌}
use Rattle.cd_program.specs.Expr.{Expr, expr, Kind, Constant, Variable, Tuple, Sequence, Record, Xml, Function, Apply}
use Rattle.cd_program.specs.Expr.{Match, Try, Map, Transform, Let, If, Chain, Call, Exprs, NoExpr}
use Rattle.cd_program.specs.Expr.{AnExpr, Items, NoItem, AnItem, One, Splice, Run, Fields}
use Rattle.cd_program.specs.Expr.{NoField, AField, Tails, NoTail, ATail, Operand, Without}
use Rattle.cd_program.specs.Expr.{Select, Branches, NoBranch, ABranch, FunctionTree, function, Program}
use Rattle.cd_typing.specs.Sites.{site, Closed, Catching, Filtering, sites_in, sites_in_kind, sites_in_exprs, sites_in_items}
use Rattle.cd_typing.specs.Sites.{sites_in_fields, sites_in_tails, sites_in_branches, sites_of_functions, all_sites}
use Rattle.cd_resolved.specs.Inner.Collecting.{Parts, nothing, with_function, with_pattern, with_site, with_expr, with_kind, with_exprs}
use Rattle.cd_resolved.specs.Inner.Collecting.{with_items, with_fields, with_tails, with_branches}
use Rattle.cd_resolved.specs.Inner.Collecting.{with_functions, with_parts_of_all, parts_of}
use Rattle.cd_resolved.proofs.PartsFound.{after, none}

mutual
  sites_expr : (e : Expr) (parts : Parts) → (with_expr e parts).sites ≡ parts.sites ++ sites_in e
  sites_expr (expr span kind) parts = sites_kind kind parts

  sites_kind : (kind : Kind) (parts : Parts) → (with_kind kind parts).sites ≡ parts.sites ++ sites_in_kind kind
  sites_kind (Constant is) parts = none parts.sites
  sites_kind (Variable name) parts = none parts.sites
  sites_kind (Tuple exprs) parts = sites_exprs exprs parts
  sites_kind (Sequence items) parts = sites_items items parts
  sites_kind (Record fields) parts = sites_fields fields parts
  sites_kind (Xml tag attributes content) parts =
      after parts.sites (sites_in tag) (sites_in attributes ++ sites_in content) _ _ (sites_expr tag parts)
      (after (with_expr tag parts).sites (sites_in attributes) (sites_in content) _ _ (sites_expr attributes (with_expr tag parts))
      (sites_expr content (with_expr attributes (with_expr tag parts))))
  sites_kind (Function (function at name name_at interface branches)) parts =
      let own = with_site (site Closed branches) (with_function (function at name name_at interface branches) parts) in
      after parts.sites (site Closed branches ∷ []) (sites_in_branches branches) _ _ refl (sites_branches branches own)
  sites_kind (Apply exprs) parts = sites_exprs exprs parts
  sites_kind (Match e branches) parts = let own = with_site (site Closed branches) parts in
      after parts.sites (site Closed branches ∷ []) (sites_in e ++ sites_in_branches branches) _ _ refl
      (after own.sites (sites_in e) (sites_in_branches branches) _ _ (sites_expr e own) (sites_branches branches (with_expr e own)))
  sites_kind (Try body branches) parts = let own = with_site (site Catching branches) parts in
      after parts.sites (site Catching branches ∷ []) (sites_in body ++ sites_in_branches branches) _ _ refl
      (after own.sites (sites_in body) (sites_in_branches branches) _ _ (sites_expr body own) (sites_branches branches (with_expr body own)))
  sites_kind (Map e branches) parts = let own = with_site (site Closed branches) parts in
      after parts.sites (site Closed branches ∷ []) (sites_in e ++ sites_in_branches branches) _ _ refl
      (after own.sites (sites_in e) (sites_in_branches branches) _ _ (sites_expr e own) (sites_branches branches (with_expr e own)))
  sites_kind (Transform e branches) parts = let own = with_site (site Filtering branches) parts in
      after parts.sites (site Filtering branches ∷ []) (sites_in e ++ sites_in_branches branches) _ _ refl
      (after own.sites (sites_in e) (sites_in_branches branches) _ _ (sites_expr e own) (sites_branches branches (with_expr e own)))
  sites_kind (Let pattern e rest) parts =
      let own = with_pattern pattern (with_site (site Closed (ABranch pattern rest NoBranch)) parts) in
      after parts.sites (site Closed (ABranch pattern rest NoBranch) ∷ []) (sites_in e ++ sites_in rest) _ _ refl
      (after own.sites (sites_in e) (sites_in rest) _ _ (sites_expr e own) (sites_expr rest (with_expr e own)))
  sites_kind (If condition then_one else_one) parts =
      after parts.sites (sites_in condition) (sites_in then_one ++ sites_in else_one) _ _ (sites_expr condition parts)
      (after (with_expr condition parts).sites (sites_in then_one) (sites_in else_one) _ _ (sites_expr then_one (with_expr condition parts))
      (sites_expr else_one (with_expr then_one (with_expr condition parts))))
  sites_kind (Chain first tails) parts =
      after parts.sites (sites_in first) (sites_in_tails tails) _ _ (sites_expr first parts) (sites_tails tails (with_expr first parts))
  sites_kind (Call word e) parts = sites_expr e parts

  sites_exprs : (exprs : Exprs) (parts : Parts) → (with_exprs exprs parts).sites ≡ parts.sites ++ sites_in_exprs exprs
  sites_exprs NoExpr parts = none parts.sites
  sites_exprs (AnExpr e rest) parts =
      after parts.sites (sites_in e) (sites_in_exprs rest) _ _ (sites_expr e parts) (sites_exprs rest (with_expr e parts))

  sites_items : (items : Items) (parts : Parts) → (with_items items parts).sites ≡ parts.sites ++ sites_in_items items
  sites_items NoItem parts = none parts.sites
  sites_items (AnItem (One e) rest) parts =
      after parts.sites (sites_in e) (sites_in_items rest) _ _ (sites_expr e parts) (sites_items rest (with_expr e parts))
  sites_items (AnItem (Splice e) rest) parts =
      after parts.sites (sites_in e) (sites_in_items rest) _ _ (sites_expr e parts) (sites_items rest (with_expr e parts))
  sites_items (AnItem (Run characters) rest) parts = sites_items rest parts

  sites_fields : (fields : Fields) (parts : Parts) → (with_fields fields parts).sites ≡ parts.sites ++ sites_in_fields fields
  sites_fields NoField parts = none parts.sites
  sites_fields (AField label at e rest) parts =
      after parts.sites (sites_in e) (sites_in_fields rest) _ _ (sites_expr e parts) (sites_fields rest (with_expr e parts))

  sites_tails : (tails : Tails) (parts : Parts) → (with_tails tails parts).sites ≡ parts.sites ++ sites_in_tails tails
  sites_tails NoTail parts = none parts.sites
  sites_tails (ATail (Operand op e) rest) parts =
      after parts.sites (sites_in e) (sites_in_tails rest) _ _ (sites_expr e parts) (sites_tails rest (with_expr e parts))
  sites_tails (ATail (Without label) rest) parts = sites_tails rest parts
  sites_tails (ATail (Select label) rest) parts = sites_tails rest parts

  sites_branches : (branches : Branches) (parts : Parts) → (with_branches branches parts).sites ≡ parts.sites ++ sites_in_branches branches
  sites_branches NoBranch parts = none parts.sites
  sites_branches (ABranch pattern body rest) parts = let own = with_pattern pattern parts in
      after parts.sites (sites_in body) (sites_in_branches rest) _ _ (sites_expr body own) (sites_branches rest (with_expr body own))

-- the sites of a program
declared_sites : (functions : List FunctionTree) (parts : Parts) → (with_functions functions parts).sites ≡ parts.sites
declared_sites [] parts = refl
declared_sites (f ∷ rest) parts = declared_sites rest (with_function f parts)

sites_within_all : (functions : List FunctionTree) (parts : Parts)
    → (with_parts_of_all functions parts).sites ≡ parts.sites ++ sites_of_functions functions
sites_within_all [] parts = none parts.sites
sites_within_all (function at name name_at interface branches ∷ rest) parts =
    let own = with_site (site Closed branches) parts in
    after parts.sites (site Closed branches ∷ sites_in_branches branches) (sites_of_functions rest) _ _
    (after parts.sites (site Closed branches ∷ []) (sites_in_branches branches) _ _ refl (sites_branches branches own))
    (sites_within_all rest (with_branches branches own))

pub all_sites_found : (program : Program) → (parts_of program).sites ≡ all_sites program
all_sites_found program =
    sites_within_all program.functions (with_functions program.functions nothing)
    ∙ ap (λ before. before ++ sites_of_functions program.functions) (declared_sites program.functions nothing)
