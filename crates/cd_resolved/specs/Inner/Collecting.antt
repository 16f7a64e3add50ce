-- What a walk over a program collects: the functions that stand in others, the patterns, and the
-- sites.
use Rattle.std.specs.Prelude.{List, [], ◌∷◌, ◌++◌}
use Rattle.cd_syntax.specs.TypeTree.{Tree}
use Rattle.cd_program.specs.Expr.{Expr, expr, Kind, Tuple, Sequence, Record, Xml, Function, Apply}
use Rattle.cd_program.specs.Expr.{Match, Try, Map, Transform, Let, If, Chain, Call, Exprs, NoExpr}
use Rattle.cd_program.specs.Expr.{AnExpr, Items, NoItem, AnItem, Item, One, Splice, Run, Fields}
use Rattle.cd_program.specs.Expr.{NoField, AField, Tails, NoTail, ATail, Tail, Operand, Without}
use Rattle.cd_program.specs.Expr.{Select, Branches, NoBranch, ABranch, FunctionTree, function}
use Rattle.cd_program.specs.Expr.{Program}
use Rattle.cd_typing.specs.Sites.{Site, site, Closed, Catching, Filtering}

pub record Parts : Type 0 where
  pub functions : List FunctionTree
  pub patterns : List Tree
  pub sites : List Site

abbrev pub nothing : Parts
nothing = record { functions = []; patterns = []; sites = [] }

abbrev pub with_function : FunctionTree → Parts → Parts
with_function f parts = record {
  functions = parts.functions ++ f ∷ [];
  patterns = parts.patterns;
  sites = parts.sites;
}

abbrev pub with_pattern : Tree → Parts → Parts
with_pattern pattern parts = record {
  functions = parts.functions;
  patterns = parts.patterns ++ pattern ∷ [];
  sites = parts.sites;
}

abbrev pub with_site : Site → Parts → Parts
with_site one parts = record {
  functions = parts.functions;
  patterns = parts.patterns;
  sites = parts.sites ++ one ∷ [];
}

abbrev mutual
  pub with_expr : Expr → Parts → Parts
  with_expr (expr span kind) parts = with_kind kind parts

  pub with_kind : Kind → Parts → Parts
  with_kind (Tuple exprs) parts = with_exprs exprs parts
  with_kind (Sequence items) parts = with_items items parts
  with_kind (Record fields) parts = with_fields fields parts
  with_kind (Xml tag attributes content) parts =
      with_expr content (with_expr attributes (with_expr tag parts))
  with_kind (Function f) parts = with_parts_of f (with_function f parts)
  with_kind (Apply exprs) parts = with_exprs exprs parts
  with_kind (Match e branches) parts =
      with_branches branches (with_expr e (with_site (site Closed branches) parts))
  with_kind (Try body branches) parts =
      with_branches branches (with_expr body (with_site (site Catching branches) parts))
  with_kind (Map e branches) parts =
      with_branches branches (with_expr e (with_site (site Closed branches) parts))
  with_kind (Transform e branches) parts =
      with_branches branches (with_expr e (with_site (site Filtering branches) parts))
  with_kind (Let pattern e rest) parts =
      with_expr rest (with_expr e (with_pattern pattern
      (with_site (site Closed (ABranch pattern rest NoBranch)) parts)))
  with_kind (If condition then_one else_one) parts =
      with_expr else_one (with_expr then_one (with_expr condition parts))
  with_kind (Chain first tails) parts = with_tails tails (with_expr first parts)
  with_kind (Call word e) parts = with_expr e parts
  with_kind kind parts = parts

  pub with_exprs : Exprs → Parts → Parts
  with_exprs NoExpr parts = parts
  with_exprs (AnExpr first rest) parts = with_exprs rest (with_expr first parts)

  pub with_items : Items → Parts → Parts
  with_items NoItem parts = parts
  with_items (AnItem first rest) parts = with_items rest (with_item first parts)

  pub with_item : Item → Parts → Parts
  with_item (One e) parts = with_expr e parts
  with_item (Splice e) parts = with_expr e parts
  with_item (Run characters) parts = parts

  pub with_fields : Fields → Parts → Parts
  with_fields NoField parts = parts
  with_fields (AField label at e rest) parts = with_fields rest (with_expr e parts)

  pub with_tails : Tails → Parts → Parts
  with_tails NoTail parts = parts
  with_tails (ATail first rest) parts = with_tails rest (with_tail first parts)

  pub with_tail : Tail → Parts → Parts
  with_tail (Operand op e) parts = with_expr e parts
  with_tail (Without label) parts = parts
  with_tail (Select label) parts = parts

  pub with_branches : Branches → Parts → Parts
  with_branches NoBranch parts = parts
  with_branches (ABranch pattern body rest) parts =
      with_branches rest (with_expr body (with_pattern pattern parts))

  pub with_parts_of : FunctionTree → Parts → Parts
  with_parts_of (function at name name_at interface branches) parts =
      with_branches branches (with_site (site Closed branches) parts)

abbrev pub with_functions : List FunctionTree → Parts → Parts
with_functions [] parts = parts
with_functions (f ∷ rest) parts = with_functions rest (with_function f parts)

abbrev pub with_parts_of_all : List FunctionTree → Parts → Parts
with_parts_of_all [] parts = parts
with_parts_of_all (f ∷ rest) parts = with_parts_of_all rest (with_parts_of f parts)

-- the functions that are declared, and then what stands in them
abbrev pub parts_of : Program → Parts
parts_of program = with_parts_of_all program.functions (with_functions program.functions nothing)
