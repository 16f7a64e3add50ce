-- The sites of a program: one for each function, `match`, `let`, `map`, `transform` and `try`.
use Rattle.std.specs.Prelude.{◌≡◌, ◌<◌, List, [], ◌∷◌, ◌++◌, Some, length}
use Rattle.cd_sets.specs.declared.node_id.NodeId.{NodeId}
use Rattle.cd_syntax.specs.Name.{Name}
use Rattle.cd_syntax.specs.TypeTree.{Tree}
use Rattle.cd_model.specs.AllOf.{AllOf, AnyOf}
use Rattle.cd_model.specs.BuiltIns.{DATA}
use Rattle.cd_model.specs.Formula.{Graph}
use Rattle.cd_model.specs.Scope.{Scope}
use Rattle.cd_model.specs.Thing.{Thing}
use Rattle.cd_matching.specs.Captures.{Captures}
use Rattle.cd_matching.specs.Takes.{WrittenTakes}
use Rattle.cd_program.specs.Expr.{Expr, expr, Kind, Tuple, Sequence, Record, Xml, Function, Apply}
use Rattle.cd_program.specs.Expr.{Match, Try, Map, Transform, Let, If, Chain, Call, Exprs, NoExpr}
use Rattle.cd_program.specs.Expr.{AnExpr, Items, NoItem, AnItem, One, Splice, Run, Fields, NoField}
use Rattle.cd_program.specs.Expr.{AField, Tails, NoTail, ATail, Operand, Without, Select, Branches}
use Rattle.cd_program.specs.Expr.{NoBranch, ABranch, FunctionTree, function, Program}
use Rattle.cd_meaning.specs.Sets.{Set, ◌⊆◌, elements_of}
use Rattle.cd_typing.specs.Typ.{typ, BuiltIn}
use Rattle.cd_typing.specs.Branches.{patterns_of}
use Rattle.cd_typing.specs.Kept.{KeptSite}

-- what a site does with a value that none of its patterns takes
pub data SiteKind : Type 0 where
  -- no such value comes: a function, `match`, `let` and `map`
  Closed : SiteKind
  -- it goes on as the exception that it is: `try`
  Catching : SiteKind
  -- it is left out: `transform`
  Filtering : SiteKind

pub record Site : Type 0 where
  pub kind : SiteKind
  pub patterns : List Tree

abbrev pub site : SiteKind → Branches → Site
site kind branches = record { kind = kind; patterns = patterns_of branches }

-- a form comes before its parts, and parts come in the order of the text
abbrev mutual
  pub sites_in : Expr → List Site
  sites_in (expr span kind) = sites_in_kind kind

  pub sites_in_kind : Kind → List Site
  sites_in_kind (Tuple exprs) = sites_in_exprs exprs
  sites_in_kind (Sequence items) = sites_in_items items
  sites_in_kind (Record fields) = sites_in_fields fields
  sites_in_kind (Xml tag attributes content) =
      sites_in tag ++ (sites_in attributes ++ sites_in content)
  sites_in_kind (Function f) = sites_of_function f
  sites_in_kind (Apply exprs) = sites_in_exprs exprs
  sites_in_kind (Match e branches) =
      site Closed branches ∷ (sites_in e ++ sites_in_branches branches)
  sites_in_kind (Try body branches) =
      site Catching branches ∷ (sites_in body ++ sites_in_branches branches)
  sites_in_kind (Map e branches) =
      site Closed branches ∷ (sites_in e ++ sites_in_branches branches)
  sites_in_kind (Transform e branches) =
      site Filtering branches ∷ (sites_in e ++ sites_in_branches branches)
  sites_in_kind (Let pattern e rest) =
      site Closed (ABranch pattern rest NoBranch) ∷ (sites_in e ++ sites_in rest)
  sites_in_kind (If condition then_one else_one) =
      sites_in condition ++ (sites_in then_one ++ sites_in else_one)
  sites_in_kind (Chain first tails) = sites_in first ++ sites_in_tails tails
  sites_in_kind (Call word e) = sites_in e
  sites_in_kind kind = []

  pub sites_in_exprs : Exprs → List Site
  sites_in_exprs NoExpr = []
  sites_in_exprs (AnExpr e rest) = sites_in e ++ sites_in_exprs rest

  pub sites_in_items : Items → List Site
  sites_in_items NoItem = []
  sites_in_items (AnItem (One e) rest) = sites_in e ++ sites_in_items rest
  sites_in_items (AnItem (Splice e) rest) = sites_in e ++ sites_in_items rest
  sites_in_items (AnItem (Run characters) rest) = sites_in_items rest

  pub sites_in_fields : Fields → List Site
  sites_in_fields NoField = []
  sites_in_fields (AField label at e rest) = sites_in e ++ sites_in_fields rest

  pub sites_in_tails : Tails → List Site
  sites_in_tails NoTail = []
  sites_in_tails (ATail (Operand op e) rest) = sites_in e ++ sites_in_tails rest
  sites_in_tails (ATail (Without label) rest) = sites_in_tails rest
  sites_in_tails (ATail (Select label) rest) = sites_in_tails rest

  pub sites_in_branches : Branches → List Site
  sites_in_branches NoBranch = []
  sites_in_branches (ABranch pattern body rest) = sites_in body ++ sites_in_branches rest

  pub sites_of_function : FunctionTree → List Site
  sites_of_function (function at name name_at interface branches) =
      site Closed branches ∷ sites_in_branches branches

abbrev pub sites_of_functions : List FunctionTree → List Site
sites_of_functions [] = []
sites_of_functions (f ∷ rest) = sites_of_function f ++ sites_of_functions rest

abbrev pub all_sites : Program → List Site
all_sites program = sites_of_functions program.functions

module _ (scope : Scope) where
  -- what may come to a site of this kind: to a closed one just what one of its patterns takes, to a
  -- catching one all data, and anything to a filtering one
  abbrev pub ComesTo : SiteKind → (patterns : List Tree) → Set
  ComesTo Closed patterns e = AnyOf (λ pattern.
      (captures : Captures Name) × WrittenTakes scope pattern e (Some captures)) patterns
  ComesTo Catching patterns e = BuiltIn DATA e
  ComesTo Filtering patterns e = Unit {0}

  abbrev pub MayCome : Site → Set
  MayCome one = ComesTo one.kind one.patterns

  -- a node of the graph for a site, which holds exactly what may come to it
  pub record IsMatched (graph : Graph) (one : Site) (id : NodeId) : Type 0 where
    pub node : id.0 < length graph
    pub whole : MayCome one ⊆ elements_of graph id
    pub only : elements_of graph id ⊆ MayCome one

  -- a node for each site
  abbrev pub AreMatched : Graph → List Site → List NodeId → Type 0
  AreMatched graph [] [] = Unit {0}
  AreMatched graph (one ∷ sites) (id ∷ ids) = IsMatched graph one id × AreMatched graph sites ids
  AreMatched graph sites ids = ⊥

-- the types of these nodes are kept for the sites
abbrev pub kept_sites : Graph → List Site → List NodeId → List KeptSite
kept_sites graph (one ∷ sites) (id ∷ ids) =
    record { patterns = one.patterns; matched = typ graph id } ∷ kept_sites graph sites ids
kept_sites graph sites ids = []
