-- What has types has them also where all that may come to a site is kept for it.
use Rattle.std.proofs.Common.{◌≡◌, refl, List, [], ◌∷◌, ◌++◌, Option, ◌⊎◌, inl, inr}
use Rattle.cd_sets.specs.declared.node_id.NodeId.{NodeId}
use Rattle.cd_syntax.specs.Name.{Name}
use Rattle.cd_syntax.specs.TypeTree.{Tree}
use Rattle.cd_model.specs.AllOf.{AllOf, AnyOf}
use Rattle.cd_model.specs.BuiltIns.{DATA}
use Rattle.cd_model.specs.Formula.{Graph}
use Rattle.cd_model.specs.Scope.{Scope}
use Rattle.cd_model.specs.Thing.{Thing}
use Rattle.cd_model.proofs.Covered.{each_parts}
use Rattle.cd_model.proofs.Ones.{each_weaker, one_weaker}
use Rattle.cd_program.specs.Expr.{Expr, expr, Kind, Constant, Variable, Tuple, Sequence, Record, Xml}
use Rattle.cd_program.specs.Expr.{Function, Apply, Match, Try, Map, Transform, Let, If, Chain, Call}
use Rattle.cd_program.specs.Expr.{Exprs, NoExpr, AnExpr, Items, NoItem, AnItem, One, Splice, Run}
use Rattle.cd_program.specs.Expr.{Fields, NoField, AField, Tails, NoTail, ATail, Operand, Without, Select}
use Rattle.cd_program.specs.Expr.{Branches, NoBranch, ABranch, FunctionTree, function, Program}
use Rattle.cd_meaning.specs.Sets.{Set, ◌⊆◌}
use Rattle.cd_meaning.specs.Sequences.{IsListOf}
use Rattle.cd_typing.specs.Typ.{Typ, In, BuiltIn, Types, with_type}
use Rattle.cd_typing.specs.Interfaces.{Arrow}
use Rattle.cd_typing.specs.Branches.{Cover, IsTaken, patterns_of}
use Rattle.cd_typing.specs.Kept.{KeptSite, Kept, Anything, Only, IsKept, Matches}
use Rattle.cd_typing.specs.Rules as rules
use Rattle.cd_typing.specs.Sites as site
use Rattle.cd_typing.specs.Sites.{Site, sites_in, sites_in_kind, sites_in_exprs, sites_in_items, sites_in_fields}
use Rattle.cd_typing.specs.Sites.{sites_in_tails, sites_in_branches, sites_of_function, sites_of_functions, all_sites}
use Rattle.cd_typing.specs.Sites.{ComesTo, MayCome, AreMatched, kept_sites}
use Rattle.cd_typing.specs.Typed.{scope_of, HasOwnType, IsTypedWithin, IsTyped}
use Rattle.cd_typing.specs.Typing.{Has, KindHas, HaveAll, ItemsHave, FieldsHave}
use Rattle.cd_typing.specs.Typing.{ArgumentsHave, TailsHave, BodiesHave}
use Rattle.cd_typing.proofs.Subsets.{through}

-- what is kept of a set is kept of what is within it
pub kept_within : (sites : List KeptSite) (patterns : List Tree) (one other : Set) → one ⊆ other
    → IsKept sites patterns other → IsKept sites patterns one
kept_within sites patterns one other within kept = one_weaker
    (λ is. (is.patterns ≡ patterns) × (other ⊆ In is.matched)) (λ is. (is.patterns ≡ patterns) × (one ⊆ In is.matched))
    (λ is holds. (holds.0, through one other (In is.matched) within holds.1)) sites kept

module _ (scope : Scope) where
  -- what a branch takes, one of the patterns takes
  pub comes_closed : (branches : Branches) (e : Thing) → IsTaken scope branches e
      → ComesTo scope site.Closed (patterns_of branches) e
  comes_closed NoBranch e none = none
  comes_closed (ABranch pattern body rest) e (inl taken) = inl taken
  comes_closed (ABranch pattern body rest) e (inr later) = inr (comes_closed rest e later)

  module _ (sites : List KeptSite) where
    -- all that may come to a site is kept for it
    abbrev pub IsKeptFor : Site → Type 0
    IsKeptFor one = IsKept sites one.patterns (MayCome scope one)

    abbrev pub AreKept : List Site → Type 0
    AreKept = AllOf IsKeptFor

    -- what is covered is kept
    cover_kept : (branches : Branches) (matched : Set) → IsKeptFor (site.site site.Closed branches) → Cover scope branches matched
        → Matches (Only sites) (patterns_of branches) matched (Cover scope branches matched)
    cover_kept branches matched kept cover = (
      kept_within sites (patterns_of branches) matched (ComesTo scope site.Closed (patterns_of branches))
          (λ e element inside. comes_closed branches e (cover e element inside)) kept,
      cover,
    )

    abbrev pub Keeps : Expr → Type 0
    Keeps e = (types : Types) (t : Typ) → Has scope types e t → rules.Has (Only sites) scope types e t

    -- the body of each branch
    abbrev pub AllKeep : Branches → Type 0
    AllKeep NoBranch = Unit {0}
    AllKeep (ABranch pattern body rest) = Keeps body × AllKeep rest

    keep_bodies : (branches : Branches) → AllKeep branches → (types : Types) (before : List Tree) (matched wanted : Set)
        → BodiesHave scope types before matched branches wanted
        → rules.BodiesHave (Only sites) scope types before matched branches wanted
    keep_bodies NoBranch all types before matched wanted has = tt
    keep_bodies (ABranch pattern body rest) all types before matched wanted has = (
      λ e captures first. let one = has.0 e captures first in
          (one.0, one.1, one.2, one.3, one.4, all.0 (one.0 ++ types) one.1 one.5, one.6),
      keep_bodies rest all.1 types (pattern ∷ before) matched wanted has.1,
    )

    -- the arrows of a function, whose own name has the type `self`
    arrows_keep : (name : Option Name) (self : Typ) (branches : Branches) → IsKeptFor (site.site site.Closed branches)
        → AllKeep branches → (types : Types) (arrows : List Arrow)
        → AllOf (λ arrow. Cover scope branches (In arrow.argument)
        × BodiesHave scope (with_type name self types) [] (In arrow.argument) branches (In arrow.result)) arrows
        → AllOf (λ arrow. Matches (Only sites) (patterns_of branches) (In arrow.argument) (Cover scope branches (In arrow.argument))
        × rules.BodiesHave (Only sites) scope (with_type name self types) [] (In arrow.argument) branches (In arrow.result)) arrows
    arrows_keep name self branches kept all types [] has = tt
    arrows_keep name self branches kept all types (arrow ∷ arrows) has = (
      (
        cover_kept branches (In arrow.argument) kept has.0.0,
        keep_bodies branches all (with_type name self types) [] (In arrow.argument) (In arrow.result) has.0.1,
      ),
      arrows_keep name self branches kept all types arrows has.1,
    )

    mutual
      pub keep : (e : Expr) → AreKept (sites_in e) → Keeps e
      keep (expr span kind) kept types t has = keep_kind kind kept types t has

      pub keep_branches : (branches : Branches) → AreKept (sites_in_branches branches) → AllKeep branches
      keep_branches NoBranch kept = tt
      keep_branches (ABranch pattern body rest) kept =
          let both = each_parts IsKeptFor (sites_in body) (sites_in_branches rest) kept in
          (keep body both.0, keep_branches rest both.1)

      pub keep_function : (f : FunctionTree) → AreKept (sites_of_function f) → (types : Types) (t : Typ)
          → rules.FunctionHas Anything scope types f t → rules.FunctionHas (Only sites) scope types f t
      keep_function (function at name name_at interface branches) kept types t has = (
        has.0,
        has.1,
        has.2,
        has.3,
        arrows_keep name has.1 branches kept.0 (keep_branches branches kept.1) types has.0 has.4,
        has.5,
      )

      keep_kind : (kind : Kind) → AreKept (sites_in_kind kind) → (types : Types) (t : Typ) → KindHas scope types kind t
          → rules.KindHas (Only sites) scope types kind t
      keep_kind (Constant is) kept types t has = has
      keep_kind (Variable name) kept types t has = has
      keep_kind (Tuple exprs) kept types t has = (has.0, keep_all exprs kept types has.0 has.1, has.2)
      keep_kind (Sequence items) kept types t has = (has.0, keep_items items kept types has.0 has.1, has.2)
      keep_kind (Record fields) kept types t has = (has.0, keep_fields fields kept types has.0 has.1, has.2)
      keep_kind (Xml tag attributes content) kept types t has =
          let first = each_parts IsKeptFor (sites_in tag) (sites_in attributes ++ sites_in content) kept in
          let second = each_parts IsKeptFor (sites_in attributes) (sites_in content) first.1 in (
            has.0,
            has.1,
            has.2,
            has.3,
            keep tag first.0 types has.0 has.4,
            has.5,
            has.6,
            keep attributes second.0 types has.1 has.7,
            has.8,
            has.9,
            keep content second.1 types has.2 has.10,
            has.11,
          )
      keep_kind (Function f) kept types t has = keep_function f kept types t has
      keep_kind (Apply NoExpr) kept types t has = has
      keep_kind (Apply (AnExpr e rest)) kept types t has =
          let both = each_parts IsKeptFor (sites_in e) (sites_in_exprs rest) kept in
          (has.0, has.1, keep e both.0 types has.0 has.2, keep_arguments rest both.1 types has.0 t has.3)
      keep_kind (Match value branches) kept types t has =
          let both = each_parts IsKeptFor (sites_in value) (sites_in_branches branches) kept.1 in (
            has.0,
            has.1,
            keep value both.0 types has.0 has.2,
            cover_kept branches (In has.0) kept.0 has.3,
            keep_bodies branches (keep_branches branches both.1) types [] (In has.0) (In t) has.4,
          )
      keep_kind (Let pattern value rest) kept types t has =
          let both = each_parts IsKeptFor (sites_in value) (sites_in rest) kept.1 in (
            has.0,
            has.1,
            keep value both.0 types has.0 has.2,
            cover_kept (ABranch pattern rest NoBranch) (In has.0) kept.0 has.3,
            λ e captures first. let one = has.4 e captures first in
                (one.0, one.1, one.2, keep rest both.1 (one.0 ++ types) t one.3),
          )
      keep_kind (If condition then_one else_one) kept types t has =
          let first = each_parts IsKeptFor (sites_in condition) (sites_in then_one ++ sites_in else_one) kept in
          let second = each_parts IsKeptFor (sites_in then_one) (sites_in else_one) first.1 in (
            has.0,
            has.1,
            keep condition first.0 types has.0 has.2,
            has.3,
            λ yes. keep then_one second.0 types t (has.4 yes),
            λ no. keep else_one second.1 types t (has.5 no),
          )
      keep_kind (Try body branches) kept types t has =
          let both = each_parts IsKeptFor (sites_in body) (sites_in_branches branches) kept.1 in (
            keep body both.0 types t has.0,
            (
              kept.0,
              keep_bodies branches (keep_branches branches both.1) types [] (BuiltIn DATA) (In t) has.1,
            ),
          )
      keep_kind (Map value branches) kept types t has =
          let both = each_parts IsKeptFor (sites_in value) (sites_in_branches branches) kept.1 in (
            has.0,
            has.1,
            has.2,
            has.3,
            keep value both.0 types has.0 has.4,
            has.5,
            has.6,
            cover_kept branches (In has.1) kept.0 has.7,
            has.8,
            keep_bodies branches (keep_branches branches both.1) types [] (In has.1) (In has.2) has.9,
            has.10,
          )
      keep_kind (Transform value branches) kept types t has =
          let both = each_parts IsKeptFor (sites_in value) (sites_in_branches branches) kept.1 in (
            has.0,
            has.1,
            has.2,
            has.3,
            keep value both.0 types has.0 has.4,
            has.5,
            has.6,
            has.7,
            (
              kept_within sites (patterns_of branches) (In has.1) (ComesTo scope site.Filtering (patterns_of branches))
                  (λ e element inside. tt) kept.0,
              keep_bodies branches (keep_branches branches both.1) types [] (In has.1) (IsListOf (In has.2)) has.8,
            ),
            has.9,
          )
      keep_kind (Chain first tails) kept types t has =
          let both = each_parts IsKeptFor (sites_in first) (sites_in_tails tails) kept in
          (has.0, has.1, keep first both.0 types has.0 has.2, keep_tails tails both.1 types has.0 t has.3)
      keep_kind (Call word operand) kept types t has = (has.0, has.1, keep operand kept types has.0 has.2, has.3)

      keep_all : (exprs : Exprs) → AreKept (sites_in_exprs exprs) → (types : Types) (parts : List Typ)
          → HaveAll scope types exprs parts → rules.HaveAll (Only sites) scope types exprs parts
      keep_all NoExpr kept types [] has = has
      keep_all NoExpr kept types (s ∷ parts) has = has
      keep_all (AnExpr e rest) kept types [] has = has
      keep_all (AnExpr e rest) kept types (s ∷ parts) has =
          let both = each_parts IsKeptFor (sites_in e) (sites_in_exprs rest) kept in
          (has.0, keep e both.0 types s has.1, keep_all rest both.1 types parts has.2)

      keep_items : (items : Items) → AreKept (sites_in_items items) → (types : Types) (parts : List Typ)
          → ItemsHave scope types items parts → rules.ItemsHave (Only sites) scope types items parts
      keep_items NoItem kept types [] has = has
      keep_items NoItem kept types (s ∷ parts) has = has
      keep_items (AnItem (One e) rest) kept types [] has = has
      keep_items (AnItem (One e) rest) kept types (s ∷ parts) has =
          let both = each_parts IsKeptFor (sites_in e) (sites_in_items rest) kept in
          (has.0, keep e both.0 types s has.1, keep_items rest both.1 types parts has.2)
      keep_items (AnItem (Splice e) rest) kept types [] has = has
      keep_items (AnItem (Splice e) rest) kept types (s ∷ parts) has =
          let both = each_parts IsKeptFor (sites_in e) (sites_in_items rest) kept in
          (has.0, keep e both.0 types s has.1, has.2, keep_items rest both.1 types parts has.3)
      keep_items (AnItem (Run characters) rest) kept types parts has = keep_items rest kept types parts has

      keep_fields : (fields : Fields) → AreKept (sites_in_fields fields) → (types : Types) (parts : List Typ)
          → FieldsHave scope types fields parts → rules.FieldsHave (Only sites) scope types fields parts
      keep_fields NoField kept types [] has = has
      keep_fields NoField kept types (s ∷ parts) has = has
      keep_fields (AField label at e rest) kept types [] has = has
      keep_fields (AField label at e rest) kept types (s ∷ parts) has =
          let both = each_parts IsKeptFor (sites_in e) (sites_in_fields rest) kept in
          (has.0, keep e both.0 types s has.1, keep_fields rest both.1 types parts has.2)

      keep_arguments : (exprs : Exprs) → AreKept (sites_in_exprs exprs) → (types : Types) (self t : Typ)
          → ArgumentsHave scope types self exprs t → rules.ArgumentsHave (Only sites) scope types self exprs t
      keep_arguments NoExpr kept types self t has = has
      keep_arguments (AnExpr e rest) kept types self t has =
          let both = each_parts IsKeptFor (sites_in e) (sites_in_exprs rest) kept in (
            has.0,
            has.1,
            has.2,
            keep e both.0 types has.0 has.3,
            has.4,
            has.5,
            keep_arguments rest both.1 types has.1 t has.6,
          )

      keep_tails : (tails : Tails) → AreKept (sites_in_tails tails) → (types : Types) (self t : Typ)
          → TailsHave scope types self tails t → rules.TailsHave (Only sites) scope types self tails t
      keep_tails NoTail kept types self t has = has
      keep_tails (ATail (Operand op e) rest) kept types self t has =
          let both = each_parts IsKeptFor (sites_in e) (sites_in_tails rest) kept in (
            has.0,
            has.1,
            (has.2.0, λ reached. let one = has.2.1 reached in (one.0, one.1, keep e both.0 types one.0 one.2, one.3)),
            keep_tails rest both.1 types has.0 t has.3,
          )
      keep_tails (ATail (Without label) rest) kept types self t has =
          (has.0, has.1, has.2, keep_tails rest kept types has.0 t has.3)
      keep_tails (ATail (Select label) rest) kept types self t has =
          (has.0, has.1, has.2, keep_tails rest kept types has.0 t has.3)

    -- functions that are declared
    functions_keep : (types : Types) (functions : List FunctionTree) → AreKept (sites_of_functions functions)
        → AllOf (HasOwnType scope Anything types) functions → AllOf (HasOwnType scope (Only sites) types) functions
    functions_keep types [] kept has = tt
    functions_keep types (f ∷ rest) kept has =
        let both = each_parts IsKeptFor (sites_of_function f) (sites_of_functions rest) kept in (
          (has.0.0, has.0.1, keep_function f both.0 types has.0.0 has.0.2),
          functions_keep types rest both.1 has.1,
        )

  -- what may come to a site is in its node
  pub nodes_kept : (graph : Graph) (sites : List Site) (ids : List NodeId) → AreMatched scope graph sites ids
      → AllOf (λ one. IsKept (kept_sites graph sites ids) one.patterns (MayCome scope one)) sites
  nodes_kept graph [] ids matched = tt
  nodes_kept graph (one ∷ sites) [] matched = absurd matched
  nodes_kept graph (one ∷ sites) (id ∷ ids) matched = (
    inl (refl, matched.0.whole),
    each_weaker (λ is. IsKept (kept_sites graph sites ids) is.patterns (MayCome scope is))
        (λ is. IsKept (kept_sites graph (one ∷ sites) (id ∷ ids)) is.patterns (MayCome scope is))
        (λ is kept. inr kept) sites (nodes_kept graph sites ids matched.1),
  )

pub typed_within : (program : Program) (graph : Graph) (ids : List NodeId)
    → AreMatched (scope_of program) graph (all_sites program) ids → IsTyped program
    → IsTypedWithin (Only (kept_sites graph (all_sites program) ids)) program
typed_within program graph ids matched typed = record {
  types = typed.types;
  declared = typed.declared;
  functions = functions_keep (scope_of program) (kept_sites graph (all_sites program) ids) typed.types program.functions
      (nodes_kept (scope_of program) graph (all_sites program) ids matched) typed.functions;
  main = typed.main;
}
