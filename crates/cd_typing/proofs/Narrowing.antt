-- What has a type has it also where names have narrower types.
use Rattle.std.proofs.Common.{◌≡◌, refl, subst, Bool, true, false, List, [], ◌∷◌, ◌++◌, Option, Some, None, bytes_eq, if◌then◌else◌}
use Rattle.cd_syntax.specs.Name.{Name}
use Rattle.cd_syntax.specs.TypeTree.{Tree}
use Rattle.cd_model.specs.AllOf.{AllOf}
use Rattle.cd_model.specs.BuiltIns.{DATA}
use Rattle.cd_model.specs.Scope.{Scope}
use Rattle.cd_program.specs.Expr.{Expr, expr, Kind, Constant, Variable, Tuple, Sequence, Record, Xml}
use Rattle.cd_program.specs.Expr.{Function, Apply, Match, Try, Map, Transform, Let, If, Chain, Call}
use Rattle.cd_program.specs.Expr.{Exprs, NoExpr, AnExpr, Items, NoItem, AnItem, One, Splice, Run}
use Rattle.cd_program.specs.Expr.{Fields, NoField, AField, Tails, NoTail, ATail, Operand, Without, Select}
use Rattle.cd_program.specs.Expr.{Branches, NoBranch, ABranch, function}
use Rattle.cd_meaning.specs.Sets.{Set, ◌⊆◌}
use Rattle.cd_typing.specs.Typ.{Typ, In, BuiltIn, Types, type_at, with_type, AreNarrower}
use Rattle.cd_typing.specs.Interfaces.{Arrow}
use Rattle.cd_typing.specs.Branches.{Cover}
use Rattle.cd_typing.specs.Typing.{Has, KindHas, HaveAll, ItemsHave, FieldsHave}
use Rattle.cd_typing.specs.Typing.{ArgumentsHave, TailsHave, BodiesHave}
use Rattle.cd_typing.proofs.Subsets.{itself, through}

pub below_itself : (types : Types) → AreNarrower types types
below_itself types name t is = (t, is, itself (In t))

abbrev InFound : Typ → Option Typ → Type 0
InFound t None = ⊥
InFound t (Some s) = In t ⊆ In s

pub below_one : (types others : Types) → AreNarrower types others → (first : Name) (t s : Typ) → In t ⊆ In s
    → AreNarrower ((first, t) ∷ types) ((first, s) ∷ others)
below_one types others below first t s within name r is = by (bytes_eq first name) is
  where
    by : (same : Bool) → (if same then Some s else type_at others name) ≡ Some r
        → (q : Typ) × ((if same then Some t else type_at types name) ≡ Some q) × (In q ⊆ In r)
    by true is = (t, refl, subst (InFound t) is within)
    by false is = below name r is

pub below_with : (own types others : Types) → AreNarrower types others → AreNarrower (own ++ types) (own ++ others)
below_with [] types others below = below
below_with (first ∷ own) types others below =
    below_one (own ++ types) (own ++ others) (below_with own types others below) first.0 first.1 first.1 (itself (In first.1))

pub below_name : (name : Option Name) (t : Typ) (types others : Types) → AreNarrower types others
    → AreNarrower (with_type name t types) (with_type name t others)
below_name None t types others below = below
below_name (Some name) t types others below = below_one types others below name t t (itself (In t))

module _ (scope : Scope) where
  abbrev pub Narrows : Expr → Type 0
  Narrows e = (types others : Types) → AreNarrower types others → (t : Typ) → Has scope others e t → Has scope types e t

  -- the body of each branch
  abbrev pub AllNarrow : Branches → Type 0
  AllNarrow NoBranch = Unit {0}
  AllNarrow (ABranch pattern body rest) = Narrows body × AllNarrow rest

  pub narrow_bodies : (branches : Branches) → AllNarrow branches → (types others : Types) → AreNarrower types others
      → (before : List Tree) (matched wanted : Set) → BodiesHave scope others before matched branches wanted
      → BodiesHave scope types before matched branches wanted
  narrow_bodies NoBranch all types others below before matched wanted has = tt
  narrow_bodies (ABranch pattern body rest) all types others below before matched wanted has = (
    λ e captures first. let one = has.0 e captures first in (
      one.0,
      one.1,
      one.2,
      one.3,
      one.4,
      all.0 (one.0 ++ types) (one.0 ++ others) (below_with one.0 types others below) one.1 one.5,
      one.6,
    ),
    narrow_bodies rest all.1 types others below (pattern ∷ before) matched wanted has.1,
  )

  -- the arrows of a function, whose own name has the type `self`
  abbrev pub ArrowsHave : Types → Option Name → (self : Typ) → Branches → List Arrow → Type 0
  ArrowsHave types name self branches = AllOf (λ arrow. Cover scope branches (In arrow.argument)
      × BodiesHave scope (with_type name self types) [] (In arrow.argument) branches (In arrow.result))

  arrows_narrow : (name : Option Name) (self : Typ) (branches : Branches) → AllNarrow branches → (types others : Types)
      → AreNarrower types others → (arrows : List Arrow) → ArrowsHave others name self branches arrows
      → ArrowsHave types name self branches arrows
  arrows_narrow name self branches all types others below [] has = tt
  arrows_narrow name self branches all types others below (arrow ∷ arrows) has = (
    (
      has.0.0,
      narrow_bodies branches all (with_type name self types) (with_type name self others)
          (below_name name self types others below) [] (In arrow.argument) (In arrow.result) has.0.1,
    ),
    arrows_narrow name self branches all types others below arrows has.1,
  )

  mutual
    pub narrow : (e : Expr) → Narrows e
    narrow (expr span kind) types others below t has = narrow_kind kind types others below t has

    pub narrow_branches : (branches : Branches) → AllNarrow branches
    narrow_branches NoBranch = tt
    narrow_branches (ABranch pattern body rest) = (narrow body, narrow_branches rest)

    pub narrow_kind : (kind : Kind) (types others : Types) → AreNarrower types others → (t : Typ) → KindHas scope others kind t
        → KindHas scope types kind t
    narrow_kind (Constant is) types others below t has = has
    narrow_kind (Variable name) types others below t has = let own = below name has.0 has.1 in
        (own.0, own.1, through (In own.0) (In has.0) (In t) own.2 has.2)
    narrow_kind (Tuple exprs) types others below t has =
        (has.0, narrow_all exprs types others below has.0 has.1, has.2)
    narrow_kind (Sequence items) types others below t has =
        (has.0, narrow_items items types others below has.0 has.1, has.2)
    narrow_kind (Record fields) types others below t has =
        (has.0, narrow_fields fields types others below has.0 has.1, has.2)
    narrow_kind (Xml tag attributes content) types others below t has = (
      has.0,
      has.1,
      has.2,
      has.3,
      narrow tag types others below has.0 has.4,
      has.5,
      has.6,
      narrow attributes types others below has.1 has.7,
      has.8,
      has.9,
      narrow content types others below has.2 has.10,
      has.11,
    )
    narrow_kind (Function (function at name name_at interface branches)) types others below t has = (
      has.0,
      has.1,
      has.2,
      has.3,
      arrows_narrow name has.1 branches (narrow_branches branches) types others below has.0 has.4,
      has.5,
    )
    narrow_kind (Apply NoExpr) types others below t has = has
    narrow_kind (Apply (AnExpr e rest)) types others below t has = (
      has.0,
      has.1,
      narrow e types others below has.0 has.2,
      narrow_arguments rest types others below has.0 t has.3,
    )
    narrow_kind (Match value branches) types others below t has = (
      has.0,
      has.1,
      narrow value types others below has.0 has.2,
      has.3,
      narrow_bodies branches (narrow_branches branches) types others below [] (In has.0) (In t) has.4,
    )
    narrow_kind (Let pattern value rest) types others below t has = (
      has.0,
      has.1,
      narrow value types others below has.0 has.2,
      has.3,
      λ e captures first. let one = has.4 e captures first in
          (one.0, one.1, one.2, narrow rest (one.0 ++ types) (one.0 ++ others) (below_with one.0 types others below) t one.3),
    )
    narrow_kind (If condition then_one else_one) types others below t has = (
      has.0,
      has.1,
      narrow condition types others below has.0 has.2,
      has.3,
      λ yes. narrow then_one types others below t (has.4 yes),
      λ no. narrow else_one types others below t (has.5 no),
    )
    narrow_kind (Try body branches) types others below t has = (
      narrow body types others below t has.0,
      narrow_bodies branches (narrow_branches branches) types others below [] (BuiltIn DATA) (In t) has.1,
    )
    narrow_kind (Map value branches) types others below t has = (
      has.0,
      has.1,
      has.2,
      has.3,
      narrow value types others below has.0 has.4,
      has.5,
      has.6,
      has.7,
      has.8,
      narrow_bodies branches (narrow_branches branches) types others below [] (In has.1) (In has.2) has.9,
      has.10,
    )
    narrow_kind (Transform value branches) types others below t has = (
      has.0,
      has.1,
      has.2,
      has.3,
      narrow value types others below has.0 has.4,
      has.5,
      has.6,
      has.7,
      narrow_bodies branches (narrow_branches branches) types others below [] (In has.1) _ has.8,
      has.9,
    )
    narrow_kind (Chain first tails) types others below t has = (
      has.0,
      has.1,
      narrow first types others below has.0 has.2,
      narrow_tails tails types others below has.0 t has.3,
    )
    narrow_kind (Call word operand) types others below t has =
        (has.0, has.1, narrow operand types others below has.0 has.2, has.3)

    pub narrow_all : (exprs : Exprs) (types others : Types) → AreNarrower types others → (parts : List Typ)
        → HaveAll scope others exprs parts → HaveAll scope types exprs parts
    narrow_all NoExpr types others below [] has = has
    narrow_all NoExpr types others below (s ∷ parts) has = has
    narrow_all (AnExpr e rest) types others below [] has = has
    narrow_all (AnExpr e rest) types others below (s ∷ parts) has =
        (has.0, narrow e types others below s has.1, narrow_all rest types others below parts has.2)

    pub narrow_items : (items : Items) (types others : Types) → AreNarrower types others → (parts : List Typ)
        → ItemsHave scope others items parts → ItemsHave scope types items parts
    narrow_items NoItem types others below [] has = has
    narrow_items NoItem types others below (s ∷ parts) has = has
    narrow_items (AnItem (One e) rest) types others below [] has = has
    narrow_items (AnItem (One e) rest) types others below (s ∷ parts) has =
        (has.0, narrow e types others below s has.1, narrow_items rest types others below parts has.2)
    narrow_items (AnItem (Splice e) rest) types others below [] has = has
    narrow_items (AnItem (Splice e) rest) types others below (s ∷ parts) has =
        (has.0, narrow e types others below s has.1, has.2, narrow_items rest types others below parts has.3)
    narrow_items (AnItem (Run characters) rest) types others below parts has =
        narrow_items rest types others below parts has

    pub narrow_fields : (fields : Fields) (types others : Types) → AreNarrower types others → (parts : List Typ)
        → FieldsHave scope others fields parts → FieldsHave scope types fields parts
    narrow_fields NoField types others below [] has = has
    narrow_fields NoField types others below (s ∷ parts) has = has
    narrow_fields (AField label at e rest) types others below [] has = has
    narrow_fields (AField label at e rest) types others below (s ∷ parts) has =
        (has.0, narrow e types others below s has.1, narrow_fields rest types others below parts has.2)

    pub narrow_arguments : (exprs : Exprs) (types others : Types) → AreNarrower types others → (self t : Typ)
        → ArgumentsHave scope others self exprs t → ArgumentsHave scope types self exprs t
    narrow_arguments NoExpr types others below self t has = has
    narrow_arguments (AnExpr e rest) types others below self t has = (
      has.0,
      has.1,
      has.2,
      narrow e types others below has.0 has.3,
      has.4,
      has.5,
      narrow_arguments rest types others below has.1 t has.6,
    )

    pub narrow_tails : (tails : Tails) (types others : Types) → AreNarrower types others → (self t : Typ)
        → TailsHave scope others self tails t → TailsHave scope types self tails t
    narrow_tails NoTail types others below self t has = has
    narrow_tails (ATail (Operand op e) rest) types others below self t has = (
      has.0,
      has.1,
      (has.2.0, λ reached. let one = has.2.1 reached in (one.0, one.1, narrow e types others below one.0 one.2, one.3)),
      narrow_tails rest types others below has.0 t has.3,
    )
    narrow_tails (ATail (Without label) rest) types others below self t has =
        (has.0, has.1, has.2, narrow_tails rest types others below has.0 t has.3)
    narrow_tails (ATail (Select label) rest) types others below self t has =
        (has.0, has.1, has.2, narrow_tails rest types others below has.0 t has.3)
