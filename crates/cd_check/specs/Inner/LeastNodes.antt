-- What is known of the nodes that a check gives: each is the least type of its kind.
use Rattle.std.specs.Prelude.{Bool, List, map, Option, Some, None}
use Rattle.cd_sets.specs.declared.node_id.NodeId.{NodeId}
use Rattle.cd_model.specs.Formula.{Graph}
use Rattle.cd_program.specs.Expr.{Expr, Kind, Exprs, Items, AnItem, Item, Fields, Tail, Tails}
use Rattle.cd_meaning.specs.Sets.{◌⊆◌, elements_of}
use Rattle.cd_typing.specs.Operators.{truth}
use Rattle.cd_typing.specs.Typ.{Typ, typ, In, IsType, Types}
use Rattle.cd_typing.specs.Typing.{Has, KindHas, HaveAll, ItemsHave, FieldsHave}
use Rattle.cd_typing.specs.Typing.{ArgumentsHave, TailsHave}
use Rattle.cd_least.specs.Least.{AreLeast, IsArgumentLeast, IsTailLeast}
use Rattle.cd_check.specs.declared.base.Base.{Base}
use Rattle.cd_check.specs.Inner.Environment.{Nodes, AreOfTypes}
use Rattle.cd_check.specs.Inner.GoingOn.{Steps, listed}
use Rattle.cd_check.specs.Inner.Known.{IsBelow}
use Rattle.cd_check.specs.Inner.Ready.{scope_of, seen_by}

module _ (base : Base) (old : Graph) (locals : Nodes) (new : Graph) where
  abbrev pub ExprLeast : Expr → NodeId → Type 0
  ExprLeast e = IsBelow old (seen_by base locals) new (λ types t. Has (scope_of base) types e t)

  abbrev pub KindLeast : Kind → NodeId → Type 0
  KindLeast kind =
      IsBelow old (seen_by base locals) new (λ types t. KindHas (scope_of base) types kind t)

  -- operands one by one
  abbrev pub AllLeast : {A : Type 0} (have : Types → A → List Typ → Type 0) → A → List NodeId
      → Type 0
  AllLeast have all ids = (types : Types) → AreOfTypes old (seen_by base locals) types
      → AreLeast (scope_of base) types have all (map (typ new) ids)

  abbrev pub OperandsLeast : Exprs → List NodeId → Type 0
  OperandsLeast exprs = AllLeast (HaveAll (scope_of base)) exprs

  abbrev pub ItemsLeast : Items → List NodeId → Type 0
  ItemsLeast items = AllLeast (ItemsHave (scope_of base)) items

  abbrev pub FieldsLeast : Fields → List NodeId → Type 0
  FieldsLeast fields = AllLeast (FieldsHave (scope_of base)) fields

  -- one item more, or none
  abbrev pub ItemLeast : Item → Option NodeId → Type 0
  ItemLeast item found = (rest : Items)
      → Steps (λ types all parts. AreLeast (scope_of base) types
      (ItemsHave (scope_of base)) all parts)
      old (seen_by base locals) new (AnItem item rest) rest (listed found)

  -- what comes of functions of a type for an argument, and of an operand for an operator
  abbrev pub ArgumentLeast : (function : NodeId) → Expr → NodeId → Type 0
  ArgumentLeast function e id = (types : Types) → AreOfTypes old (seen_by base locals) types
      → IsArgumentLeast (scope_of base) types (typ old function) e (typ new id)

  abbrev pub TailLeast : (self : NodeId) → Tail → NodeId → Type 0
  TailLeast self tail id = (types : Types) → AreOfTypes old (seen_by base locals) types
      → IsTailLeast (scope_of base) types (typ old self) tail (typ new id)

  -- what comes of all arguments, and of all operators, where what they start with has a wider type
  abbrev pub AllNarrow : {A : Type 0} (have : Types → (self : Typ) → A → Typ → Type 0)
      → (self : NodeId) → A → NodeId → Type 0
  AllNarrow have self all id = (types : Types) → AreOfTypes old (seen_by base locals) types
      → (wider : Typ) → IsType wider → elements_of old self ⊆ In wider → (t : Typ)
      → have types wider all t → elements_of new id ⊆ In t

  abbrev pub ArgumentsLeast : (function : NodeId) → Exprs → NodeId → Type 0
  ArgumentsLeast function exprs = AllNarrow (ArgumentsHave (scope_of base)) function exprs

  abbrev pub TailsLeast : (self : NodeId) → Tails → NodeId → Type 0
  TailsLeast self tails = AllNarrow (TailsHave (scope_of base)) self tails

  -- the expression is met where what is tested may have the truth value
  abbrev pub SideLeast : (tested : NodeId) → Bool → Expr → Option NodeId → Type 0
  SideLeast tested value e None = Unit {0}
  SideLeast tested value e (Some id) = elements_of old tested (truth value) × ExprLeast e id
