-- What is known of the nodes that a check gives.
use Rattle.std.specs.Prelude.{Bool, List, [], map, Option, Some, None}
use Rattle.cd_sets.specs.declared.node_id.NodeId.{NodeId}
use Rattle.cd_model.specs.AllOf.{AllOf}
use Rattle.cd_model.specs.Formula.{Graph}
use Rattle.cd_program.specs.Expr.{Expr, Kind, Exprs, AnExpr, Items, AnItem, Item, Fields, Tail, Tails}
use Rattle.cd_program.specs.Expr.{Branches, FunctionTree}
use Rattle.cd_meaning.specs.Sets.{◌⊆◌, elements_of}
use Rattle.cd_typing.specs.Typ.{Typ, typ, In, IsType, Types}
use Rattle.cd_typing.specs.Branches.{Cover}
use Rattle.cd_typing.specs.Operators.{truth}
use Rattle.cd_typing.specs.Typing.{Has, KindHas, HaveAll, ItemsHave, FieldsHave}
use Rattle.cd_typing.specs.Typing.{ArgumentsHave, TailHas, TailsHave, BodiesHave}
use Rattle.cd_resolved.specs.declared.function_nodes.FunctionNodes.{FunctionNodes}
use Rattle.cd_check.specs.declared.base.Base.{Base}
use Rattle.cd_check.specs.Inner.Environment.{Nodes, AreOfTypes, AreNodes, Gives}
use Rattle.cd_check.specs.Inner.Following.{Follows}
use Rattle.cd_check.specs.Inner.GoingOn.{Steps, listed}
use Rattle.cd_check.specs.Inner.Promises.{Keep, KeepsPromise}
use Rattle.cd_check.specs.Inner.Ready.{scope_of, seen_by}

module _ (base : Base) (old : Graph) (locals : Nodes) (new : Graph) where
  abbrev pub ExprGives : Expr → NodeId → Type 0
  ExprGives e = Gives old (seen_by base locals) new (λ types t. Has (scope_of base) types e t)

  abbrev pub KindGives : Kind → NodeId → Type 0
  KindGives kind = Gives old (seen_by base locals) new
      (λ types t. KindHas (scope_of base) types kind t)

  -- operands one by one
  pub record AllGive {A : Type 0} (have : Types → A → List Typ → Type 0) (all : A)
      (ids : List NodeId) : Type 0 where
    pub are_nodes : AreNodes new ids
    pub have_types : (types : Types) → AreOfTypes old (seen_by base locals) types
        → have types all (map (typ new) ids)

  abbrev pub OperandsGive : Exprs → List NodeId → Type 0
  OperandsGive exprs = AllGive (HaveAll (scope_of base)) exprs

  abbrev pub ItemsGive : Items → List NodeId → Type 0
  ItemsGive items = AllGive (ItemsHave (scope_of base)) items

  abbrev pub FieldsGive : Fields → List NodeId → Type 0
  FieldsGive fields = AllGive (FieldsHave (scope_of base)) fields

  -- one item more, or none
  abbrev pub ItemGives : Item → Option NodeId → Type 0
  ItemGives item found = (rest : Items) → Steps (ItemsHave (scope_of base)) old
      (seen_by base locals) new (AnItem item rest) rest (listed found)

  -- what comes of functions of a type for an argument, and of an operand for an operator
  abbrev pub ArgumentGives : (function : NodeId) → Expr → NodeId → Type 0
  ArgumentGives function e id = (rest : Exprs) → Follows (ArgumentsHave (scope_of base)) old
      (seen_by base locals) new function (AnExpr e rest) rest id

  -- what comes of all arguments, and of all operators
  abbrev pub ArgumentsGive : (function : NodeId) → Exprs → NodeId → Type 0
  ArgumentsGive function exprs = Gives old (seen_by base locals) new
      (λ types t. ArgumentsHave (scope_of base) types (typ old function) exprs t)

  abbrev pub TailsGive : (self : NodeId) → Tails → NodeId → Type 0
  TailsGive self tails = Gives old (seen_by base locals) new
      (λ types t. TailsHave (scope_of base) types (typ old self) tails t)

  abbrev pub TailGives : (self : NodeId) → Tail → NodeId → Type 0
  TailGives self tail id = Gives old (seen_by base locals) new
      (λ types t. TailHas (scope_of base) types (typ old self) tail t) id

  -- the expression, where the truth value may be of the type of what is tested
  abbrev pub SideGives : (tested : NodeId) → Bool → Expr → Option NodeId → Type 0
  SideGives tested value e None = elements_of old tested (truth value) → ⊥
  SideGives tested value e (Some id) = ExprGives e id

  -- bodies, for what is left for each branch
  pub record BodiesGive (branches : Branches) (matched : NodeId) (results : List NodeId) : Type 0
    where
      pub are_nodes : AreNodes new results
      pub have_types : (types : Types) → AreOfTypes old (seen_by base locals) types → (t : Typ)
          → AllOf (λ id. elements_of new id ⊆ In t) results
          → BodiesHave (scope_of base) types [] (elements_of old matched) branches (In t)

  -- branches that cover, whose bodies are all of the type of a node
  pub record BranchesGive (matched : NodeId) (branches : Branches) (id : NodeId) : Type 0 where
    pub is_type : IsType (typ new id)
    pub cover : Cover (scope_of base) branches (elements_of old matched)
    pub have_types : (types : Types) → AreOfTypes old (seen_by base locals) types
        → BodiesHave (scope_of base) types [] (elements_of old matched) branches
        (elements_of new id)

module _ (base : Base) (old : Graph) (locals : Nodes) where
  -- branches for one arrow
  abbrev pub ArrowKept : Branches → NodeId × NodeId → Type 0
  ArrowKept branches arrow = (types : Types) → AreOfTypes old (seen_by base locals) types
      → Keep (scope_of base) types branches (elements_of old arrow.0) (elements_of old arrow.1)

  abbrev pub PromiseKept : FunctionTree → FunctionNodes → Type 0
  PromiseKept f nodes =
      KeepsPromise (scope_of base) old (seen_by base locals) f nodes.arrows.items nodes.whole
