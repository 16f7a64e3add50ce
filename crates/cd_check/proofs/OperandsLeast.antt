-- Operands in turn, whose nodes are within all types that they have.
use Rattle.std.proofs.Common.{◌<◌, ℕ, List, [], ◌∷◌, length}
use Rattle.cd_sets.specs.declared.node_id.NodeId.{NodeId}
use Rattle.cd_syntax.specs.Name.{Name}
use Rattle.cd_model.specs.Formula.{Graph, IsGraph}
use Rattle.cd_model.specs.Scope.{Scope}
use Rattle.cd_program.specs.Expr.{Expr, Exprs, NoExpr, AnExpr, Items, NoItem, AnItem, One, Splice, Run, Fields, NoField, AField}
use Rattle.cd_meaning.specs.Sets.{◌⊆◌, elements_of}
use Rattle.cd_typing.proofs.Later.{earlier_in}
use Rattle.cd_typing.proofs.Subsets.{through}
use Rattle.cd_typing.specs.Later.{IsLater}
use Rattle.cd_typing.specs.Typ.{Typ, typ, In, IsType, Types}
use Rattle.cd_typing.specs.Typing.{Has, HaveAll, ItemsHave, FieldsHave}
use Rattle.cd_least.specs.Least.{AreLeast}
use Rattle.cd_check.specs.Inner.Environment.{Nodes, AreOfTypes}
use Rattle.cd_check.specs.Inner.GoingOn.{Steps}
use Rattle.cd_check.specs.Inner.Known.{IsBelow}

-- the types of operands one by one are within any others that these have
abbrev pub ExprsLeast : Scope → Types → Exprs → List Typ → Type 0
ExprsLeast scope types all parts = AreLeast scope types (HaveAll scope) all parts

abbrev pub ItemsLeast : Scope → Types → Items → List Typ → Type 0
ItemsLeast scope types all parts = AreLeast scope types (ItemsHave scope) all parts

abbrev pub FieldsLeast : Scope → Types → Fields → List Typ → Type 0
FieldsLeast scope types all parts = AreLeast scope types (FieldsHave scope) all parts

module _ (scope : Scope) (types : Types) where
  -- no operand has no type but none
  pub none_least : ExprsLeast scope types NoExpr []
  none_least [] have = tt
  none_least (s ∷ others) have = absurd have

  pub no_item_least : ItemsLeast scope types NoItem []
  no_item_least [] have = tt
  no_item_least (s ∷ others) have = absurd have

  pub no_field_least : FieldsLeast scope types NoField []
  no_field_least [] have = tt
  no_field_least (s ∷ others) have = absurd have

  module _ (e : Expr) (t : Typ) (least : (s : Typ) → IsType s → Has scope types e s → In t ⊆ In s) (more : List Typ) where
    one_expr : (rest : Exprs) → ExprsLeast scope types rest more → ExprsLeast scope types (AnExpr e rest) (t ∷ more)
    one_expr rest others_least [] have = absurd have
    one_expr rest others_least (s ∷ others) have = (least s have.0 have.1, others_least others have.2)

    one_item : (rest : Items) → ItemsLeast scope types rest more → ItemsLeast scope types (AnItem (One e) rest) (t ∷ more)
    one_item rest others_least [] have = absurd have
    one_item rest others_least (s ∷ others) have = (least s have.0 have.1, others_least others have.2)

    one_splice : (rest : Items) → ItemsLeast scope types rest more → ItemsLeast scope types (AnItem (Splice e) rest) (t ∷ more)
    one_splice rest others_least [] have = absurd have
    one_splice rest others_least (s ∷ others) have = (least s have.0 have.1, others_least others have.3)

    one_field : (label : Name) (at : ℕ) (rest : Fields) → FieldsLeast scope types rest more
        → FieldsLeast scope types (AField label at e rest) (t ∷ more)
    one_field label at rest others_least [] have = absurd have
    one_field label at rest others_least (s ∷ others) have = (least s have.0 have.1, others_least others have.2)

module _ (scope : Scope) (old : Graph) (nodes : Nodes) (new : Graph) (sound : IsGraph new) (e : Expr) (id : NodeId)
    (below : id.0 < length new) (least : IsBelow old nodes new (λ types t. Has scope types e t) id) where
  still_least : (later : Graph) → IsLater new later → (types : Types) → AreOfTypes old nodes types → (s : Typ) → IsType s
      → Has scope types e s → elements_of later id ⊆ In s
  still_least later is types of s is_type has = through (elements_of later id) (elements_of new id) (In s)
      (earlier_in new later is sound id below) (least types of s is_type has)

  pub expr_least_steps : (rest : Exprs) → Steps (ExprsLeast scope) old nodes new (AnExpr e rest) rest (id ∷ [])
  expr_least_steps rest = record {
    are_nodes = (below, tt);
    steps = λ later further types of more others_least.
        one_expr scope types e (typ later id) (still_least later further types of) more rest others_least;
  }

  pub item_least_steps : (rest : Items) → Steps (ItemsLeast scope) old nodes new (AnItem (One e) rest) rest (id ∷ [])
  item_least_steps rest = record {
    are_nodes = (below, tt);
    steps = λ later further types of more others_least.
        one_item scope types e (typ later id) (still_least later further types of) more rest others_least;
  }

  pub splice_least_steps : (rest : Items) → Steps (ItemsLeast scope) old nodes new (AnItem (Splice e) rest) rest (id ∷ [])
  splice_least_steps rest = record {
    are_nodes = (below, tt);
    steps = λ later further types of more others_least.
        one_splice scope types e (typ later id) (still_least later further types of) more rest others_least;
  }

  pub field_least_steps : (label : Name) (at : ℕ) (rest : Fields)
      → Steps (FieldsLeast scope) old nodes new (AField label at e rest) rest (id ∷ [])
  field_least_steps label at rest = record {
    are_nodes = (below, tt);
    steps = λ later further types of more others_least.
        one_field scope types e (typ later id) (still_least later further types of) more label at rest others_least;
  }

pub run_least_steps : (scope : Scope) (old : Graph) (nodes : Nodes) (characters : List ℕ) (rest : Items)
    → Steps (ItemsLeast scope) old nodes old (AnItem (Run characters) rest) rest []
run_least_steps scope old nodes characters rest = record { are_nodes = tt; steps = λ later further types of more least. least }
