-- Operands in turn.
use Rattle.std.proofs.Common.{ℕ, List, [], ◌∷◌}
use Rattle.cd_sets.specs.declared.node_id.NodeId.{NodeId}
use Rattle.cd_syntax.specs.Name.{Name}
use Rattle.cd_model.specs.Formula.{Graph, IsGraph}
use Rattle.cd_model.specs.Scope.{Scope}
use Rattle.cd_program.specs.Expr.{Expr, Exprs, AnExpr, Items, AnItem, One, Splice, Run, Fields, AField}
use Rattle.cd_meaning.specs.Sets.{◌⊆◌, elements_of}
use Rattle.cd_meaning.specs.Sequences.{IsSequence}
use Rattle.cd_typing.specs.Typ.{typ, Types}
use Rattle.cd_typing.specs.Typing.{Has, HaveAll, ItemsHave, FieldsHave}
use Rattle.cd_typing.proofs.Subsets.{through}
use Rattle.cd_check.specs.Inner.Environment.{Nodes, AreOfTypes, Gives}
use Rattle.cd_typing.specs.Later.{IsLater}
use Rattle.cd_check.specs.Inner.GoingOn.{Steps}
use Rattle.cd_typing.proofs.Later.{type_later, has_later, earlier_in}

module _ (scope : Scope) (old : Graph) (nodes : Nodes) (new : Graph) (sound : IsGraph new) (e : Expr) (id : NodeId)
    (gives : Gives old nodes new (λ types t. Has scope types e t) id) where
  still_has : (later : Graph) → IsLater new later → (types : Types) → AreOfTypes old nodes types → Has scope types e (typ later id)
  still_has later further types of =
      has_later scope new later further sound e types id gives.is_type.is_node (gives.has types of)

  pub expr_steps : (rest : Exprs) → Steps (HaveAll scope) old nodes new (AnExpr e rest) rest (id ∷ [])
  expr_steps rest = record {
    are_nodes = (gives.is_type.is_node, tt);
    steps = λ later further types of more has.
        (type_later new later further id gives.is_type, still_has later further types of, has);
  }

  pub item_steps : (rest : Items) → Steps (ItemsHave scope) old nodes new (AnItem (One e) rest) rest (id ∷ [])
  item_steps rest = record {
    are_nodes = (gives.is_type.is_node, tt);
    steps = λ later further types of more has.
        (type_later new later further id gives.is_type, still_has later further types of, has);
  }

  pub splice_steps : elements_of new id ⊆ IsSequence → (rest : Items)
      → Steps (ItemsHave scope) old nodes new (AnItem (Splice e) rest) rest (id ∷ [])
  splice_steps within rest = record {
    are_nodes = (gives.is_type.is_node, tt);
    steps = λ later further types of more has. (
      type_later new later further id gives.is_type,
      still_has later further types of,
      through (elements_of later id) (elements_of new id) IsSequence
          (earlier_in new later further sound id gives.is_type.is_node) within,
      has,
    );
  }

  pub field_steps : (label : Name) (at : ℕ) (rest : Fields)
      → Steps (FieldsHave scope) old nodes new (AField label at e rest) rest (id ∷ [])
  field_steps label at rest = record {
    are_nodes = (gives.is_type.is_node, tt);
    steps = λ later further types of more has.
        (type_later new later further id gives.is_type, still_has later further types of, has);
  }

pub run_steps : (scope : Scope) (old : Graph) (nodes : Nodes) (characters : List ℕ) (rest : Items)
    → Steps (ItemsHave scope) old nodes old (AnItem (Run characters) rest) rest []
run_steps scope old nodes characters rest = record { are_nodes = tt; steps = λ later further types of more has. has }
