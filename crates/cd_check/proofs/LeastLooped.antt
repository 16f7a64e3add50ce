-- One step of a loop over operands whose nodes are within all types that they have.
use Rattle.std.proofs.Common.{◌≡◌, ◌<◌, ◌+◌, ℕ, List, [], ◌∷◌, ◌++◌, map, drop, length, get_or}
use Rattle.cd_sets.specs.declared.node_id.NodeId.{NodeId}
use Rattle.cd_model.specs.Formula.{Graph, IsGraph}
use Rattle.cd_model.specs.Scope.{Scope}
use Rattle.cd_program.specs.Expr.{Exprs, Items, AnItem, Fields, exprs_of, items_of, fields_of}
use Rattle.cd_program.specs.PlainExpr.{plain, plain_item, plain_field}
use Rattle.cd_program.specs.declared.expr.Expr.{Expr as CodeExpr}
use Rattle.cd_program.specs.declared.expr.Item.{Item as CodeItem}
use Rattle.cd_program.specs.declared.expr.FieldExpr.{FieldExpr as CodeField}
use Rattle.cd_typing.specs.Later.{IsLater}
use Rattle.cd_typing.specs.Typing.{Has}
use Rattle.cd_check.specs.Inner.Environment.{Nodes, AreNodesOf}
use Rattle.cd_check.specs.Inner.GoingOn.{Steps, GoesOn}
use Rattle.cd_check.specs.Inner.Known.{IsBelow}
use Rattle.cd_check.proofs.OperandsLeast.{ExprsLeast, ItemsLeast, FieldsLeast, expr_least_steps, field_least_steps}
use Rattle.cd_check.proofs.Walks.{one_further}

module _ (old : Graph) (sound : IsGraph old) (nodes : Nodes) (old_nodes : AreNodesOf old nodes) (graph new : Graph)
    (first : IsLater old graph) (is : IsLater graph new) where
  module _ (scope : Scope) where
    pub least_expr : (all : Exprs) (items : List CodeExpr) (index : ℕ) (item : CodeExpr) → item ≡ get_or items index item
        → index < length items → (done : List NodeId) (id : NodeId)
        → GoesOn (ExprsLeast scope) old nodes graph all (exprs_of (map plain (drop index items))) done → id.0 < length new
        → IsBelow graph nodes new (λ types t. Has scope types (plain item) t) id
        → GoesOn (ExprsLeast scope) old nodes new all (exprs_of (map plain (drop (index + 1) items))) (done ++ id ∷ [])
    least_expr all items index item at within done id before below least =
        one_further old sound nodes old_nodes graph new first is (ExprsLeast scope) (λ items. exprs_of (map plain items)) all items index item at within done (id ∷ []) before
        (expr_least_steps scope graph nodes new is.sound (plain item) id below least (exprs_of (map plain (drop (index + 1) items))))

    pub least_item : (all : Items) (items : List CodeItem) (index : ℕ) (item : CodeItem) → item ≡ get_or items index item
        → index < length items → (done ids : List NodeId)
        → GoesOn (ItemsLeast scope) old nodes graph all (items_of (map plain_item (drop index items))) done
        → ((rest : Items) → Steps (ItemsLeast scope) graph nodes new (AnItem (plain_item item) rest) rest ids)
        → GoesOn (ItemsLeast scope) old nodes new all (items_of (map plain_item (drop (index + 1) items))) (done ++ ids)
    least_item all items index item at within done ids before steps =
        one_further old sound nodes old_nodes graph new first is (ItemsLeast scope) (λ items. items_of (map plain_item items)) all items index item at within done ids before
        (steps (items_of (map plain_item (drop (index + 1) items))))

    pub least_field : (all : Fields) (items : List CodeField) (index : ℕ) (item : CodeField) → item ≡ get_or items index item
        → index < length items → (done : List NodeId) (id : NodeId)
        → GoesOn (FieldsLeast scope) old nodes graph all (fields_of (map plain_field (drop index items))) done → id.0 < length new
        → IsBelow graph nodes new (λ types t. Has scope types (plain_field item).expr t) id
        → GoesOn (FieldsLeast scope) old nodes new all (fields_of (map plain_field (drop (index + 1) items))) (done ++ id ∷ [])
    least_field all items index item at within done id before below least =
        one_further old sound nodes old_nodes graph new first is (FieldsLeast scope) (λ items. fields_of (map plain_field items)) all items index item at within done (id ∷ []) before
        (field_least_steps scope graph nodes new is.sound (plain_field item).expr id below least (plain_field item).label (plain_field item).at
        (fields_of (map plain_field (drop (index + 1) items))))
