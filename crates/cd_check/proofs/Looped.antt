-- One step of a loop over operands.
use Rattle.std.proofs.Common.{◌≡◌, ◌<◌, ◌+◌, ℕ, List, [], ◌∷◌, ◌++◌, map, drop, length, get_or, sym, subst}
use Rattle.cd_sets.specs.declared.node_id.NodeId.{NodeId}
use Rattle.cd_model.specs.Formula.{Graph, IsGraph}
use Rattle.cd_model.specs.Scope.{Scope}
use Rattle.cd_program.specs.Expr.{Exprs, AnExpr, Items, AnItem, Fields, Tails, ATail}
use Rattle.cd_program.specs.Expr.{exprs_of, items_of, fields_of, tails_of}
use Rattle.cd_program.specs.PlainExpr.{plain, plain_item, plain_field, plain_tail}
use Rattle.cd_program.specs.declared.expr.Expr.{Expr as CodeExpr}
use Rattle.cd_program.specs.declared.expr.Item.{Item as CodeItem}
use Rattle.cd_program.specs.declared.expr.FieldExpr.{FieldExpr as CodeField}
use Rattle.cd_program.specs.declared.expr.Tail.{Tail as CodeTail}
use Rattle.cd_typing.specs.Later.{IsLater}
use Rattle.cd_typing.specs.Typ.{Typ, typ}
use Rattle.cd_typing.specs.Typing.{Has, HaveAll, ItemsHave, FieldsHave, ArgumentsHave, TailsHave}
use Rattle.cd_check.specs.Inner.Environment.{Nodes, AreNodesOf, Gives}
use Rattle.cd_check.specs.Inner.Following.{Follows}
use Rattle.cd_check.specs.Inner.GoingOn.{Steps, GoesOn, LeadsOn}
use Rattle.cd_check.proofs.Loops.{left_is}
use Rattle.cd_check.proofs.OperandsTyped.{expr_steps, field_steps}
use Rattle.cd_check.proofs.TypesLater.{types_later}
use Rattle.cd_check.proofs.Walks.{leads_further, one_further}

module _ (scope : Scope) (old : Graph) (sound : IsGraph old) (nodes : Nodes) (old_nodes : AreNodesOf old nodes) (graph new : Graph)
    (first : IsLater old graph) (is : IsLater graph new) where
  pub one_expr : (all : Exprs) (items : List CodeExpr) (index : ℕ) (item : CodeExpr) → item ≡ get_or items index item → index < length items
      → (done : List NodeId) (id : NodeId) → GoesOn (HaveAll scope) old nodes graph all (exprs_of (map plain (drop index items))) done
      → Gives graph nodes new (λ types t. Has scope types (plain item) t) id
      → GoesOn (HaveAll scope) old nodes new all (exprs_of (map plain (drop (index + 1) items))) (done ++ id ∷ [])
  one_expr all items index item at within done id before gives =
      one_further old sound nodes old_nodes graph new first is (HaveAll scope) (λ items. exprs_of (map plain items)) all items index item at within done
      (id ∷ []) before
      (expr_steps scope graph nodes new is.sound (plain item) id gives (exprs_of (map plain (drop (index + 1) items))))

  pub one_item : (all : Items) (items : List CodeItem) (index : ℕ) (item : CodeItem) → item ≡ get_or items index item → index < length items
      → (done ids : List NodeId) → GoesOn (ItemsHave scope) old nodes graph all (items_of (map plain_item (drop index items))) done
      → ((rest : Items) → Steps (ItemsHave scope) graph nodes new (AnItem (plain_item item) rest) rest ids)
      → GoesOn (ItemsHave scope) old nodes new all (items_of (map plain_item (drop (index + 1) items))) (done ++ ids)
  one_item all items index item at within done ids before steps =
      one_further old sound nodes old_nodes graph new first is (ItemsHave scope) (λ items. items_of (map plain_item items)) all items index item at within done
      ids before
      (steps (items_of (map plain_item (drop (index + 1) items))))

  pub one_field : (all : Fields) (items : List CodeField) (index : ℕ) (item : CodeField) → item ≡ get_or items index item → index < length items
      → (done : List NodeId) (id : NodeId) → GoesOn (FieldsHave scope) old nodes graph all (fields_of (map plain_field (drop index items))) done
      → Gives graph nodes new (λ types t. Has scope types (plain_field item).expr t) id
      → GoesOn (FieldsHave scope) old nodes new all (fields_of (map plain_field (drop (index + 1) items))) (done ++ id ∷ [])
  one_field all items index item at within done id before gives =
      one_further old sound nodes old_nodes graph new first is (FieldsHave scope) (λ items. fields_of (map plain_field items)) all items index item at within done
      (id ∷ []) before
      (field_steps scope graph nodes new is.sound (plain_field item).expr id gives (plain_field item).label (plain_field item).at
      (fields_of (map plain_field (drop (index + 1) items))))

  module _ (start : Typ) (id result : NodeId) where
    pub one_argument : (all : Exprs) (items : List CodeExpr) (index : ℕ) (item : CodeExpr) → item ≡ get_or items index item
        → index < length items → LeadsOn (ArgumentsHave scope) old nodes start graph all (exprs_of (map plain (drop index items))) id
        → ((rest : Exprs) → Follows (ArgumentsHave scope) graph nodes new id (AnExpr (plain item) rest) rest result)
        → LeadsOn (ArgumentsHave scope) old nodes start new all (exprs_of (map plain (drop (index + 1) items))) result
    one_argument all items index item at within before follows = let rest = exprs_of (map plain (drop (index + 1) items)) in
        leads_further (ArgumentsHave scope) old nodes start graph new all (exprs_of (map plain (drop index items))) rest id result before
        (follows rest).is_type
        (λ types of t has. subst (λ left. ArgumentsHave scope types (typ graph id) (exprs_of (map plain left)) t)
        (sym (left_is items index item at within))
        ((follows rest).follows types (types_later old graph first sound nodes old_nodes types of) t has))

    pub one_tail : (all : Tails) (items : List CodeTail) (index : ℕ) (item : CodeTail) → item ≡ get_or items index item
        → index < length items → LeadsOn (TailsHave scope) old nodes start graph all (tails_of (map plain_tail (drop index items))) id
        → ((rest : Tails) → Follows (TailsHave scope) graph nodes new id (ATail (plain_tail item) rest) rest result)
        → LeadsOn (TailsHave scope) old nodes start new all (tails_of (map plain_tail (drop (index + 1) items))) result
    one_tail all items index item at within before follows = let rest = tails_of (map plain_tail (drop (index + 1) items)) in
        leads_further (TailsHave scope) old nodes start graph new all (tails_of (map plain_tail (drop index items))) rest id result before
        (follows rest).is_type
        (λ types of t has. subst (λ left. TailsHave scope types (typ graph id) (tails_of (map plain_tail left)) t)
        (sym (left_is items index item at within))
        ((follows rest).follows types (types_later old graph first sound nodes old_nodes types of) t has))
