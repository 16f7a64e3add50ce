-- Faults of operands in turn, within a loop over them.
use Rattle.std.proofs.Common.{◌≡◌, ◌<◌, ◌+◌, ℕ, inl, inr, List, ◌∷◌, map, drop, length, get_or, sym, subst}
use Rattle.cd_model.specs.Formula.{Graph, IsGraph}
use Rattle.cd_model.specs.Scope.{Scope}
use Rattle.cd_model.specs.Thing.{Thing}
use Rattle.cd_program.specs.Expr.{Expr, Exprs, Items, AnItem, Item, One, Splice, Run, Fields, exprs_of, items_of, fields_of}
use Rattle.cd_program.specs.PlainExpr.{plain, plain_item, plain_field}
use Rattle.cd_program.specs.declared.expr.Expr.{Expr as CodeExpr}
use Rattle.cd_program.specs.declared.expr.Item.{Item as CodeItem}
use Rattle.cd_program.specs.declared.expr.FieldExpr.{FieldExpr as CodeField}
use Rattle.cd_typing.specs.Later.{IsLater}
use Rattle.cd_typing.specs.Typ.{Types}
use Rattle.cd_typing.specs.declared.rule.Rule.{Rule}
use Rattle.cd_typing.specs.declared.rule.Rule.TheVariants as rule
use Rattle.cd_least.specs.Faults.{Fault, Breaks, ExprsFault, ItemsFault, FieldsFault}
use Rattle.cd_meaning.specs.Sequences.{IsSequence}
use Rattle.cd_check.proofs.KnownTypes.{fails_more, fails_earlier}
use Rattle.cd_check.proofs.Loops.{left_is}
use Rattle.cd_check.specs.Inner.Environment.{Nodes, AreNodesOf}
use Rattle.cd_check.specs.Inner.Known.{Fails}
use Rattle.cd_check.specs.declared.fault.CheckError.{CheckError}

-- a fault of what is left is one of all
abbrev pub FaultsOf : {A : Type 0} → (fault : Types → A → ℕ → Rule → Thing → Type 0) → (all left : A) → Type 0
FaultsOf fault all left = (types : Types) (at : ℕ) (reported : Rule) (d : Thing) → fault types left at reported d → fault types all at reported d

pub of_itself : {A : Type 0} (fault : Types → A → ℕ → Rule → Thing → Type 0) (all : A) → FaultsOf fault all all
of_itself fault all types at reported d is = is

-- of the items after one
abbrev item_past : (scope : Scope) (item : Item) (rest : Items) → FaultsOf (ItemsFault scope) (AnItem item rest) rest
item_past scope (One e) rest types at reported d is = inr is
item_past scope (Splice e) rest types at reported d is = inr (inr is)
item_past scope (Run characters) rest types at reported d is = is

-- where the one that is next has a fact, of what is left and so of all
module _ {A X : Type 0} (fault : Types → A → ℕ → Rule → Thing → Type 0) (of_items : List X → A) (all : A) (items : List X) (index : ℕ) (item : X)
    (at : item ≡ get_or items index item) (within : index < length items) (before : FaultsOf fault all (of_items (drop index items))) where
  next_of_all : FaultsOf fault all (of_items (item ∷ drop (index + 1) items))
  next_of_all types place reported d is = before types place reported d
      (subst (λ left. fault types (of_items left) place reported d) (sym (left_is items index item at within)) is)

module _ (scope : Scope) (all : Exprs) (items : List CodeExpr) (index : ℕ) (item : CodeExpr) (at : item ≡ get_or items index item)
    (within : index < length items) (before : FaultsOf (ExprsFault scope) all (exprs_of (map plain (drop index items)))) where
  next_expr : FaultsOf (ExprsFault scope) all (exprs_of (map plain (item ∷ drop (index + 1) items)))
  next_expr = next_of_all (ExprsFault scope) (λ items. exprs_of (map plain items)) all items index item at within before

  pub past_expr : FaultsOf (ExprsFault scope) all (exprs_of (map plain (drop (index + 1) items)))
  past_expr types place reported d is = next_expr types place reported d (inr is)

  -- an error at the one that is next
  pub expr_fails : (old middle : Graph) → IsLater old middle → IsGraph old → (nodes : Nodes) → AreNodesOf old nodes → (table : List Thing)
      (error : CheckError) → Fails middle nodes table (λ types. Fault scope types (plain item)) error
      → Fails old nodes table (λ types. ExprsFault scope types all) error
  expr_fails old middle is sound nodes are table = fails_earlier old middle is sound nodes are table (λ types. Fault scope types (plain item))
      (λ types. ExprsFault scope types all) (λ types of place reported d fault. next_expr types place reported d (inl fault))

module _ (scope : Scope) (all : Items) (items : List CodeItem) (index : ℕ) (item : CodeItem) (at : item ≡ get_or items index item)
    (within : index < length items) (before : FaultsOf (ItemsFault scope) all (items_of (map plain_item (drop index items)))) where
  next_item : FaultsOf (ItemsFault scope) all (items_of (map plain_item (item ∷ drop (index + 1) items)))
  next_item = next_of_all (ItemsFault scope) (λ items. items_of (map plain_item items)) all items index item at within before

  pub past_item : FaultsOf (ItemsFault scope) all (items_of (map plain_item (drop (index + 1) items)))
  past_item types place reported d is = next_item types place reported d
      (item_past scope (plain_item item) (items_of (map plain_item (drop (index + 1) items))) types place reported d is)

  pub item_fails : (old middle : Graph) → IsLater old middle → IsGraph old → (nodes : Nodes) → AreNodesOf old nodes → (table : List Thing)
      (error : CheckError)
      → ((rest : Items) → Fails middle nodes table (λ types. ItemsFault scope types (AnItem (plain_item item) rest)) error)
      → Fails old nodes table (λ types. ItemsFault scope types all) error
  item_fails old middle is sound nodes are table error fails = let rest = items_of (map plain_item (drop (index + 1) items)) in
      fails_earlier old middle is sound nodes are table (λ types. ItemsFault scope types (AnItem (plain_item item) rest))
      (λ types. ItemsFault scope types all) (λ types of place reported d fault. next_item types place reported d fault) error (fails rest)

module _ (scope : Scope) (all : Fields) (items : List CodeField) (index : ℕ) (item : CodeField) (at : item ≡ get_or items index item)
    (within : index < length items) (before : FaultsOf (FieldsFault scope) all (fields_of (map plain_field (drop index items)))) where
  next_field : FaultsOf (FieldsFault scope) all (fields_of (map plain_field (item ∷ drop (index + 1) items)))
  next_field = next_of_all (FieldsFault scope) (λ items. fields_of (map plain_field items)) all items index item at within before

  pub past_field : FaultsOf (FieldsFault scope) all (fields_of (map plain_field (drop (index + 1) items)))
  past_field types place reported d is = next_field types place reported d (inr is)

  pub field_fails : (old middle : Graph) → IsLater old middle → IsGraph old → (nodes : Nodes) → AreNodesOf old nodes → (table : List Thing)
      (error : CheckError) → Fails middle nodes table (λ types. Fault scope types (plain_field item).expr) error
      → Fails old nodes table (λ types. FieldsFault scope types all) error
  field_fails old middle is sound nodes are table = fails_earlier old middle is sound nodes are table
      (λ types. Fault scope types (plain_field item).expr) (λ types. FieldsFault scope types all)
      (λ types of place reported d fault. next_field types place reported d (inl fault))

-- what is spliced is no sequence, whatever stands after it
pub splice_misfits : (scope : Scope) (e : Expr) (rest : Items) (old : Graph) (nodes : Nodes) (table : List Thing) (error : CheckError)
    → Fails old nodes table (λ types. Breaks scope types e IsSequence rule.Splice) error
    → Fails old nodes table (λ types. ItemsFault scope types (AnItem (Splice e) rest)) error
splice_misfits scope e rest old nodes table error = fails_more old nodes table (λ types. Breaks scope types e IsSequence rule.Splice)
    (λ types. ItemsFault scope types (AnItem (Splice e) rest)) (λ types of at reported d is. inr (inl is)) error
