-- Variables have their types.
use Rattle.std.proofs.Common.{◌≡◌, refl, sym, subst, Bool, true, false, [], ◌∷◌, Option, Some, None, bytes_eq, if◌then◌else◌}
use Rattle.cd_sets.specs.declared.node_id.NodeId.{NodeId}
use Rattle.cd_syntax.specs.Name.{Name}
use Rattle.cd_model.specs.Formula.{Graph}
use Rattle.cd_model.specs.Scope.{Scope}
use Rattle.cd_program.specs.Expr.{Variable}
use Rattle.cd_meaning.specs.Sets.{◌⊆◌}
use Rattle.cd_typing.specs.Typ.{Typ, typ, In, Types, type_at}
use Rattle.cd_typing.specs.Typing.{KindHas}
use Rattle.cd_least.proofs.LeastForms.{variable_least}
use Rattle.cd_check.specs.Inner.Environment.{Nodes, node_at, AreOfTypes, AreSame}
use Rattle.cd_check.specs.Inner.Known.{IsBelow}

-- a type that holds what the node does
abbrev HasSame : Graph → Types → Name → NodeId → Type 0
HasSame graph types name id = (own : Typ) × (type_at types name ≡ Some own) × AreSame (In (typ graph id)) (In own)

abbrev HasType : Graph → Types → Name → NodeId → Type 0
HasType graph types name id = (own : Typ) × (type_at types name ≡ Some own) × (In own ⊆ In (typ graph id))

abbrev IsNode : NodeId → Option NodeId → Type 0
IsNode id None = ⊥
IsNode id (Some other) = other ≡ id

has_same : (graph : Graph) (nodes : Nodes) (types : Types) → AreOfTypes graph nodes types → (name : Name) (id : NodeId)
    → node_at nodes name ≡ Some id → HasSame graph types name id
has_same graph [] [] of name id is = absurd (subst (λ at. IsNode id at) (sym is) refl)
has_same graph [] (type ∷ types) of name id is = absurd of
has_same graph (node ∷ nodes) [] of name id is = absurd of
has_same graph (node ∷ nodes) (type ∷ types) of name id is =
    subst (λ first. (own : Typ) × ((if bytes_eq first name then Some type.1 else type_at types name) ≡ Some own)
    × AreSame (In (typ graph id)) (In own)) of.0
    (by (λ found. has_same graph nodes types of.2 name id found) (bytes_eq node.0 name) is)
  where
    by : (node_at nodes name ≡ Some id → HasSame graph types name id) → (same : Bool) → (if same then Some node.1 else node_at nodes name) ≡ Some id
        → (own : Typ) × ((if same then Some type.1 else type_at types name) ≡ Some own) × AreSame (In (typ graph id)) (In own)
    by further true found = (
      type.1,
      refl,
      subst (λ other. AreSame (In (typ graph other)) (In type.1)) (sym (subst (λ at. IsNode node.1 at) found refl)) of.1,
    )
    by further false found = further found

pub variable_has : (graph : Graph) (nodes : Nodes) (types : Types) → AreOfTypes graph nodes types → (name : Name) (id : NodeId)
    → node_at nodes name ≡ Some id → HasType graph types name id
variable_has graph nodes types of name id is = let own = has_same graph nodes types of name id is in (own.0, own.1, own.2.whole)

-- and no narrower ones
pub variable_below : (scope : Scope) (graph : Graph) (nodes : Nodes) (name : Name) (id : NodeId) → node_at nodes name ≡ Some id
    → IsBelow graph nodes graph (λ types t. KindHas scope types (Variable name) t) id
variable_below scope graph nodes name id is types of t is_type has = let own = has_same graph nodes types of name id is in
    variable_least scope types name own.0 (typ graph id) own.1 own.2.within t has
