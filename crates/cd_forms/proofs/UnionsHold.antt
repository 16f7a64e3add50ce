-- A union of the questions that ask for nodes holds what is in one of these.
use Rattle.std.proofs.Common.{◌≡◌, ◌↔◌, ◌<◌, ◌++◌, true, List, [], ◌∷◌, map, length, sym, subst}
use Rattle.std.proofs.Common.{Result}
use Rattle.std.proofs.lemmas.Result.{IfOk-weaker}
use Rattle.std.specs.Result.{IfOk}
use Rattle.std.specs.declared.alloc.AllocError.{AllocError}
use Rattle.cd_sets.specs.IdSet as set
use Rattle.cd_sets.specs.declared.node_id.NodeId.{NodeId}
use Rattle.cd_sets.specs.declared.question.Question.{Question}
use Rattle.cd_model.specs.AllOf.{AllOf, AnyOf}
use Rattle.cd_model.specs.BuiltIns.{built_ins}
use Rattle.cd_model.specs.Formula.{Graph}
use Rattle.cd_model.specs.Membership.{answers}
use Rattle.cd_model.specs.Thing.{Thing}
use Rattle.cd_meaning.specs.Sets.{◌⊆◌, elements_of}
use Rattle.cd_model.proofs.BothWays.{itself, turned, one_agrees}
use Rattle.cd_model.proofs.Ones.{one_of_map, map_of_one}
use Rattle.cd_rules.specs.Family.{AsksNodes}
use Rattle.cd_typing.specs.Typ.{In, typ}
use Rattle.cd_builders.specs.Unions.{HoldsUnion, IsInOne as InOneQuestion}
use Rattle.cd_forms.specs.Inner.Asking.{asking}
use Rattle.cd_forms.specs.Inner.Members.{is_member}
use Rattle.cd_forms.specs.Unions.{IsInOne}
use Rattle.cd_forms.proofs.MembersOfUnions.{part_has_member, member_of_part}
use Rattle.cd_model.proofs.ReadHeads.{nothing_in_empty}

module _ (graph : Graph) where
  -- what is in one of some nodes is what is in one of the questions that ask for these
  pub one_asked : (ids : List NodeId) (e : Thing) → AnyOf (λ id. answers graph e id true) ids
      ↔ InOneQuestion graph (map asking ids) e
  one_asked [] e = itself
  one_asked (id ∷ ids) e =
      one_agrees (λ inside. ((inside, tt), tt), λ inside. inside.0.0) (one_asked ids e)

  pub ask_nodes : (ids : List NodeId) → AllOf (λ id. id.0 < length graph) ids
      → AllOf (AsksNodes (length graph)) (map asking ids)
  ask_nodes [] below = tt
  ask_nodes (id ∷ ids) below = (((below.0, tt), tt), ask_nodes ids below.1)

  -- the same by the types of the nodes
  pub in_one_type : (ids : List NodeId) (e : Thing) → AnyOf (λ id. answers graph e id true) ids
      → IsInOne (map (typ graph) ids) e
  in_one_type ids e = one_of_map (typ graph) (λ t. In t e) ids

  pub in_one_node : (ids : List NodeId) (e : Thing) → IsInOne (map (typ graph) ids) e
      → AnyOf (λ id. answers graph e id true) ids
  in_one_node ids e = map_of_one (typ graph) (λ t. In t e) ids

-- parts and members
module _ (graph more : Graph) (begins : graph ≡ built_ins ++ more) (parts members : List NodeId)
    (are : (id : NodeId) → set.holds members id ≡ is_member parts id) where
  pub has_member : (e : Thing) → IsInOne (map (typ graph) parts) e
      → AnyOf (λ id. answers graph e id true) members
  has_member e is = part_has_member parts members are (λ id. answers graph e id true)
      (nothing_in_empty graph more begins e) (in_one_node graph parts e is)

  pub member_has : (e : Thing) → AnyOf (λ id. answers graph e id true) members
      → IsInOne (map (typ graph) parts) e
  member_has e is = in_one_type graph parts e
      (member_of_part parts members are (λ id. answers graph e id true) is)

  -- where the call for the members has ended well
  module _ (questions : List Question) (same : questions ≡ map asking members) (longer : Graph)
      (result : Result NodeId AllocError)
      (held : IfOk result (HoldsUnion graph questions longer)) where
    asked : (e : Thing) → InOneQuestion graph questions e
        ↔ AnyOf (λ id. answers graph e id true) members
    asked e = turned (subst (λ (all : List Question).
        AnyOf (λ id. answers graph e id true) members ↔ InOneQuestion graph all e) (sym same)
        (one_asked graph members e))

    pub union_has : IfOk result (λ id. IsInOne (map (typ graph) parts) ⊆ elements_of longer id)
    union_has = IfOk-weaker result _ _ (λ id holds e element is.
        (holds.exact e element).1 ((asked e).1 (has_member e is))) held

    pub union_only : IfOk result (λ id. elements_of longer id ⊆ IsInOne (map (typ graph) parts))
    union_only = IfOk-weaker result _ _ (λ id holds e element there.
        member_has e ((asked e).0 ((holds.exact e element).0 there))) held
