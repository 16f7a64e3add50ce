-- Forms with branches, whose bodies are checked in a graph that grew since what they match was known.
use Rattle.std.proofs.Common.{◌≡◌, ◌<◌, sym, subst, inl, inr, List, [], ◌∷◌, ◌++◌, length, length-append, arith, map, Option, None}
use Rattle.cd_sets.specs.declared.node_id.NodeId.{NodeId}
use Rattle.cd_syntax.specs.TypeTree.{Tree}
use Rattle.cd_model.specs.AllOf.{AllOf}
use Rattle.cd_model.specs.BuiltIns.{built_ins}
use Rattle.cd_model.specs.Formula.{Graph, IsGraph}
use Rattle.cd_model.specs.Scope.{Scope}
use Rattle.cd_model.specs.Thing.{Thing, IsElement}
use Rattle.cd_matching.specs.Takes.{WrittenTakes}
use Rattle.cd_program.specs.Expr.{Expr, Branches}
use Rattle.cd_meaning.specs.Sequences.{IsSequence, IsListOf, IsItemOf}
use Rattle.cd_meaning.specs.Sets.{Set, ◌⊆◌, elements_of}
use Rattle.cd_forms.specs.Unions.{IsInOne}
use Rattle.cd_typing.specs.Branches.{Cover}
use Rattle.cd_typing.specs.Later.{IsLater}
use Rattle.cd_typing.specs.Typ.{typ, In, IsType}
use Rattle.cd_typing.proofs.Later.{later_in}
use Rattle.cd_sites.specs.TakenElements.{left_of}
use Rattle.cd_check.specs.declared.base.Base.{Base}
use Rattle.cd_check.specs.Inner.Bodies.{BodyGives}
use Rattle.cd_check.specs.Inner.Environment.{Nodes}
use Rattle.cd_check.specs.Inner.Giving.{BodiesGive, BranchesGive}
use Rattle.cd_check.specs.Inner.Ready.{IsReady, seen_by, scope_of}
use Rattle.cd_check.proofs.BodiesTyped.{fewer_bodies, all_and_one, last_one}
use Rattle.cd_check.proofs.FormsWithBranches.{BodiesFrom}
use Rattle.cd_check.proofs.ListsOfItems.{lists_of_items}
use Rattle.cd_check.proofs.TypesLater.{types_later}

-- what holds all of some nodes holds each of them
pub each_in_one : (graph : Graph) (ids : List NodeId) (set : Set) → IsInOne (map (typ graph) ids) ⊆ set
    → AllOf (λ id. elements_of graph id ⊆ set) ids
each_in_one graph [] set within = tt
each_in_one graph (id ∷ ids) set within = (
  λ e element inside. within e element (inl inside),
  each_in_one graph ids set (λ e element inside. within e element (inr inside)),
)

-- what is in one of them is in what holds each
pub one_in_set : (graph : Graph) (ids : List NodeId) (set : Set) → AllOf (λ id. elements_of graph id ⊆ set) ids
    → IsInOne (map (typ graph) ids) ⊆ set
one_in_set graph [] set each e element inside = absurd inside
one_in_set graph (id ∷ ids) set each e element (inl here) = each.0 e element here
one_in_set graph (id ∷ ids) set each e element (inr further) = one_in_set graph ids set each.1 e element further

-- a wider set holds them too
pub each_wider : (graph : Graph) (ids : List NodeId) (set wider : Set) → set ⊆ wider → AllOf (λ id. elements_of graph id ⊆ set) ids
    → AllOf (λ id. elements_of graph id ⊆ wider) ids
each_wider graph [] set wider more each = tt
each_wider graph (id ∷ ids) set wider more each =
    (λ e element inside. more e element (each.0 e element inside), each_wider graph ids set wider more each.1)

module _ (base : Base) (locals : Nodes) (old : Graph) (ready : IsReady base old locals) (middle : Graph) (is : IsLater old middle)
    (matched : NodeId) (below : matched.0 < length old) (branches : Branches) where
  -- the graph and the node stand under other names
  pub bodies_earlier : (same : Graph) → same ≡ middle → (at : NodeId) → at ≡ matched → (new : Graph) (results : List NodeId)
      → BodiesGive base same locals new branches at results → BodiesGive base old locals new branches matched results
  bodies_earlier same is_same at is_matched new results gives =
      let there = subst (λ (id : NodeId). BodiesGive base middle locals new branches id results) is_matched
      (subst (λ (graph : Graph). BodiesGive base graph locals new branches at results) is_same gives) in record {
        are_nodes = there.are_nodes;
        have_types = λ types of t within. fewer_bodies (scope_of base) types branches (elements_of middle matched) (elements_of old matched)
            (later_in old middle is ready.sound matched below) (In t)
            (there.have_types types (types_later old middle is ready.sound (seen_by base locals) ready.nodes types of) t within);
      }

  pub cover_earlier : (at : NodeId) → at ≡ matched → Cover (scope_of base) branches (elements_of middle at)
      → Cover (scope_of base) branches (elements_of old matched)
  cover_earlier at is_matched cover e element inside = cover e element
      (subst (λ (id : NodeId). elements_of middle id e) (sym is_matched) (later_in old middle is ready.sound matched below e element inside))

-- branches that cover, whose bodies are in one node
pub covering_gives : (base : Base) (locals : Nodes) (old : Graph) (branches : Branches) (matched : NodeId)
    → Cover (scope_of base) branches (elements_of old matched) → (last : Graph) (results : List NodeId)
    → BodiesGive base old locals last branches matched results → (new : Graph) (id : NodeId) → IsType (typ new id)
    → IsInOne (map (typ last) results) ⊆ elements_of new id → BranchesGive base old locals new matched branches id
covering_gives base locals old branches matched cover last results gives new id is_type has = record {
  is_type = is_type;
  cover = cover;
  have_types = λ types of. gives.have_types types of (typ new id) (each_in_one last results (elements_of new id) has);
}

-- bodies in a node that holds each of their nodes
pub bodies_from : (base : Base) (locals : Nodes) (old : Graph) (branches : Branches) (matched : NodeId) (last : Graph) (results : List NodeId)
    → BodiesGive base old locals last branches matched results → (new : Graph) (id : NodeId)
    → AllOf (λ one. elements_of last one ⊆ elements_of new id) results
    → BodiesFrom (scope_of base) old (seen_by base locals) (elements_of old matched) branches (elements_of new id)
bodies_from base locals old branches matched last results gives new id each types of = gives.have_types types of (typ new id) each

-- nothing of what is matched passes a pattern by
pub none_passes : (first second : Graph) (matched : NodeId) (scope : Scope) (pattern : Tree) (left : NodeId)
    → left_of scope pattern (elements_of first matched) ⊆ elements_of second left
    → ((e : Thing) → IsElement e → elements_of second left e → ⊥)
    → (e : Thing) → IsElement e → elements_of first matched e → WrittenTakes scope pattern e None → ⊥
none_passes first second matched scope pattern left all_left none e element inside fails = none e element (all_left e element (inside, fails))

-- items of a node of sequences
pub lists_in : (same graph later : Graph) → same ≡ graph → (list sequences item : NodeId) → elements_of graph list ⊆ elements_of graph sequences
    → elements_of graph sequences ⊆ IsSequence → IsItemOf (elements_of same list) ⊆ elements_of later item
    → elements_of graph list ⊆ IsListOf (elements_of later item)
lists_in same graph later is list sequences item within are items_in = lists_of_items (elements_of graph list) (elements_of later item)
    (λ e element inside. are e element (within e element inside))
    (subst (λ (one : Graph). IsItemOf (elements_of one list) ⊆ elements_of later item) is items_in)

-- bodies that are sequences, whose union has these items
pub sequences_within : (third fourth fifth new : Graph) (results : List NodeId) (sequences lists item result : NodeId)
    → elements_of third sequences ⊆ IsSequence → AllOf (λ id. elements_of third id ⊆ elements_of third sequences) results
    → IsInOne (map (typ third) results) ⊆ elements_of fourth lists → elements_of fourth lists ⊆ IsInOne (map (typ third) results)
    → IsItemOf (elements_of fourth lists) ⊆ elements_of fifth item → IsListOf (elements_of fifth item) ⊆ elements_of new result
    → AllOf (λ id. elements_of third id ⊆ elements_of new result) results
sequences_within third fourth fifth new results sequences lists item result are within has only items_in list_in =
    each_wider third results (elements_of fourth lists) (elements_of new result)
    (λ e element inside. list_in e element (lists_of_items (elements_of fourth lists) (elements_of fifth item) all items_in e element inside))
    (each_in_one third results (elements_of fourth lists) has)
  where
    all : elements_of fourth lists ⊆ IsSequence
    all e element inside = are e element
        (one_in_set third results (elements_of third sequences) within e element (only e element inside))

-- the last of more nodes, and those before it
pub before_last : (graph new : Graph) (ids : List NodeId) (id result : NodeId) → IsInOne (map (typ graph) (ids ++ id ∷ [])) ⊆ elements_of new result
    → AllOf (λ one. elements_of graph one ⊆ elements_of new result) ids
before_last graph new ids id result has = all_and_one (λ one. elements_of graph one ⊆ elements_of new result) ids id
    (each_in_one graph (ids ++ id ∷ []) (elements_of new result) has)

pub last_within : (first graph new : Graph) → IsLater first graph → IsGraph first → (ids : List NodeId) (id result : NodeId) → id.0 < length first
    → IsInOne (map (typ graph) (ids ++ id ∷ [])) ⊆ elements_of new result → elements_of first id ⊆ elements_of new result
last_within first graph new is sound ids id result below has e element inside =
    last_one (λ one. elements_of graph one ⊆ elements_of new result) ids id
    (each_in_one graph (ids ++ id ∷ []) (elements_of new result) has) e element (later_in first graph is sound id below e element inside)

-- what a body gives, under other names
pub body_moved : (scope : Scope) (nodes : Nodes) (new : Graph) (matched : NodeId) (body : Expr) (same graph : Graph) → same ≡ graph
    → (other pattern : Tree) → other ≡ pattern → (found one : Option NodeId) → found ≡ one
    → BodyGives scope same nodes new (elements_of same matched) other body found
    → BodyGives scope graph nodes new (elements_of graph matched) pattern body one
body_moved scope nodes new matched body same graph is_same other pattern is_pattern found one is_one gives =
    subst (λ (last : Option NodeId). BodyGives scope graph nodes new (elements_of graph matched) pattern body last) is_one
    (subst (λ (tree : Tree). BodyGives scope graph nodes new (elements_of graph matched) tree body found) is_pattern
    (subst (λ (of : Graph). BodyGives scope of nodes new (elements_of of matched) other body found) is_same gives))

-- built-in nodes are nodes of a graph that is ready
pub built_in_below : (base : Base) (graph : Graph) (locals : Nodes) → IsReady base graph locals → (id : NodeId) → id.0 < length built_ins
    → id.0 < length graph
built_in_below base graph locals ready id below = subst (λ (all : Graph). id.0 < length all) (sym ready.begins)
    (let lengths = length-append built_ins ready.more in omega (arith, lengths, below))
