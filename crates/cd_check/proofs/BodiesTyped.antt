-- Branches, one after the other.
use Rattle.std.proofs.Common.{List, [], ◌∷◌, ◌++◌, Some, None}
use Rattle.cd_sets.specs.declared.node_id.NodeId.{NodeId}
use Rattle.cd_syntax.specs.Name.{Name}
use Rattle.cd_syntax.specs.TypeTree.{Tree}
use Rattle.cd_model.specs.AllOf.{AllOf}
use Rattle.cd_model.specs.Formula.{Graph, IsGraph}
use Rattle.cd_model.specs.Scope.{Scope}
use Rattle.cd_model.specs.Thing.{Thing, IsElement}
use Rattle.cd_matching.specs.Captures.{Captures}
use Rattle.cd_matching.specs.Takes.{WrittenTakes}
use Rattle.cd_program.specs.Expr.{Expr, Branches, NoBranch, ABranch}
use Rattle.cd_meaning.specs.Sets.{Set, ◌⊆◌, elements_of}
use Rattle.cd_typing.specs.Typ.{Typ, typ, In, IsType, Types, AreTypes}
use Rattle.cd_typing.specs.Branches.{IsFirst, HoldCaptured}
use Rattle.cd_typing.specs.Typing.{Has, BodiesHave}
use Rattle.cd_check.specs.Inner.Environment.{Nodes, AreOfTypes, AreNodesOf}
use Rattle.cd_typing.specs.Later.{IsLater}
use Rattle.cd_check.specs.Inner.Bodies.{Leaves, BodyGives, BodiesGoOn}
use Rattle.cd_typing.proofs.Later.{later_still, type_later, has_later}
use Rattle.cd_check.proofs.Itself.{later_itself}
use Rattle.cd_check.proofs.TypesLater.{types_later}
use Rattle.cd_check.proofs.Walks.{nodes_later, both_nodes}

pub all_and_one : {X : Type 0} (Is : X → Type 0) (xs : List X) (x : X) → AllOf Is (xs ++ x ∷ []) → AllOf Is xs
all_and_one Is [] x all = tt
all_and_one Is (y ∷ xs) x all = (all.0, all_and_one Is xs x all.1)

pub last_one : {X : Type 0} (Is : X → Type 0) (xs : List X) (x : X) → AllOf Is (xs ++ x ∷ []) → Is x
last_one Is [] x all = all.0
last_one Is (y ∷ xs) x all = last_one Is xs x all.1

module _ (scope : Scope) where
  -- these fail at an element
  abbrev pub AllFail : List Tree → Thing → Type 0
  AllFail before e = AllOf (λ other. WrittenTakes scope other e None) before

  -- what is matched may be said otherwise
  abbrev pub ComesTo : (before others : List Tree) → (matched left : Set) → Type 0
  ComesTo before others matched left = (e : Thing) → IsElement e → matched e → AllFail before e → left e × AllFail others e

  pub first_there : (before others : List Tree) (matched left : Set) → ComesTo before others matched left → (pattern : Tree)
      → (e : Thing) (captures : Captures Name) → IsFirst scope before pattern matched e captures
      → IsFirst scope others pattern left e captures
  first_there before others matched left comes pattern e captures first =
      let there = comes e first.element first.in_set first.earlier in
      record { element = first.element; in_set = there.0; earlier = there.1; takes = first.takes }

  pub bodies_shift : (types : Types) (branches : Branches) (before others : List Tree) (matched left : Set)
      → ComesTo before others matched left → (wanted : Set) → BodiesHave scope types others left branches wanted
      → BodiesHave scope types before matched branches wanted
  bodies_shift types NoBranch before others matched left comes wanted has = tt
  bodies_shift types (ABranch pattern body rest) before others matched left comes wanted has = (
    λ e captures first. let one = has.0 e captures (first_there before others matched left comes pattern e captures first) in (
      one.0,
      one.1,
      one.2,
      λ d caught earlier. one.3 d caught (first_there before others matched left comes pattern d caught earlier),
      one.4,
      one.5,
      one.6,
    ),
    bodies_shift types rest (pattern ∷ before) (pattern ∷ others) matched left
        (λ e element inside fail. let there = comes e element inside fail.1 in (there.0, (fail.0, there.1))) wanted has.1,
  )

  -- one branch more
  abbrev pub BodyHas : Types → (matched : Set) → Tree → Expr → (wanted : Set) → Type 0
  BodyHas types matched pattern body wanted = (e : Thing) (captures : Captures Name)
      → IsFirst scope [] pattern matched e captures
      → (own : Types) × (s : Typ) × AreTypes own × HoldCaptured scope own [] pattern matched
      × IsType s × Has scope (own ++ types) body s × (In s ⊆ wanted)

  pub one_more : (types : Types) (pattern : Tree) (body : Expr) (rest : Branches) (matched next wanted : Set)
      → BodyHas types matched pattern body wanted → Leaves scope pattern matched next
      → BodiesHave scope types [] next rest wanted → BodiesHave scope types [] matched (ABranch pattern body rest) wanted
  one_more types pattern body rest matched next wanted has leaves more = (
    has,
    bodies_shift types rest (pattern ∷ []) [] matched next (λ e element inside fail. (leaves e element inside fail.0, tt)) wanted more,
  )

  -- less is matched
  pub fewer_bodies : (types : Types) (branches : Branches) (matched less : Set) → less ⊆ matched → (wanted : Set)
      → BodiesHave scope types [] matched branches wanted → BodiesHave scope types [] less branches wanted
  fewer_bodies types branches matched less within wanted has =
      bodies_shift types branches [] [] less matched (λ e element inside fail. (within e element inside, tt)) wanted has

  pub fewer_first : (pattern : Tree) (matched less : Set) → less ⊆ matched → (e : Thing) (captures : Captures Name)
      → IsFirst scope [] pattern less e captures → IsFirst scope [] pattern matched e captures
  fewer_first pattern matched less within e captures first =
      first_there [] [] less matched (λ one element inside fail. (within one element inside, tt)) pattern e captures first

  module _ (old : Graph) (sound : IsGraph old) (nodes : Nodes) (old_nodes : AreNodesOf old nodes) (start : Typ) where
    pub bodies_start : (left : NodeId) (branches : Branches) → BodiesGoOn scope old nodes (typ old left) old branches branches (typ old left) []
    bodies_start left branches = record { are_nodes = tt; goes = λ later is types of t within has. has }

    -- a branch that nothing comes to
    pub passed_over : (graph new : Graph) → IsLater graph new → (all : Branches) (pattern : Tree) (body : Expr) (rest : Branches)
        (matched next : Typ) (results : List NodeId)
        → BodiesGoOn scope old nodes start graph all (ABranch pattern body rest) matched results
        → BodyGives scope graph nodes new (In matched) pattern body None → Leaves scope pattern (In matched) (In next)
        → BodiesGoOn scope old nodes start new all rest next results
    passed_over graph new is all pattern body rest matched next results before none leaves = record {
      are_nodes = nodes_later graph new is results before.are_nodes;
      goes = λ later further types of t within has.
          before.goes later (later_still graph new later is further) types of t within
          (one_more types pattern body rest (In matched) (In next) (In t)
          (λ e captures first. absurd (none e captures first)) leaves has);
    }

    -- a branch whose body has this node
    pub taken_up : (graph new : Graph) → IsLater old graph → IsLater graph new → (all : Branches) (pattern : Tree) (body : Expr)
        (rest : Branches) (matched next : Typ) (results : List NodeId) (id : NodeId)
        → BodiesGoOn scope old nodes start graph all (ABranch pattern body rest) matched results
        → BodyGives scope graph nodes new (In matched) pattern body (Some id) → Leaves scope pattern (In matched) (In next)
        → BodiesGoOn scope old nodes start new all rest next (results ++ id ∷ [])
    taken_up graph new first is all pattern body rest matched next results id before gives leaves = record {
      are_nodes = both_nodes new results (id ∷ []) (nodes_later graph new is results before.are_nodes) (gives.0.is_node, tt);
      goes = λ later further types of t within has.
          before.goes later (later_still graph new later is further) types of t
          (all_and_one (λ id. elements_of later id ⊆ In t) results id within)
          (one_more types pattern body rest (In matched) (In next) (In t)
          (λ e captures comes. let own = gives.1 types (types_later old graph first sound nodes old_nodes types of) in (
            own.0,
            typ later id,
            own.1,
            own.2,
            type_later new later further id gives.0,
            has_later scope new later further gives.0.sound body (own.0 ++ types) id gives.0.is_node own.3,
            last_one (λ id. elements_of later id ⊆ In t) results id within,
          )) leaves has);
    }

    -- what is left is within this
    pub left_within : (graph : Graph) (all left : Branches) (matched other : Typ) (results : List NodeId) → In matched ⊆ In other
        → BodiesGoOn scope old nodes start graph all left matched results → BodiesGoOn scope old nodes start graph all left other results
    left_within graph all left matched other results within before = record {
      are_nodes = before.are_nodes;
      goes = λ later is types of t inside has.
          before.goes later is types of t inside (fewer_bodies types left (In other) (In matched) within (In t) has);
    }

    -- no branch is left
    pub bodies_end : (graph : Graph) → IsGraph graph → (all : Branches) (matched : Typ) (results : List NodeId)
        → BodiesGoOn scope old nodes start graph all NoBranch matched results → (types : Types) → AreOfTypes old nodes types → (t : Typ)
        → AllOf (λ id. elements_of graph id ⊆ In t) results → BodiesHave scope types [] (In start) all (In t)
    bodies_end graph graph_sound all matched results goes types of t within = goes.goes graph (later_itself graph graph_sound) types of t within tt
