-- Walks over lists of operands.
use Rattle.std.proofs.Common.{◌≡◌, ◌<◌, ◌+◌, ℕ, List, [], ◌∷◌, ◌++◌, sym, subst, ap, ◌∙◌, map, drop, length, get_or, append_assoc, append-nil}
use Rattle.std.proofs.lemmas.List.{map-append}
use Rattle.cd_sets.specs.declared.node_id.NodeId.{NodeId}
use Rattle.cd_model.specs.Formula.{Graph, IsGraph}
use Rattle.cd_typing.specs.Typ.{Typ, typ, IsType, Types}
use Rattle.cd_check.specs.Inner.Environment.{Nodes, AreOfTypes, AreNodes, AreNodesOf}
use Rattle.cd_typing.specs.Later.{IsLater}
use Rattle.cd_check.specs.Inner.GoingOn.{Steps, GoesOn, LeadsOn}
use Rattle.cd_typing.proofs.Later.{later_still, below_later}
use Rattle.cd_check.proofs.Loops.{left_is}
use Rattle.cd_check.proofs.TypesLater.{types_later}

pub nodes_later : (graph later : Graph) → IsLater graph later → (ids : List NodeId) → AreNodes graph ids → AreNodes later ids
nodes_later graph later is [] are = tt
nodes_later graph later is (id ∷ ids) are = (below_later graph later is id are.0, nodes_later graph later is ids are.1)

pub both_nodes : (graph : Graph) (ids others : List NodeId) → AreNodes graph ids → AreNodes graph others → AreNodes graph (ids ++ others)
both_nodes graph [] others are more = more
both_nodes graph (id ∷ ids) others are more = (are.0, both_nodes graph ids others are.1 more)

module _ {A : Type 0} (have : Types → A → List Typ → Type 0) (old : Graph) (nodes : Nodes) where
  pub starts_on : (all : A) → GoesOn have old nodes old all all []
  starts_on all = record { done_nodes = tt; goes = λ later is types of more has. has }

  pub goes_further : (graph new : Graph) → IsLater old graph → IsGraph old → AreNodesOf old nodes → IsLater graph new
      → (all left rest : A) (done ids : List NodeId) → GoesOn have old nodes graph all left done
      → Steps have graph nodes new left rest ids → GoesOn have old nodes new all rest (done ++ ids)
  goes_further graph new first sound old_nodes is all left rest done ids before step = record {
    done_nodes = both_nodes new done ids (nodes_later graph new is done before.done_nodes) step.are_nodes;
    goes = λ later further types of more has. subst (have types all)
        (sym (ap (λ start. start ++ more) (map-append (typ later) done ids)
        ∙ append_assoc (map (typ later) done) (map (typ later) ids) more))
        (before.goes later (later_still graph new later is further) types of (map (typ later) ids ++ more)
        (step.steps later further types (types_later old graph first sound nodes old_nodes types of) more has));
  }

  pub goes_to_end : (graph : Graph) → IsGraph graph → (all left : A) (done : List NodeId) → GoesOn have old nodes graph all left done
      → (types : Types) → AreOfTypes old nodes types → have types left [] → have types all (map (typ graph) done)
  goes_to_end graph sound all left done goes types of none = subst (have types all) (append-nil (map (typ graph) done))
      (goes.goes graph (record { more = []; is = sym (append-nil graph); sound = sound }) types of [] none)

module _ {A : Type 0} (have : Types → (self : Typ) → A → Typ → Type 0) (old : Graph) (nodes : Nodes) (start : Typ) where
  pub leads_further : (graph new : Graph) (all left rest : A) (id result : NodeId) → LeadsOn have old nodes start graph all left id
      → IsType (typ new result)
      → ((types : Types) → AreOfTypes old nodes types → (t : Typ) → have types (typ new result) rest t → have types (typ graph id) left t)
      → LeadsOn have old nodes start new all rest result
  leads_further graph new all left rest id result before is_type step = record {
    is_type = is_type;
    leads = λ types of t has. before.leads types of t (step types of t has);
  }

module _ (old : Graph) (sound : IsGraph old) (nodes : Nodes) (old_nodes : AreNodesOf old nodes) (graph new : Graph)
    (first : IsLater old graph) (is : IsLater graph new) where
  -- a loop has gone over one more of a list, whatever is known of its operands
  pub one_further : {A X : Type 0} (have : Types → A → List Typ → Type 0) (of_items : List X → A) (all : A) (items : List X) (index : ℕ)
      (item : X) → item ≡ get_or items index item → index < length items → (done ids : List NodeId)
      → GoesOn have old nodes graph all (of_items (drop index items)) done
      → Steps have graph nodes new (of_items (item ∷ drop (index + 1) items)) (of_items (drop (index + 1) items)) ids
      → GoesOn have old nodes new all (of_items (drop (index + 1) items)) (done ++ ids)
  one_further have of_items all items index item at within done ids before step =
      goes_further have old nodes graph new first sound old_nodes is all (of_items (drop index items)) (of_items (drop (index + 1) items)) done
      ids before
      (subst (λ left. Steps have graph nodes new (of_items left) (of_items (drop (index + 1) items)) ids) (sym (left_is items index item at within))
      step)
