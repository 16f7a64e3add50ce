-- A loop over bodies of branches: what is known of those so far, with what is known of the rest, is known of all.
use Rattle.std.proofs.Common.{◌≡◌, ◌∙◌, ◌<◌, ℕ, inl, inr, List, [], ◌∷◌, ◌++◌}
use Rattle.std.proofs.Common.{ap, sym, subst, map, length, append_assoc, append-nil, Option, Some, None, refl}
use Rattle.std.proofs.Common.{option_map}
use Rattle.std.proofs.lemmas.List.{map-append}
use Rattle.cd_sets.specs.declared.node_id.NodeId.{NodeId}
use Rattle.cd_syntax.specs.TypeTree.{Tree}
use Rattle.cd_model.specs.Formula.{Graph, IsGraph}
use Rattle.cd_model.specs.Scope.{Scope}
use Rattle.cd_model.specs.Thing.{Thing}
use Rattle.cd_program.specs.Expr.{Expr, Branches, NoBranch, ABranch}
use Rattle.cd_meaning.specs.Sets.{Set, elements_of}
use Rattle.cd_typing.proofs.Later.{later_in, earlier_in, later_still, type_later, has_later}
use Rattle.cd_typing.proofs.Subsets.{itself, through}
use Rattle.cd_typing.specs.Later.{IsLater}
use Rattle.cd_typing.specs.Typ.{Typ, typ, In, Types}
use Rattle.cd_typing.specs.declared.rule.Rule.{Rule}
use Rattle.cd_least.specs.Faults.{BranchFault, Owed}
use Rattle.cd_least.specs.Least.{IsLeast, IsBodyLeast, AreBodiesLeast}
use Rattle.cd_check.proofs.Itself.{later_itself}
use Rattle.cd_check.proofs.KnownTypes.{fails_earlier}
use Rattle.cd_check.proofs.LeftOver.{ComeAlike, come_same, come_after, bodies_least_alike, body_fault_alike, branch_fault_alike, owes_itself}
use Rattle.cd_check.proofs.Owing.{owes_earlier}
use Rattle.cd_check.proofs.TypesLater.{types_later}
use Rattle.cd_check.specs.Inner.Bodies.{Leaves, LeavesNoMore}
use Rattle.cd_check.specs.Inner.BodyFaults.{those, Owes, BodyFault, BodyLeast, BodiesLeast}
use Rattle.cd_check.specs.Inner.Environment.{Nodes, AreOfTypes, AreNodesOf, AreSame}
use Rattle.cd_check.specs.Inner.GoingOn.{listed}
use Rattle.cd_check.specs.Inner.Known.{Fails}
use Rattle.cd_check.specs.Inner.Limits.{IsLimit}
use Rattle.cd_check.specs.declared.bodies.Limit.{Limit}
use Rattle.cd_check.specs.declared.fault.CheckError.{CheckError}

those_more : (found : List (Option NodeId)) (one : Option NodeId) → those (found ++ one ∷ []) ≡ those found ++ listed one
those_more [] None = refl
those_more [] (Some id) = refl
those_more (None ∷ found) one = those_more found one
those_more (Some id ∷ found) one = ap (λ ids. id ∷ ids) (those_more found one)

-- nodes of a graph hold the same in a longer one
pub same_later : (graph later : Graph) → IsLater graph later → IsGraph graph → (id : NodeId) → id.0 < length graph
    → AreSame (elements_of graph id) (elements_of later id)
same_later graph later is sound id below =
    record { within = later_in graph later is sound id below; whole = earlier_in graph later is sound id below }

module _ (scope : Scope) where
  -- the least type of a body in a longer graph
  body_least_later : (new later : Graph) → IsLater new later → IsGraph new → (types : Types) (before : List Tree) (pattern : Tree) (matched : Set)
      (body : Expr) (found : Option NodeId) → IsBodyLeast scope types before pattern matched body (option_map (typ new) found)
      → IsBodyLeast scope types before pattern matched body (option_map (typ later) found)
  body_least_later new later is sound types before pattern matched body None none = none
  body_least_later new later is sound types before pattern matched body (Some id) least =
      (least.0, least.1, least.2, least.3, least.4, by least.5)
    where
      by : IsLeast scope (least.3 ++ types) body (typ new id) → IsLeast scope (least.3 ++ types) body (typ later id)
      by one = record {
        is_type = type_later new later is id one.is_type;
        has = has_later scope new later is sound body (least.3 ++ types) id one.is_type.is_node one.has;
        least = λ s s_type has. through (elements_of later id) (elements_of new id) (In s)
            (earlier_in new later is sound id one.is_type.is_node) (one.least s s_type has);
      }

  module _ (old : Graph) (nodes : Nodes) (start : Set) (limit : Option Limit) where
    -- These are found for the first branches; least types and faults of those that are left, for what is left of the set at the start, make
    -- those of all
    pub record BodiesKnown (graph : Graph) (all left : Branches) (next : Set) (results : List NodeId) : Type 0 where
      pub found : List (Option NodeId)
      pub are : those found ≡ results
      pub least : (later : Graph) → IsLater graph later → (types : Types) → AreOfTypes old nodes types → (more : List (Option Typ))
          → AreBodiesLeast scope types [] next left more
          → AreBodiesLeast scope types [] start all (map (option_map (typ later)) found ++ more)
      pub faults : (types : Types) (at : ℕ) (reported : Rule) (d : Thing) → BranchFault scope types [] next (Owes scope old limit) left at reported d
          → BranchFault scope types [] start (Owes scope old limit) all at reported d

    pub none_known : (all : Branches) → BodiesKnown old all all start []
    none_known all = record { found = []; are = refl; least = λ later is types of more least. least; faults = λ types at reported d fault. fault }

    pub all_known : (graph : Graph) → IsGraph graph → (all : Branches) (next : Set) (results : List NodeId)
        → BodiesKnown graph all NoBranch next results → BodiesLeast scope old nodes graph all start results
    all_known graph sound all next results known = record {
      found = known.found;
      are = known.are;
      least = λ types of. subst (AreBodiesLeast scope types [] start all) (append-nil (map (option_map (typ graph)) known.found))
          (known.least graph (later_itself graph sound) types of [] tt);
    }

    module _ (sound : IsGraph old) (old_nodes : AreNodesOf old nodes) (graph : Graph) (first : IsLater old graph) (all : Branches)
        (pattern : Tree) (body : Expr) (rest : Branches) (matched : Set) (results : List NodeId)
        (known : BodiesKnown graph all (ABranch pattern body rest) matched results) where
      -- one branch more, which leaves what is in this node
      pub one_known : (new : Graph) → IsLater graph new → (next : NodeId) → next.0 < length graph
          → Leaves scope pattern matched (elements_of graph next)
          → LeavesNoMore scope pattern matched (elements_of graph next) → (one : Option NodeId)
          → BodyLeast scope graph nodes new matched pattern body one → BodiesKnown new all rest (elements_of new next) (results ++ listed one)
      one_known new is next below leaves no_more one least = record {
        found = known.found ++ one ∷ [];
        are = those_more known.found one ∙ ap (λ ids. ids ++ listed one) known.are;
        least = λ later further types of more left. subst (AreBodiesLeast scope types [] start all)
            (sym (ap (λ found. found ++ more) (map-append (option_map (typ later)) known.found (one ∷ []))
            ∙ append_assoc (map (option_map (typ later)) known.found) (option_map (typ later) one ∷ []) more))
            (known.least later (later_still graph new later is further) types of (option_map (typ later) one ∷ more) (
              body_least_later new later further is.sound types [] pattern matched body one
                  (least types (types_later old graph first sound nodes old_nodes types of)),
              bodies_least_alike scope rest [] (pattern ∷ []) next_set matched back types more left,
            ));
        faults = λ types at reported d fault. known.faults types at reported d
            (inr (branch_fault_alike scope owed owed (owes_itself scope owed) types at reported d rest [] (pattern ∷ []) next_set matched back fault));
      }
        where
          next_set : Set
          next_set = elements_of new next

          owed : Owed scope
          owed = Owes scope old limit

          -- what is left comes to the rest
          back : ComeAlike scope [] (pattern ∷ []) next_set matched
          back = let after = come_after scope pattern matched next_set
              (λ e element inside fails. later_in graph new is first.sound next below e element (leaves e element inside fails))
              (λ e element inside. no_more e element (earlier_in graph new is first.sound next below e element inside)) in
              record { there = after.back; back = after.there }

      -- a fault of the body is one of all branches
      pub one_fails : IsLimit old limit → (table : List Thing) (error : CheckError)
          → Fails graph nodes table (λ types. BodyFault scope types pattern matched (Owes scope graph limit) body) error
          → Fails old nodes table (λ types. BranchFault scope types [] start (Owes scope old limit) all) error
      one_fails below table = fails_earlier old graph first sound nodes old_nodes table
          (λ types. BodyFault scope types pattern matched (Owes scope graph limit) body)
          (λ types. BranchFault scope types [] start (Owes scope old limit) all)
          (λ types of at reported d fault. known.faults types at reported d (inl
          (body_fault_alike scope (Owes scope graph limit) (Owes scope old limit) (owes_earlier scope old graph first sound limit below) types at reported
          d [] [] matched matched (come_same scope [] matched matched (record { within = itself matched; whole = itself matched })) pattern body
          fault)))
