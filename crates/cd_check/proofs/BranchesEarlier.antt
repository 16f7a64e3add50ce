-- Least types and faults of bodies that are checked in a graph that grew since what they match was known.
use Rattle.std.proofs.Common.{◌≡◌, ◌<◌, List, [], Option, map, option_map, length, subst}
use Rattle.cd_sets.specs.declared.node_id.NodeId.{NodeId}
use Rattle.cd_syntax.specs.TypeTree.{Tree}
use Rattle.cd_model.specs.Formula.{Graph, IsGraph}
use Rattle.cd_model.specs.Scope.{Scope}
use Rattle.cd_model.specs.Thing.{Thing}
use Rattle.cd_program.specs.Expr.{Expr, Branches}
use Rattle.cd_meaning.specs.Sets.{elements_of}
use Rattle.cd_typing.specs.Later.{IsLater}
use Rattle.cd_typing.specs.Typ.{typ}
use Rattle.cd_least.specs.Faults.{BranchFault}
use Rattle.cd_check.proofs.BodiesKnown.{same_later}
use Rattle.cd_check.proofs.KnownTypes.{fails_earlier}
use Rattle.cd_check.proofs.LeftOver.{ComeAlike, come_same, bodies_least_alike, branch_fault_alike}
use Rattle.cd_check.proofs.Owing.{owes_earlier}
use Rattle.cd_check.proofs.TypesLater.{types_later}
use Rattle.cd_check.specs.Inner.BodyFaults.{Owes, BodyLeast, BodiesLeast}
use Rattle.cd_check.specs.Inner.Environment.{Nodes, AreNodesOf}
use Rattle.cd_check.specs.Inner.Known.{Fails}
use Rattle.cd_check.specs.Inner.Limits.{IsLimit}
use Rattle.cd_check.specs.declared.bodies.Limit.{Limit}
use Rattle.cd_check.specs.declared.fault.CheckError.{CheckError}

module _ (scope : Scope) (old : Graph) (sound : IsGraph old) (nodes : Nodes) (old_nodes : AreNodesOf old nodes) (middle : Graph)
    (is : IsLater old middle) (matched : NodeId) (below : matched.0 < length old) (branches : Branches) where
  come_earlier : ComeAlike scope [] [] (elements_of middle matched) (elements_of old matched)
  come_earlier = let same = same_later old middle is sound matched below in
      come_same scope [] (elements_of middle matched) (elements_of old matched) (record { within = same.whole; whole = same.within })

  -- the graph and the node stand under other names
  module _ (there : Graph) (is_there : there ≡ middle) (at : NodeId) (is_matched : at ≡ matched) where
    pub bodies_least_earlier : (new : Graph) (results : List NodeId) → BodiesLeast scope there nodes new branches (elements_of there at) results
        → BodiesLeast scope old nodes new branches (elements_of old matched) results
    bodies_least_earlier new results given =
        let bodies = subst (λ (id : NodeId). BodiesLeast scope middle nodes new branches (elements_of middle id) results) is_matched
        (subst (λ (graph : Graph). BodiesLeast scope graph nodes new branches (elements_of graph at) results) is_there given) in record {
          found = bodies.found;
          are = bodies.are;
          least = λ types of. bodies_least_alike scope branches [] [] (elements_of middle matched) (elements_of old matched) come_earlier types
              (map (option_map (typ new)) bodies.found) (bodies.least types (types_later old middle is sound nodes old_nodes types of));
        }

    pub branches_fail_earlier : (limit : Option Limit) → IsLimit old limit → (table : List Thing) (error : CheckError)
        → Fails there nodes table (λ types. BranchFault scope types [] (elements_of there at) (Owes scope there limit) branches) error
        → Fails old nodes table (λ types. BranchFault scope types [] (elements_of old matched) (Owes scope old limit) branches) error
    branches_fail_earlier limit limit_below table error fails = fails_earlier old middle is sound nodes old_nodes table
        (λ types. BranchFault scope types [] (elements_of middle matched) (Owes scope middle limit) branches)
        (λ types. BranchFault scope types [] (elements_of old matched) (Owes scope old limit) branches)
        (λ types of at reported d fault. branch_fault_alike scope (Owes scope middle limit) (Owes scope old limit)
        (owes_earlier scope old middle is sound limit limit_below) types at reported d branches [] [] (elements_of middle matched)
        (elements_of old matched) come_earlier fault) error
        (subst (λ (id : NodeId). Fails middle nodes table
        (λ types. BranchFault scope types [] (elements_of middle id) (Owes scope middle limit) branches) error) is_matched
        (subst (λ (graph : Graph). Fails graph nodes table
        (λ types. BranchFault scope types [] (elements_of graph at) (Owes scope graph limit) branches) error) is_there fails))

-- the least type of a body, under other names
pub body_least_moved : (scope : Scope) (nodes : Nodes) (new : Graph) (matched : NodeId) (body : Expr) (same graph : Graph) → same ≡ graph
    → (other pattern : Tree) → other ≡ pattern → (found one : Option NodeId) → found ≡ one
    → BodyLeast scope same nodes new (elements_of same matched) other body found
    → BodyLeast scope graph nodes new (elements_of graph matched) pattern body one
body_least_moved scope nodes new matched body same graph is_same other pattern is_pattern found one is_one least =
    subst (λ (last : Option NodeId). BodyLeast scope graph nodes new (elements_of graph matched) pattern body last) is_one
    (subst (λ (tree : Tree). BodyLeast scope graph nodes new (elements_of graph matched) tree body found) is_pattern
    (subst (λ (of : Graph). BodyLeast scope of nodes new (elements_of of matched) other body found) is_same least))
