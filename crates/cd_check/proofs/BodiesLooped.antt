-- One step of a loop over branches.
use Rattle.std.proofs.Common.{◌≡◌, ◌<◌, ◌+◌, ℕ, List, ◌++◌, map, drop, length, get_or, sym, subst, append-nil, Option, Some, None}
use Rattle.cd_sets.specs.declared.node_id.NodeId.{NodeId}
use Rattle.cd_model.specs.Formula.{Graph, IsGraph}
use Rattle.cd_model.specs.Scope.{Scope}
use Rattle.cd_program.specs.Expr.{Branches, ABranch, branches_of}
use Rattle.cd_program.specs.PlainExpr.{plain_branch}
use Rattle.cd_program.specs.declared.expr.Branch.{Branch as CodeBranch}
use Rattle.cd_meaning.specs.Sets.{elements_of}
use Rattle.cd_typing.specs.Later.{IsLater}
use Rattle.cd_typing.specs.Typ.{Typ, typ}
use Rattle.cd_typing.proofs.Later.{later_in}
use Rattle.cd_check.specs.Inner.Bodies.{Leaves, BodyGives, BodiesGoOn}
use Rattle.cd_check.specs.Inner.Environment.{Nodes, AreNodesOf}
use Rattle.cd_check.specs.Inner.GoingOn.{listed}
use Rattle.cd_check.proofs.BodiesTyped.{passed_over, taken_up, left_within}
use Rattle.cd_check.proofs.Loops.{left_is}

module _ (scope : Scope) (old : Graph) (sound : IsGraph old) (nodes : Nodes) (old_nodes : AreNodesOf old nodes) (start : Typ)
    (graph new : Graph) (first : IsLater old graph) (is : IsLater graph new) where
  pub one_body : (all : Branches) (items : List CodeBranch) (index : ℕ) (item : CodeBranch) → item ≡ get_or items index item
      → index < length items → (matched next : NodeId) → next.0 < length graph → (results : List NodeId) (found : Option NodeId)
      → BodiesGoOn scope old nodes start graph all (branches_of (map plain_branch (drop index items))) (typ graph matched) results
      → BodyGives scope graph nodes new (elements_of graph matched) (plain_branch item).pattern (plain_branch item).body found
      → Leaves scope (plain_branch item).pattern (elements_of graph matched) (elements_of graph next)
      → BodiesGoOn scope old nodes start new all (branches_of (map plain_branch (drop (index + 1) items))) (typ new next) (results ++ listed found)
  one_body all items index item at within matched next below results found before gives leaves =
      left_within scope old sound nodes old_nodes start new all rest (typ graph next) (typ new next) (results ++ listed found)
      (later_in graph new is first.sound next below) (by found gives)
    where
      rest : Branches
      rest = branches_of (map plain_branch (drop (index + 1) items))

      here : BodiesGoOn scope old nodes start graph all (ABranch (plain_branch item).pattern (plain_branch item).body rest) (typ graph matched) results
      here = subst (λ left. BodiesGoOn scope old nodes start graph all (branches_of (map plain_branch left)) (typ graph matched) results)
          (left_is items index item at within) before

      by : (found : Option NodeId) → BodyGives scope graph nodes new (elements_of graph matched) (plain_branch item).pattern (plain_branch item).body found
          → BodiesGoOn scope old nodes start new all rest (typ graph next) (results ++ listed found)
      by None none = subst (λ ids. BodiesGoOn scope old nodes start new all rest (typ graph next) ids) (sym (append-nil results))
          (passed_over scope old sound nodes old_nodes start graph new is all (plain_branch item).pattern (plain_branch item).body rest
          (typ graph matched) (typ graph next) results here none leaves)
      by (Some id) one = taken_up scope old sound nodes old_nodes start graph new first is all (plain_branch item).pattern
          (plain_branch item).body rest (typ graph matched) (typ graph next) results id here one leaves
