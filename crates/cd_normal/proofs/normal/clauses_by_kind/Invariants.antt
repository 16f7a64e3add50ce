use Rattle.std.proofs.Common.{◌≡◌, ◌++◌, drop, map}
use Rattle.cd_graph.specs.Nodes.{nodes}
use Rattle.cd_normal.specs.PlainClause.{plain_clause}
use Rattle.cd_normal.specs.Inner.ClausesOfKinds.{clauses_of_kinds, clauses_of_all}
use Rattle.cd_normal.proofs.normal.clauses_by_kind.Given as goal

-- the clauses so far, and those of the kinds that are left, are all
abbrev pub invariant-loop-kind : goal.invariant-loop-kind
invariant-loop-kind l =
    map plain_clause l.found.items ++ clauses_of_kinds (nodes l.graph) l.question (drop l.kind-index l.kind-items)
    ≡ clauses_of_all (nodes l.graph) l.question
