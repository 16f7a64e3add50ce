use Rattle.std.proofs.Common.{◌≡◌, ◌++◌, drop, map}
use Rattle.cd_graph.specs.Nodes.{nodes}
use Rattle.cd_normal.specs.Inner.PlainConjunct.{plain_conjuncts}
use Rattle.cd_rules.specs.PartialConjuncts.{clause_by}
use Rattle.cd_normal.specs.PlainClause.{plain_clause}
use Rattle.cd_normal.specs.Inner.ClausesOfKinds.{clauses_of_kind}
use Rattle.cd_normal.specs.Inner.PlainKind.{plain_kind}
use Rattle.cd_normal.proofs.normal.add_clauses.Given as goal

-- the clauses so far, and those of the conjuncts that are left, are all
abbrev pub invariant-loop-conjunct : goal.invariant-loop-conjunct
invariant-loop-conjunct l =
    map plain_clause l.found.items ++ map (clause_by (plain_kind l.kind)) (plain_conjuncts (drop l.conjunct-index l.conjunct-items))
    ≡ map plain_clause l.fn.found.items ++ clauses_of_kind (nodes l.graph) l.question l.kind
