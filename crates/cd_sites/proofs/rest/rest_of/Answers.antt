use Rattle.std.proofs.Common.{Some, length, subst, sym, ◌∙◌}
use Rattle.cd_model.specs.Formula.{Graph, IsFormula}
use Rattle.cd_graph.specs.Nodes.{nodes}
use Rattle.cd_graph.specs.PlainFormula.{plain}
use Rattle.cd_empty.specs.Seen.{graph_of}
use Rattle.cd_sites.specs.Inner.Differences.{IsRest}
use Rattle.cd_sites.proofs.RestsMade.{rest_is_all, rest_is_none}
use Rattle.cd_sites.proofs.rest.rest_of.Goals as goal

-- nothing is in both
pub returns-then-branch-clause-rest : goal.returns-then-branch-clause-rest
returns-then-branch-clause-rest c =
    rest_is_all (graph_of c.args.world.now) (nodes c.graph.result.now)
    (c.graph.ensures.graph ∙ c.in_ok-are_disjoint.ensures.graph) c.args.one c.args.other
    (plain c.in_ok-copy.field-0) (c.in_ok-copy.ensures ∙ c.formula.ensures.formula)
    (subst (IsFormula (length (nodes c.graph.result.now))) (sym c.in_ok-copy.ensures)
    c.formula.ensures.sound) (c.in_ok-are_disjoint.ensures.disjoint c.if-branch.true)

-- all of the one is in the other
pub returns-then-branch-2-clause-rest : goal.returns-then-branch-2-clause-rest
returns-then-branch-2-clause-rest c =
    rest_is_none (graph_of c.args.world.now) (graph_of c.are_disjoint.new.world)
    c.in_ok-are_disjoint.ensures.graph c.args.one c.args.other
    (c.in_ok-is_within.ensures.within c.if-branch-2.true)

pub returns-clause-rest : goal.returns-clause-rest
returns-clause-rest c = subst
    (λ (g : Graph). IsRest g c.args.one c.args.other (Some (plain c.in_ok-formula_without.field-0)))
    (c.graph-2.ensures.graph ∙ c.in_ok-is_within.ensures.graph ∙ c.in_ok-are_disjoint.ensures.graph)
    c.in_ok-formula_without.ensures
