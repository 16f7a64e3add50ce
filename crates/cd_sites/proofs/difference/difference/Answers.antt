use Rattle.std.proofs.Common.{[], ◌∷◌, subst, ◌∙◌}
use Rattle.cd_model.specs.Formula.{Graph}
use Rattle.cd_rules.specs.Needs.{question}
use Rattle.cd_verdicts.specs.Verdicts.{HasNoElement}
use Rattle.cd_empty.specs.Seen.{graph_of}
use Rattle.cd_sites.proofs.DifferencesMade.{untouched, nothing_left}
use Rattle.cd_sites.proofs.difference.difference.Goals as goal

-- all of the one is in the other
pub returns-then-branch-clause-difference : goal.returns-then-branch-clause-difference
returns-then-branch-clause-difference c =
    nothing_left (graph_of c.args.world.now) c.args.one c.args.other c.graph.ensures.built_in
    (c.in_ok-is_within.ensures.within c.if-branch.true) (graph_of c.is_within.new.world)
    c.in_ok-is_within.ensures.graph

-- nothing is in both
pub returns-then-branch-2-clause-difference : goal.returns-then-branch-2-clause-difference
returns-then-branch-2-clause-difference c =
    untouched (graph_of c.args.world.now) c.args.one c.args.other c.requires.one
    (subst (λ (g : Graph). HasNoElement g (question (c.args.one ∷ c.args.other ∷ []) []))
    c.in_ok-is_within.ensures.graph
    (c.in_ok-are_disjoint.ensures.disjoint c.if-branch-2.true)) (graph_of c.are_disjoint.new.world)
    (c.in_ok-are_disjoint.ensures.graph ∙ c.in_ok-is_within.ensures.graph)
