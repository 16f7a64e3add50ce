use Rattle.std.proofs.Common.{true, false, subst}
use Rattle.cd_model.specs.BuiltIns.{NIL, EMPTY}
use Rattle.cd_model.specs.Formula.{Graph}
use Rattle.cd_empty.specs.Seen.{graph_of}
use Rattle.cd_forms.specs.Inner.Joins.{IsAnswer}
use Rattle.cd_forms.proofs.JoinsKnown.{empty_join, nil_join}
use Rattle.cd_forms.proofs.of_sequences.join.known_join.Goals as goal

-- the first node is empty
pub returns-then-branch-clause-join : goal.returns-then-branch-clause-join
returns-then-branch-clause-join c =
    empty_join (graph_of c.args.world.now) c.graph.ensures.built_in c.args.first c.args.second
    (subst (λ (g : Graph). IsAnswer g c.args.first EMPTY true) c.in_ok-is_within.ensures.graph
    (subst (IsAnswer (graph_of c.is_within.new.world) c.args.first EMPTY) c.if-branch.true
    c.in_ok-is_within-2.ensures.within))

-- it holds `nil`
pub returns-clause-join : goal.returns-clause-join
returns-clause-join c =
    let graph = graph_of c.args.world.now in
    nil_join graph c.graph.ensures.built_in c.args.first c.args.second
    (subst (IsAnswer graph c.args.first NIL) c.if-not-branch.false c.in_ok-is_within.ensures.within)
    (subst (λ (g : Graph). IsAnswer g c.args.first EMPTY false) c.in_ok-is_within.ensures.graph
    (subst (IsAnswer (graph_of c.is_within.new.world) c.args.first EMPTY) c.if-branch.false
    c.in_ok-is_within-2.ensures.within))
