use Rattle.std.proofs.Common.{Bool, length, refl, subst}
use Rattle.cd_model.specs.Formula.{Graph}
use Rattle.cd_empty.specs.Seen.{graph_of}
use Rattle.cd_products.specs.QuestionBoxes.{within_node}
use Rattle.cd_apply.specs.Inner.Found.{IsDisjoint, SaysInside, SaysDisjoint}
use Rattle.cd_apply.specs.Inner.PlainDivided.{plain_divided}
use Rattle.cd_apply.proofs.DividedArrows.{divides_all, divides_none, divides_some}
use Rattle.cd_apply.proofs.QuestionsNarrowed.{within_exactly, within_asks}
use Rattle.cd_apply.proofs.unsettled.divide_by.Goals as goal

pub returns-in_ok-divided-clause-divided : goal.returns-in_ok-divided-clause-divided
returns-in_ok-divided-clause-divided c =
    let graph = graph_of c.args.world.now in
    let results = c.args.divided.now.results in
    let mapped = c.args.arrow.1 in
    divides_all graph c.args.arguments.now c.args.arrow (plain_divided c.args.divided.now) _
    (within_node mapped results) (within_exactly graph mapped results)
    (within_asks (length graph) mapped results c.requires.arrow.1)
    (subst (λ (b : Bool). SaysInside graph c.args.arguments.now c.args.arrow.0 b) c.if-branch.true
    c.in_ok-is_inside.ensures.inside) c.in_ok-divided.ensures refl

pub returns-in_ok-push-clause-divided : goal.returns-in_ok-push-clause-divided
returns-in_ok-push-clause-divided c =
    divides_some (graph_of c.args.world.now) c.args.arguments.now c.args.arrow
    (plain_divided c.args.divided.now) _ c.requires.arrow refl c.in_ok-push.ensures.items

pub returns-else-not-branch-clause-divided : goal.returns-else-not-branch-clause-divided
returns-else-not-branch-clause-divided c =
    let arguments = c.args.arguments.now in
    divides_none (graph_of c.args.world.now) arguments c.args.arrow
    (plain_divided c.args.divided.now) _
    (subst (λ (g : Graph). IsDisjoint g arguments c.args.arrow.0) c.in_ok-is_inside.ensures.graph
    (subst (λ (b : Bool). SaysDisjoint (graph_of c.is_inside.new.world) arguments c.args.arrow.0 b)
    c.if-not-branch.false c.in_ok-is_disjoint.ensures.disjoint)) refl
