use Rattle.std.proofs.Common.{List, subst}
use Rattle.std.proofs.lemmas.Result.{on_ok_weaker}
use Rattle.cd_model.specs.Formula.{Graph}
use Rattle.cd_rules.specs.Clauses.{Pair}
use Rattle.cd_empty.specs.Seen.{graph_of}
use Rattle.cd_apply.specs.Inner.Found.{AddsResults}
use Rattle.cd_apply.specs.Inner.PlainDivided.{plain_divided}
use Rattle.cd_apply.proofs.DividedArrows.{adds_image}
use Rattle.cd_apply.proofs.unsettled.add_results.Goals as goal

pub returns-clause-exact : goal.returns-clause-exact
returns-clause-exact c =
    let graph = graph_of c.args.world.now in
    let arguments = c.args.arguments.now in
    let divided = plain_divided c.in_ok-divided.divided in
    let before = c.args.questions.now.items in
    let after = c.walk.new.questions.items in
    on_ok_weaker c.walk.result
    (λ adds. adds_image graph arguments c.args.arrows.now divided c.in_ok-divided.ensures.divided
    before after
    (subst (λ (all : List Pair). AddsResults graph arguments all divided.results before after)
    c.as_slice-unsettled.ensures.value
    (subst (λ (g : Graph). AddsResults g arguments c.as_slice-unsettled.result.now divided.results
    before after) c.in_ok-divided.ensures.graph adds)))
    c.walk.ensures.exact
