use Rattle.std.proofs.Common.{subst}
use Rattle.std.proofs.lemmas.Result.{on_ok_weaker}
use Rattle.cd_sets.specs.declared.question.Question.{Question}
use Rattle.cd_empty.specs.Seen.{graph_of}
use Rattle.cd_apply.specs.Inner.Found.{AddsImage}
use Rattle.cd_apply.proofs.unsettled.add_image.Goals as goal

pub returns-clause-exact : goal.returns-clause-exact
returns-clause-exact c = on_ok_weaker c.add_results.result
    (λ adds. subst (λ (q : Question). AddsImage (graph_of c.args.world.now) q c.args.arrows.now
    c.args.questions.now.items c.add_results.new.questions.items) c.in_ok-arguments.ensures adds)
    c.add_results.ensures.exact
