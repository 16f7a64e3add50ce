use Rattle.std.proofs.Common.{IfOk, subst}
use Rattle.std.proofs.lemmas.Result.{IfOk-weaker}
use Rattle.cd_graph.specs.Nodes.{nodes}
use Rattle.cd_empty.specs.Kept.{table, kept}
use Rattle.cd_empty.specs.Seen.{Seen, graph_of}
use Rattle.cd_verdicts.specs.Verdicts.{IsExact}
use Rattle.cd_empty.proofs.ExactVerdicts.{all_exact, of_kept}
use Rattle.cd_empty.proofs.world.World.decide.Goals as goal

-- the verdict is one of those that are kept
pub returns-clause-exact : goal.returns-clause-exact
returns-clause-exact c =
    let graph = nodes c.self.inside.graph in
    let decider = c.decide.new.self in
    let question = c.args.question.now in
    subst (λ (world : Seen). IfOk c.decide.result (λ verdict. IsExact (graph_of world) (table decider) question verdict)) c.self.view_is
    (IfOk-weaker c.decide.result _ _ (λ verdict is. of_kept (IsExact graph (table decider)) (kept decider) question verdict
    (all_exact graph c.knows.ensures.built_in decider c.decide.ensures.sound) is) c.decide.ensures.settled)
