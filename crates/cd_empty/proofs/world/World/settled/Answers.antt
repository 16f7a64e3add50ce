use Rattle.std.proofs.Common.{◌≡◌, MatchOption, length, subst}
use Rattle.cd_sets.specs.declared.question.Question.{Question}
use Rattle.cd_graph.specs.Nodes.{nodes}
use Rattle.cd_model.specs.AllOf.{AllOf}
use Rattle.cd_rules.specs.Family.{AsksNodes}
use Rattle.cd_verdicts.specs.declared.verdict.Verdict.{Verdict}
use Rattle.cd_empty.specs.Seen.{Seen, graph_of, table_of, kept}
use Rattle.cd_verdicts.specs.Verdicts.{IsExact, IsKept}
use Rattle.cd_empty.proofs.ExactVerdicts.{all_exact}
use Rattle.cd_verdicts.proofs.VerdictsFound.{found_or_none, one_verdict}
use Rattle.cd_empty.proofs.world.World.settled.Goals as goal

pub returns-clause-found : goal.returns-clause-found
returns-clause-found c =
    let question = c.args.question.now in
    subst (λ (world : Seen). MatchOption c.get.result ((verdict : Verdict) → IsKept (kept world) question verdict → ⊥)
    (λ verdict. IsKept (kept world) question verdict)) c.self.view_is
    (found_or_none c.self.inside.decider.verdicts question c.get.result c.get.ensures)

pub returns-clause-asks : goal.returns-clause-asks
returns-clause-asks c = subst (λ (world : Seen). AllOf (λ one. AsksNodes (length (graph_of world)) one.0) (kept world)) c.self.view_is
    c.self.invariant.asks

pub returns-clause-exact : goal.returns-clause-exact
returns-clause-exact c =
    subst (λ (world : Seen). AllOf (λ one. IsExact (graph_of world) (table_of world) one.0 one.1) (kept world)) c.self.view_is
    (all_exact (nodes c.self.inside.graph) c.knows.ensures.built_in c.self.inside.decider c.self.invariant)

pub returns-clause-once : goal.returns-clause-once
returns-clause-once c =
    subst (λ (world : Seen). (asked : Question) (one other : Verdict) → IsKept (kept world) asked one → IsKept (kept world) asked other
    → one ≡ other) c.self.view_is
    (one_verdict c.self.inside.decider.verdicts c.self.invariant.once)
