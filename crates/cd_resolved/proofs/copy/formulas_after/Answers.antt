use Rattle.std.proofs.Common.{◌<◌, subst, ◌∙◌, drop}
use Rattle.cd_graph.specs.Nodes.{nodes}
use Rattle.cd_resolved.proofs.CopiesMade.{copying_goes_on}
use Rattle.cd_resolved.proofs.copy.formulas_after.Goals as goal

pub loop-place-preserved : goal.loop-place-preserved
loop-place-preserved c = copying_goes_on (nodes c.args.graph.now) (drop c.args.first (nodes c.args.graph.now)) c.loop-place.place
    c.loop-place.formulas.items c.push.new.self.items c.in_ok-copy.field-0
    (subst (λ end. c.loop-place.place < end) c.len-place-end.ensures.count c.loop-place-test.true)
    c.in_ok-push.ensures.items (c.in_ok-copy.ensures ∙ c.formula.ensures.formula) c.loop-place.invariant
