use Rattle.std.proofs.Common.{map, ap, ◌∙◌}
use Rattle.cd_model.specs.Formula.{Not}
use Rattle.cd_graph.specs.Nodes.{nodes}
use Rattle.cd_graph.specs.PlainFormula.{plain}
use Rattle.cd_records.proofs.UnionNodes.{outside_put}
use Rattle.cd_records.proofs.union.outside.Goals as goal

pub returns-clause-holding : goal.returns-clause-holding
returns-clause-holding c = outside_put (nodes c.args.graph.now) c.knows.ensures.sound
    (map plain c.args.batch.now.items) (map plain c.put.new.batch.items) c.in_ok-put.field-0
    c.in_ok-put.ensures.number c.args.question.now (plain c.in_ok-inside.inside)
    (plain c.not-negated.result) c.in_ok-inside.ensures
    (c.not-negated.ensures ∙ ap (λ one. Not (plain one)) c.in_ok-new.ensures.ok)
    c.in_ok-put.ensures.added
