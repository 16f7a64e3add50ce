use Rattle.std.proofs.Common.{map}
use Rattle.cd_graph.specs.Nodes.{nodes}
use Rattle.cd_graph.specs.PlainFormula.{plain, plain_list}
use Rattle.cd_builders.proofs.UnionFormulas.{parts_more, union_made}
use Rattle.cd_builders.proofs.formulas.union_formula.Goals as goal

pub loop-question-preserved : goal.loop-question-preserved
loop-question-preserved c = parts_more (nodes c.args.graph.now) c.args.questions.now
    c.loop-question.question-index c.question-item.result c.loop-question-test.true
    c.question-item.is c.loop-question.members.items c.push.new.self.items
    c.in_ok-member.field-0 c.in_ok-push.ensures.items c.loop-question.invariant
    c.in_ok-member.ensures

pub returns : goal.returns
returns c = union_made (nodes c.args.graph.now) c.args.questions.now
    c.loop-question.question-index c.loop-question-test.false
    (map plain c.loop-question.members.items) c.loop-question.invariant
    (plain_list c.in_ok-of.field-0) c.in_ok-of.ensures (plain c.or.result) c.or.ensures
