use Rattle.std.proofs.lemmas.Result.{IfOk-weaker}
use Rattle.cd_graph.specs.Nodes.{nodes}
use Rattle.cd_graph.specs.PlainFormula.{plain}
use Rattle.cd_builders.proofs.AloneNodes.{alone_below}
use Rattle.cd_builders.proofs.UnionFormulas.{of_question, of_alone}
use Rattle.cd_builders.proofs.formulas.member.Goals as goal

pub formula-requires : goal.formula-requires
formula-requires c = alone_below (nodes c.args.graph.now) c.knows.ensures.built_in.0
    c.knows.ensures.built_in.1 c.args.question.now c.in-Some.id c.requires c.in-Some.ensures

pub returns-in-Some : goal.returns-in-Some
returns-in-Some c = IfOk-weaker c.copy.result _ _
    (λ f same. of_alone (nodes c.args.graph.now) c.knows.ensures.built_in.0
    c.knows.ensures.built_in.1 c.args.question.now c.in-Some.id c.in-Some.ensures (plain f)
    (plain c.formula.result.now) c.formula.ensures.sound c.formula.ensures.formula same)
    c.copy.ensures

pub returns-in-None : goal.returns-in-None
returns-in-None c = IfOk-weaker c.question_formula.result _ _
    (λ f is. of_question (nodes c.args.graph.now) c.args.question.now (plain f) is)
    c.question_formula.ensures
