use Rattle.std.proofs.lemmas.Result.{IfOk-weaker}
use Rattle.cd_model.specs.Membership.{reader, value_reader}
use Rattle.cd_graph.specs.Nodes.{nodes}
use Rattle.cd_graph.specs.PlainFormula.{plain}
use Rattle.cd_graph.proofs.Sound.{sound}
use Rattle.cd_graph.proofs.OfQuestion.{formula_answers, formula_is_sound}
use Rattle.cd_graph.proofs.graph.Graph.formula_of.Goals as goal

pub returns-clause-elements : goal.returns-clause-elements
returns-clause-elements c =
    let graph = nodes c.args.self.now in
    IfOk-weaker c.joined.result _ _
    (λ formula same is answer. formula_answers graph (reader graph is) c.args.question.now (plain formula) same answer)
    c.joined.ensures

pub returns-clause-values : goal.returns-clause-values
returns-clause-values c =
    let graph = nodes c.args.self.now in
    IfOk-weaker c.joined.result _ _
    (λ formula same interfaces is answer. formula_answers graph (value_reader graph interfaces is) c.args.question.now (plain formula) same answer)
    c.joined.ensures

pub returns-clause-sound : goal.returns-clause-sound
returns-clause-sound c =
    let graph = nodes c.args.self.now in
    IfOk-weaker c.joined.result _ _
    (λ formula same. formula_is_sound graph c.args.question.now (plain formula) same (sound graph c.args.self.now.sound))
    c.joined.ensures
