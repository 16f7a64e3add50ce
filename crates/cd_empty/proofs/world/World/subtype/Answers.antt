use Rattle.std.proofs.Common.{IfOk, subst}
use Rattle.std.proofs.lemmas.Result.{IfOk-weaker}
use Rattle.cd_sets.specs.declared.question.Question.{Question}
use Rattle.cd_empty.specs.Seen.{graph_of, table_of}
use Rattle.cd_verdicts.specs.Verdicts.{IsExact}
use Rattle.cd_empty.proofs.Subtypes.{each_element_within, each_value_within}
use Rattle.cd_empty.proofs.world.World.subtype.Goals as goal

pub returns-clause-elements : goal.returns-clause-elements
returns-clause-elements c =
    let graph = graph_of c.args.self.now in
    IfOk-weaker c.decide.result _ _
    (λ verdict exact empty. each_element_within graph c.args.first c.args.second _ _ c.in_ok-question.ensures verdict exact empty)
    c.decide.ensures.exact

pub returns-clause-values : goal.returns-clause-values
returns-clause-values c =
    let graph = graph_of c.args.self.now in
    IfOk-weaker c.decide.result _ _
    (λ verdict exact empty. each_value_within graph c.args.first c.args.second _ _ c.in_ok-question.ensures verdict exact empty
    c.graph.ensures.built_in) c.decide.ensures.exact

-- the question is that of the two nodes
pub returns-clause-exact : goal.returns-clause-exact
returns-clause-exact c =
    subst (λ (one : Question). IfOk c.decide.result (λ verdict. IsExact (graph_of c.args.self.now) (table_of c.decide.new.self) one verdict))
    c.in_ok-question.ensures c.decide.ensures.exact
