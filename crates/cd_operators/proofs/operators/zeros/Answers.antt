use Rattle.std.proofs.Common.{IfOk, length, subst, sym}
use Rattle.cd_sets.specs.declared.question.Question.{Question}
use Rattle.cd_rules.specs.Family.{AsksNodes}
use Rattle.cd_empty.specs.Seen.{graph_of, table_of}
use Rattle.cd_verdicts.specs.Verdicts.{IsExact}
use Rattle.cd_operators.proofs.ZeroAsked.{asks}
use Rattle.cd_operators.proofs.operators.zeros.Goals as goal

pub decide-requires : goal.decide-requires
decide-requires c =
    let graph = graph_of c.args.world.now in
    subst (AsksNodes (length graph)) (sym c.in_ok-asked.ensures)
    (asks graph c.args.tools.now c.requires.tools c.args.id c.requires.id)

pub returns-clause-exact : goal.returns-clause-exact
returns-clause-exact c = subst (λ (asked : Question). IfOk c.decide.result
    (λ verdict. IsExact (graph_of c.args.world.now) (table_of c.decide.new.self) asked verdict))
    c.in_ok-asked.ensures c.decide.ensures.exact
