use Rattle.std.proofs.Common.{length, sym, subst}
use Rattle.cd_rules.specs.Family.{AsksNodes}
use Rattle.cd_empty.specs.Seen.{graph_of, table_of}
use Rattle.cd_builders.proofs.OutermostQuestions.{by_verdict, without_asks}
use Rattle.cd_builders.proofs.outermost.is_within_node.Goals as goal

pub decide-requires : goal.decide-requires
decide-requires c =
    let count = length (graph_of c.args.world.now) in
    subst (AsksNodes count) (sym c.in_ok-without.ensures)
    (without_asks count c.args.id c.args.question.now c.requires.node c.requires.asks)

pub returns-in-Empty-clause-within : goal.returns-in-Empty-clause-within
returns-in-Empty-clause-within c told = by_verdict (graph_of c.args.world.now)
    c.args.question.now c.args.id (table_of c.decide.new.self) c.in_ok-without.field-0
    c.in_ok-without.ensures c.in_ok-decide.field-0 c.in_ok-decide.ensures.exact c.in-Empty.is
