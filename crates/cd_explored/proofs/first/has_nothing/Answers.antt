use Rattle.cd_empty.specs.Seen.{graph_of, table_of}
use Rattle.cd_explored.proofs.ChoicesNarrowed.{nothing_if_empty}
use Rattle.cd_explored.proofs.first.has_nothing.Goals as goal

pub returns-in-Empty-clause-nothing : goal.returns-in-Empty-clause-nothing
returns-in-Empty-clause-nothing c = λ is.
    nothing_if_empty (graph_of c.args.world.now) (table_of c.decide.new.self) c.args.question.now
    c.in_ok-decide.field-0 c.in_ok-decide.ensures.exact c.in-Empty.is
