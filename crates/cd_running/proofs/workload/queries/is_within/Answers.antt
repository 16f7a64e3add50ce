use Rattle.std.proofs.Common.{refl, sym, subst}
use Rattle.cd_model.specs.StandsFor.{StandsFor}
use Rattle.cd_empty.specs.Seen.{graph_of, table_of}
use Rattle.cd_running.specs.Inner.Asking.{query_type}
use Rattle.cd_running.proofs.QueriesAnswered.{yes_answers, no_answers}
use Rattle.cd_running.proofs.workload.queries.is_within.Goals as goal

-- the node of what is asked for stands for it in the longer graph
pub subtype-requires-clause-second : goal.subtype-requires-clause-second
subtype-requires-clause-second c = (c.in_ok-asked.ensures.kept c.args.wanted (query_type 99) c.requires.wanted).is_node

pub returns-in-Empty-clause-answer : goal.returns-in-Empty-clause-answer
returns-in-Empty-clause-answer c =
    let wants = c.in_ok-asked.ensures.kept c.args.wanted (query_type 99) c.requires.wanted in
    let all = rw c.in-Empty.is at c.in_ok-subtype.ensures.elements in
    yes_answers (graph_of c.node.new.world) c.in_ok-asked.asked c.args.wanted c.args.number
    c.in_ok-asked.ensures.stands wants (all refl)

pub returns-in-Inhabited-clause-answer : goal.returns-in-Inhabited-clause-answer
returns-in-Inhabited-clause-answer c =
    let wants = c.in_ok-asked.ensures.kept c.args.wanted (query_type 99) c.requires.wanted in
    let exact = rw c.in-Inhabited.is at c.in_ok-subtype.ensures.exact in
    no_answers (graph_of c.node.new.world) c.in_ok-asked.asked c.args.wanted c.args.number
    c.in_ok-asked.ensures.stands wants (table_of c.subtype.new.self) c.in-Inhabited.field-0 exact

pub returns-in-Empty-clause-wanted : goal.returns-in-Empty-clause-wanted
returns-in-Empty-clause-wanted c =
    subst (λ graph. StandsFor graph c.args.wanted (query_type 99)) (sym c.in_ok-subtype.ensures.graph)
    (c.in_ok-asked.ensures.kept c.args.wanted (query_type 99) c.requires.wanted)

pub returns-in-Inhabited-clause-wanted : goal.returns-in-Inhabited-clause-wanted
returns-in-Inhabited-clause-wanted c =
    subst (λ graph. StandsFor graph c.args.wanted (query_type 99)) (sym c.in_ok-subtype.ensures.graph)
    (c.in_ok-asked.ensures.kept c.args.wanted (query_type 99) c.requires.wanted)
