use Rattle.std.proofs.Common.{map}
use Rattle.cd_graph.specs.Nodes.{nodes}
use Rattle.cd_graph.specs.PlainFormula.{plain}
use Rattle.cd_records.specs.Inner.Plain.{plain_said}
use Rattle.cd_records.proofs.RestFormulas.{meet_of_none}
use Rattle.cd_records.proofs.rest_formulas.with_others.Goals as goal

pub returns-in-empty-clause-holding : goal.returns-in-empty-clause-holding
returns-in-empty-clause-holding c = meet_of_none (nodes c.args.graph.now)
    (map plain c.args.batch.now.items) (map plain_said c.args.said.now) (plain c.args.records)
    c.args.left.now c.in-empty.len_below
