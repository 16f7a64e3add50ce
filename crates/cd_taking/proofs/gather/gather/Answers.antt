use Rattle.std.proofs.Common.{◌∙◌, sym}
use Rattle.cd_cells.specs.Cells.{thing_at}
use Rattle.cd_cells.specs.Table.{table}
use Rattle.cd_taking.specs.Inner.Machine.{as_pair}
use Rattle.cd_taking.proofs.Gathering.{stays_gathered, no_pair_gathers, no_node_gathers, no_variable_gathers}
use Rattle.cd_taking.proofs.gather.gather.Goals as goal

pub returns-in_default-clause-gathers : goal.returns-in_default-clause-gathers
returns-in_default-clause-gathers c =
    let all = table c.args.values.now in
    stays_gathered _ all c.args.mark c.args.captures.now.items
    (no_pair_gathers (as_pair (thing_at all c.args.pair.0)) _ _ (sym c.in_default.ensures.is))

pub returns-in-None-variable-clause-gathers : goal.returns-in-None-variable-clause-gathers
returns-in-None-variable-clause-gathers c =
    let all = table c.args.values.now in
    stays_gathered _ all c.args.mark c.args.captures.now.items
    (no_variable_gathers (as_pair (thing_at all c.args.pair.0)) _ c.in-Some-pair_node.node _ (sym c.pair_node.ensures ∙ c.in-Some-pair_node.is) c.in-None-variable.is)

pub returns-in-None-clause-gathers : goal.returns-in-None-clause-gathers
returns-in-None-clause-gathers c =
    let all = table c.args.values.now in
    stays_gathered _ all c.args.mark c.args.captures.now.items
    (no_node_gathers (as_pair (thing_at all c.args.pair.0)) _ _ (sym c.pair_node.ensures ∙ c.in-None.is))
