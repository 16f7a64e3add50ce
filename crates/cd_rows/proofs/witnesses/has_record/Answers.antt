use Rattle.std.proofs.Common.{length, subst, sym}
use Rattle.std.proofs.lemmas.Result.{IfOk-weaker}
use Rattle.cd_model.specs.AllOf.{AllOf}
use Rattle.cd_needs.specs.Inner.PlainCells.{plain_cells}
use Rattle.cd_needs.specs.RecordTypes.{plain_row}
use Rattle.cd_rules.specs.Family.{AsksNodes}
use Rattle.cd_rules.specs.Tasks.{present}
use Rattle.cd_empty.specs.Seen.{graph_of}
use Rattle.cd_products.specs.Inner.Tests.{IsTested}
use Rattle.cd_rows.proofs.KeptRows.{both_tested, first_tested}
use Rattle.cd_rows.proofs.RowsOfGraphs.{present_ask}
use Rattle.cd_rows.proofs.witnesses.has_record.Goals as goal

pub cells_have_witnesses-requires : goal.cells_have_witnesses-requires
cells_have_witnesses-requires c =
    let nodes = length (graph_of c.args.world.now) in
    subst (λ cells. AllOf (AsksNodes nodes) (present (plain_cells cells)))
    (sym c.as_slice.ensures.value)
    (present_ask nodes (plain_row c.args.row.now).cells c.requires.cells)

pub returns-then-branch-clause-tested : goal.returns-then-branch-clause-tested
returns-then-branch-clause-tested c =
    let graph = graph_of c.args.world.now in
    let row = plain_row c.args.row.now in
    IfOk-weaker c.are_inhabited.result _ _
    (λ b rest. both_tested graph (present row.cells) row.some b
    (subst (IsTested graph (present row.cells)) c.if-branch.true
    (subst (λ cells. IsTested graph (present (plain_cells cells)) c.in_ok-cells_have_witnesses.field-0)
    c.as_slice.ensures.value c.in_ok-cells_have_witnesses.ensures.tested))
    (subst (λ graph. IsTested graph row.some b) c.in_ok-cells_have_witnesses.ensures.after.graph
    (subst (λ some. IsTested (graph_of c.cells_have_witnesses.new.world) some b) c.items.ensures rest)))
    c.are_inhabited.ensures.tested

pub returns-else-branch-clause-tested : goal.returns-else-branch-clause-tested
returns-else-branch-clause-tested c =
    let graph = graph_of c.args.world.now in
    let row = plain_row c.args.row.now in
    first_tested graph (present row.cells) row.some
    (subst (IsTested graph (present row.cells)) c.if-branch.false
    (subst (λ cells. IsTested graph (present (plain_cells cells)) c.in_ok-cells_have_witnesses.field-0)
    c.as_slice.ensures.value c.in_ok-cells_have_witnesses.ensures.tested))
