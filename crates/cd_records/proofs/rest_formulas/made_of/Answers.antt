use Rattle.std.proofs.Common.{[], List, map, ap, sym, subst}
use Rattle.cd_model.specs.Formula.{Formula}
use Rattle.cd_graph.specs.Nodes.{nodes}
use Rattle.cd_graph.specs.PlainFormula.{plain}
use Rattle.cd_records.specs.Inner.Plain.{plain_rest}
use Rattle.cd_records.specs.Inner.Rests.{IsOfRests}
use Rattle.cd_records.specs.Inner.Standing.{Adds, HoldsRecords}
use Rattle.cd_records.proofs.MadeNodes.{made_for}
use Rattle.cd_records.proofs.RestFormulas.{joined_holds}
use Rattle.cd_records.proofs.rest_formulas.made_of.Goals as goal

pub returns : goal.returns
returns c =
    let graph = nodes c.args.graph.now in
    let label = c.args.label.now in
    let rests = map plain_rest c.args.rests.now in
    let before = map plain c.formulas_of.new.batch.items in
    let formulas = map plain c.in_ok-formulas.formulas.items in
    made_for graph (IsOfRests graph label rests) before (map plain c.put.new.batch.items)
    (plain c.in_ok-joined.field-0) c.in_ok-id.id
    (subst (λ (old : List Formula). Adds graph old before)
    (ap (map plain) c.new-batch.ensures.items) c.in_ok-formulas.ensures.adds)
    c.in_ok-id.ensures.added
    (subst (HoldsRecords graph before (IsOfRests graph label rests)) (sym c.in_ok-joined.ensures)
    (joined_holds graph before label rests formulas c.in_ok-formulas.ensures.holding))
    c.in_ok-id.ensures.number
