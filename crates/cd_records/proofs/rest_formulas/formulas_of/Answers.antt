use Rattle.std.proofs.Common.{map}
use Rattle.cd_graph.specs.Nodes.{nodes}
use Rattle.cd_graph.specs.PlainFormula.{plain}
use Rattle.cd_records.specs.Inner.Plain.{plain_rest}
use Rattle.cd_records.specs.Inner.Rests.{HoldsRest, RestIsIn}
use Rattle.cd_records.proofs.FormulasJoined.{rests_stay}
use Rattle.cd_records.proofs.NodesStand.{adds_then}
use Rattle.cd_records.proofs.Zips.{mapped_at, zip_more}
use Rattle.cd_records.proofs.rest_formulas.formulas_of.Goals as goal

pub formula_of-requires-clause-rest : goal.formula_of-requires-clause-rest
formula_of-requires-clause-rest c = mapped_at plain_rest (RestIsIn (nodes c.args.graph.now))
    c.args.rests.now c.loop-rest.rest-index c.rest-item.result c.requires.rests
    c.loop-rest-test.true c.rest-item.is

pub loop-rest-preserved : goal.loop-rest-preserved
loop-rest-preserved c =
    let graph = nodes c.args.graph.now in
    let label = c.args.label.now in
    let old = map plain c.loop-rest.batch.items in
    let new = map plain c.formula_of.new.batch.items in
    let made = c.in_ok-formula_of.ensures in
    let so_far = c.loop-rest.invariant in
    record {
      holding = zip_more plain_rest plain (HoldsRest graph new label) c.args.rests.now
          c.loop-rest.rest-index c.rest-item.result c.loop-rest-test.true c.rest-item.is
          c.loop-rest.formulas.items c.push.new.self.items c.in_ok-formula_of.field-0
          c.in_ok-push.ensures.items
          (rests_stay graph old new made.adds label _ _ so_far.holding) made.holding;
      adds = adds_then graph _ old new so_far.adds made.adds;
    }
