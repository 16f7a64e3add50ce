use Rattle.std.proofs.Common.{length, map, refl, subst, sym}
use Rattle.cd_model.specs.AllOf.{AllOf}
use Rattle.cd_rules.specs.Family.{AsksNodes}
use Rattle.cd_graph.specs.Nodes.{nodes}
use Rattle.cd_graph.specs.PlainFormula.{plain, plain_field}
use Rattle.cd_records.specs.Inner.Plain.{plain_questions, plain_said}
use Rattle.cd_records.specs.Inner.Standing.{EntryAsks, HoldsUnion, IsNamedFor}
use Rattle.cd_records.proofs.NodesStand.{adds_then, fields_stay}
use Rattle.cd_records.proofs.Zips.{mapped_at, zip_more}
use Rattle.cd_records.proofs.record_type.fields_of.Goals as goal

pub node_of-requires : goal.node_of-requires
node_of-requires c = let count = length (nodes c.args.graph.now) in
    subst (λ questions. AllOf (AsksNodes count) (plain_questions questions))
    (sym c.as_slice.ensures.value)
    (mapped_at plain_said (EntryAsks count) c.args.said.now c.loop-one.one-index
    c.one-item.result c.requires c.loop-one-test.true c.one-item.is)

pub loop-one-preserved : goal.loop-one-preserved
loop-one-preserved c =
    let graph = nodes c.args.graph.now in
    let old = map plain c.loop-one.batch.items in
    let new = map plain c.node_of.new.batch.items in
    let made = c.in_ok-node.ensures in
    let so_far = c.loop-one.invariant in
    record {
      fields = zip_more plain_said (λ field. (field.0, plain_field field.1)) (IsNamedFor graph new)
          c.args.said.now c.loop-one.one-index c.one-item.result c.loop-one-test.true c.one-item.is
          c.loop-one.named.items c.push.new.self.items _ c.in_ok-push.ensures.items
          (fields_stay graph old new made.adds _ _ so_far.fields) (
            c.in_ok-copy.ensures,
            record {
              optional = refl;
              type = subst (λ questions. HoldsUnion graph new (plain_questions questions)
                  c.in_ok-node.node) c.as_slice.ensures.value made.holding;
            },
          );
      adds = adds_then graph _ old new so_far.adds made.adds;
    }
