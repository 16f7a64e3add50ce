use Rattle.std.proofs.Common.{◌∷◌, ◌+◌, length, drop, map}
use Rattle.std.proofs.Common.{refl, subst, sym, ap, ◌∙◌}
use Rattle.std.proofs.lemmas.List.{at_drop_more, at_drop_all}
use Rattle.cd_model.specs.AllOf.{AllOf}
use Rattle.cd_needs.specs.RecordType.{record_type}
use Rattle.cd_needs.specs.RecordTypes.{plain_row}
use Rattle.cd_rules.specs.Within.{IsTypeWithin}
use Rattle.cd_empty.specs.Seen.{graph_of}
use Rattle.cd_products.proofs.WorldsAfter.{and_after, test_after}
use Rattle.cd_rows.specs.Inner.PlainClauses.{plain_types}
use Rattle.cd_rows.specs.Inner.Refining.{refuse, refuse_all}
use Rattle.cd_products.proofs.AtPlaces.{mapped_at}
use Rattle.cd_rows.proofs.KeptRows.{ask_same}
use Rattle.cd_rows.proofs.refused.rows_of_one.Goals as goal

pub refuse-requires-clause-within : goal.refuse-requires-clause-within
refuse-requires-clause-within c =
    let graph = graph_of c.args.world.now in
    let types = c.as_slice-fields-items.result.now in
    subst (λ graph. IsTypeWithin (length graph) (record_type c.fields-item.result))
    (sym c.loop-fields.invariant.0.graph)
    (mapped_at record_type (IsTypeWithin (length graph)) types c.loop-fields.fields-index
    c.fields-item.result
    (subst (λ types. AllOf (IsTypeWithin (length graph)) (plain_types types))
    (sym c.as_slice-fields-items.ensures.value) c.requires.refused)
    c.loop-fields-test.true c.fields-item.is)

pub refuse-requires-clause-rows : goal.refuse-requires-clause-rows
refuse-requires-clause-rows c =
    ask_same _ _ _ (map plain_row c.loop-fields.rows.items) c.loop-fields.invariant.0.graph
    (ap (map plain_row) c.as_slice.ensures.value) c.loop-fields.invariant.2

pub loop-fields-preserved : goal.loop-fields-preserved
loop-fields-preserved c =
    let types = c.as_slice-fields-items.result.now in
    let place = c.loop-fields.fields-index in
    let type = c.fields-item.result in
    let rows = map plain_row c.loop-fields.rows.items in
    let so_far = c.loop-fields.invariant in
    let step = c.in_ok-rows-2.ensures in (
      and_after _ _ _ so_far.0 step.after,
      λ test is. ap (refuse_all test (plain_types (drop (place + 1) types)))
          (step.exact test (test_after _ _ so_far.0 test is)
          ∙ ap (λ rows. refuse test (record_type type) (map plain_row rows))
          c.as_slice.ensures.value)
          ∙ ap (λ type. refuse_all test (plain_types (type ∷ drop (place + 1) types)) rows)
          c.fields-item.is
          ∙ sym (at_drop_more (λ types. refuse_all test (plain_types types) rows) types place type
          c.loop-fields-test.true)
          ∙ so_far.1 test is,
      ask_same _ _ _ _ (sym so_far.0.graph) refl step.of_graph,
    )

pub returns-clause-exact : goal.returns-clause-exact
returns-clause-exact c test is =
    let types = c.as_slice-fields-items.result.now in
    let rows = map plain_row c.loop-fields.rows.items in
    sym (at_drop_all (λ types. refuse_all test (plain_types types) rows) types
    c.loop-fields.fields-index c.loop-fields-test.false)
    ∙ c.loop-fields.invariant.1 test is

pub returns-in_err-rows-2-clause-after : goal.returns-in_err-rows-2-clause-after
returns-in_err-rows-2-clause-after c =
    and_after _ _ _ c.loop-fields.invariant.0 c.in_err-rows-2.ensures.after
