use Rattle.std.proofs.Common.{[], ◌+◌, map, drop, ap, sym, ◌∙◌, rules}
use Rattle.std.proofs.lemmas.Result.{IfOk-weaker}
use Rattle.cd_syntax.specs.TypeTree.{fields_of}
use Rattle.cd_syntax.specs.PlainTree.{plain as plain_tree, plain_trees}
use Rattle.cd_syntax.specs.PlainTree.{plain_field as plain_field_tree}
use Rattle.cd_syntax.specs.PlainTree.{plain_fields as plain_field_trees, plain_rest}
use Rattle.cd_matching.specs.PlainPattern.{plain, plain_field}
use Rattle.cd_matching.specs.WrittenPattern.{field_patterns}
use Rattle.cd_resolve.proofs.Sizes.{below, trees_fall, signs_fall, fields_fall, regulars_fall}
use Rattle.cd_resolve.proofs.Views.{signed_is, field_is, at_item}
use Rattle.cd_patterns.specs.Inner.Types.{fields_filled}
use Rattle.cd_patterns.proofs.Filling.{tuple_made, record_filled, optional_next, present_next}
use Rattle.cd_patterns.proofs.build.+build.Goals as goal
use Rattle.cd_patterns.proofs.build.+build.Goals.{build_fields-then-field+in_ok-push}
use Rattle.cd_patterns.proofs.build.+build.Goals.{build_fields-else-field+in_ok-build+in_ok-push-2}

-- each item of a list is smaller than the list
pub build_trees-build-requires : goal.build_trees-build-requires
build_trees-build-requires t c =
    let fall = rw c.items-tree-items.ensures at
    (trees_fall c.items-tree-items.result.now c.loop-tree.tree-index c.tree-item.result
    c.tree-item.is
    c.loop-tree-test.true) in
    search (rules, below fall, c.decreases)

pub build_signs-build-requires : goal.build_signs-build-requires
build_signs-build-requires t c =
    let fall = rw (c.items-sign-items.ensures, ap (λ one. one.tree) (signed_is c.sign-item.result))
    at
    (signs_fall c.items-sign-items.result.now c.loop-sign.sign-index c.sign-item.result
    c.sign-item.is
    c.loop-sign-test.true) in
    search (rules, below fall, c.decreases)

pub build_fields-build-requires : goal.build_fields-build-requires
build_fields-build-requires t c =
    let fall = rw (c.items-field-items.ensures, ap (λ one. one.tree) (field_is c.field-item.result))
    at
    (fields_fall c.items-field-items.result.now c.loop-field.field-index c.field-item.result
    c.field-item.is
    c.loop-field-test.true) in
    search (rules, below fall, c.decreases)

pub build_regulars-build_regular-requires : goal.build_regulars-build_regular-requires
build_regulars-build_regular-requires t c =
    let fall = rw c.items-expression-items.ensures at
    (regulars_fall c.items-expression-items.result.now c.loop-expression.expression-index
    c.expression-item.result c.expression-item.is
    c.loop-expression-test.true) in
    search (rules, below fall, c.decreases)

-- the patterns of a tuple's trees, as the parts of pairs
pub build_tuple-returns : goal.build_tuple-returns
build_tuple-returns t c = IfOk-weaker c.pairs.result _ _
    (λ made is. tuple_made (plain_trees c.args.trees.now) c.args.roots.now.left.now
    c.build_trees.new.roots.left.now
    (map plain c.in_ok-all.all.items) (plain made) c.in_ok-all.ensures is)
    c.pairs.ensures

-- the patterns of a record's fields, and the node of its rest
pub build_record-returns : goal.build_record-returns
build_record-returns t c = IfOk-weaker c.with_rest.result _ _
    (λ made is. record_filled (plain_field_trees c.args.fields.now) (plain_rest c.args.rest.now)
    c.args.roots.now.left.now c.build_fields.new.roots.left.now (map plain_field c.in_ok-fields.fields.items)
    (plain made, c.with_rest.new.roots.left.now) c.in_ok-fields.ensures is)
    c.with_rest.ensures

-- the next field goes from what is left to what was made
pub build_fields-loop-field-preserved : goal.build_fields-loop-field-preserved
build_fields-loop-field-preserved t c =
    let items = c.items-field-items.result.now in
    let item = c.field-item.result in
    let made = c.loop-field.made.items in
    let ids = c.loop-field.roots.left.now in
    let rest = fields_of (map plain_field_tree (drop (c.loop-field.field-index + 1) items)) in
    let left = at_item
    (λ left. fields_filled (field_patterns [] (fields_of (map plain_field_tree left)))
    (map plain_field made) ids) items c.loop-field.field-index item c.field-item.is
    c.loop-field-test.true in
    let one = rw (field_is item) at left in
    elim c.if-field.branch [
      | build_fields-then-field+in_ok-push w ↦
          optional_next made c.if-field.made.items w.optional.result item.label c.in_ok-label.label
          item.at item.optional
          (plain_tree item.tree) rest ids c.if-field.roots.left.now w.next.result w.if-field.true
          c.in_ok-label.ensures
          (rw w.roots-is w.next.ensures) w.optional.ensures
          (rw w.made-is w.in_ok-push.ensures.items)
          ∙ sym one ∙ c.loop-field.invariant
      | build_fields-else-field+in_ok-build+in_ok-push-2 w ↦
          present_next made c.if-field.made.items w.present.result item.label c.in_ok-label.label
          item.at item.optional
          (plain_tree item.tree) rest ids c.if-field.roots.left.now (plain w.in_ok-build.field-0)
          w.if-field.false
          c.in_ok-label.ensures (rw w.roots-is w.in_ok-build.ensures) w.present.ensures
          (rw w.made-is w.in_ok-push-2.ensures.items)
          ∙ sym one ∙ c.loop-field.invariant
    ]
