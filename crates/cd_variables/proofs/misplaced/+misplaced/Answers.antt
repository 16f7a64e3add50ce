use Rattle.std.proofs.Common.{map, ap, sym, ◌∙◌, rules}
use Rattle.cd_syntax.specs.TypeTree.{signs_of, fields_of, declarations_of}
use Rattle.cd_syntax.specs.PlainTree.{plain_signed, plain_field, plain_declaration}
use Rattle.cd_variables.specs.FindingMisplaced.{misplaced_in_signs, misplaced_in_fields, misplaced_in_declarations}
use Rattle.cd_resolve.specs.PlainReported.{plain_reported}
use Rattle.cd_resolve.proofs.Sizes.{below, trees_fall, signs_fall, fields_fall, declarations_fall, regulars_fall}
use Rattle.cd_resolve.proofs.Views.{signed_is, field_is, declaration_is, at_item}
use Rattle.cd_variables.proofs.misplaced.+misplaced.Goals as goal

-- each item of a list is smaller than the list
pub report_in_trees-report_misplaced-requires : goal.report_in_trees-report_misplaced-requires
report_in_trees-report_misplaced-requires t c =
    let fall = rw c.items-tree-items.ensures at (trees_fall c.items-tree-items.result.now c.loop-tree.tree-index
    c.tree-item.result c.tree-item.is c.loop-tree-test.true) in search (rules, below fall, c.decreases)

pub report_in_signs-report_misplaced-requires : goal.report_in_signs-report_misplaced-requires
report_in_signs-report_misplaced-requires t c =
    let fall = rw (c.items-sign-items.ensures, ap (λ one. one.tree) (signed_is c.sign-item.result)) at
    (signs_fall c.items-sign-items.result.now c.loop-sign.sign-index c.sign-item.result c.sign-item.is
    c.loop-sign-test.true) in search (rules, below fall, c.decreases)

pub report_in_fields-report_misplaced-requires : goal.report_in_fields-report_misplaced-requires
report_in_fields-report_misplaced-requires t c =
    let fall = rw (c.items-field-items.ensures, ap (λ one. one.tree) (field_is c.field-item.result)) at
    (fields_fall c.items-field-items.result.now c.loop-field.field-index c.field-item.result c.field-item.is
    c.loop-field-test.true) in search (rules, below fall, c.decreases)

pub report_in_declarations-report_misplaced-requires : goal.report_in_declarations-report_misplaced-requires
report_in_declarations-report_misplaced-requires t c =
    let fall = rw (c.items-declaration-items.ensures, ap (λ one. one.tree) (declaration_is c.declaration-item.result))
    at (declarations_fall c.items-declaration-items.result.now c.loop-declaration.declaration-index
    c.declaration-item.result c.declaration-item.is c.loop-declaration-test.true) in search (rules, fall, c.decreases)

pub report_in_regulars-report_in_regular-requires : goal.report_in_regulars-report_in_regular-requires
report_in_regulars-report_in_regular-requires t c =
    let fall = rw c.items-expression-items.ensures at (regulars_fall c.items-expression-items.result.now
    c.loop-expression.expression-index c.expression-item.result c.expression-item.is c.loop-expression-test.true) in
    search (rules, below fall, c.decreases)

-- the next item goes from what is left to what is gone over
pub report_in_signs-loop-sign-preserved : goal.report_in_signs-loop-sign-preserved
report_in_signs-loop-sign-preserved t c =
    let left = at_item (λ left. misplaced_in_signs (signs_of (map plain_signed left))
    (map plain_reported c.loop-sign.faults.items)) c.items-sign-items.result.now c.loop-sign.sign-index
    c.sign-item.result c.sign-item.is c.loop-sign-test.true in
    let reported = rw (sym (ap (λ one. one.tree) (signed_is c.sign-item.result))) at c.in_ok-report_misplaced.ensures in
    rw reported (sym left ∙ c.loop-sign.invariant)

pub report_in_fields-loop-field-preserved : goal.report_in_fields-loop-field-preserved
report_in_fields-loop-field-preserved t c =
    let left = at_item (λ left. misplaced_in_fields (fields_of (map plain_field left))
    (map plain_reported c.loop-field.faults.items)) c.items-field-items.result.now c.loop-field.field-index
    c.field-item.result c.field-item.is c.loop-field-test.true in
    let reported = rw (sym (ap (λ one. one.tree) (field_is c.field-item.result))) at c.in_ok-report_misplaced.ensures in
    rw reported (sym left ∙ c.loop-field.invariant)

pub report_in_declarations-loop-declaration-preserved : goal.report_in_declarations-loop-declaration-preserved
report_in_declarations-loop-declaration-preserved t c =
    let left = at_item (λ left. misplaced_in_declarations (declarations_of (map plain_declaration left))
    (map plain_reported c.loop-declaration.faults.items)) c.items-declaration-items.result.now c.loop-declaration.declaration-index
    c.declaration-item.result c.declaration-item.is c.loop-declaration-test.true in
    let reported = rw (sym (ap (λ one. one.tree) (declaration_is c.declaration-item.result))) at c.in_ok-report_misplaced.ensures in
    rw reported (sym left ∙ c.loop-declaration.invariant)
