use Rattle.std.proofs.Common.{ap, rules}
use Rattle.cd_resolve.proofs.Sizes.{below, trees_fall, signs_fall, fields_fall, declarations_fall}
use Rattle.cd_resolve.proofs.Sizes.{regulars_fall}
use Rattle.cd_resolve.proofs.Views.{signed_is, field_is, declaration_is}
use Rattle.cd_patterns.proofs.variables.+has_variable.Goals as goal

-- each item of a list is smaller than the list
pub trees_have-has_variable-requires : goal.trees_have-has_variable-requires
trees_have-has_variable-requires t c =
    let fall = rw c.items-tree-items.ensures at
    (trees_fall c.items-tree-items.result.now c.loop-tree.tree-index
    c.tree-item.result c.tree-item.is c.loop-tree-test.true) in
    search (rules, below fall, c.decreases)

pub signs_have-has_variable-requires : goal.signs_have-has_variable-requires
signs_have-has_variable-requires t c =
    let fall = rw (c.items-sign-items.ensures, ap (λ one. one.tree) (signed_is c.sign-item.result))
    at
    (signs_fall c.items-sign-items.result.now c.loop-sign.sign-index c.sign-item.result
    c.sign-item.is
    c.loop-sign-test.true) in
    search (rules, below fall, c.decreases)

pub fields_have-has_variable-requires : goal.fields_have-has_variable-requires
fields_have-has_variable-requires t c =
    let fall = rw (c.items-field-items.ensures, ap (λ one. one.tree) (field_is c.field-item.result))
    at
    (fields_fall c.items-field-items.result.now c.loop-field.field-index c.field-item.result
    c.field-item.is
    c.loop-field-test.true) in
    search (rules, below fall, c.decreases)

pub declarations_have-has_variable-requires : goal.declarations_have-has_variable-requires
declarations_have-has_variable-requires t c =
    let fall = rw (
      c.items-declaration-items.ensures,
      ap (λ one. one.tree)
          (declaration_is c.declaration-item.result),
    )
    at (declarations_fall c.items-declaration-items.result.now c.loop-declaration.declaration-index
    c.declaration-item.result c.declaration-item.is c.loop-declaration-test.true) in
    search (rules, fall, c.decreases)

pub regulars_have-regular_has-requires : goal.regulars_have-regular_has-requires
regulars_have-regular_has-requires t c =
    let fall = rw c.items-expression-items.ensures at
    (regulars_fall c.items-expression-items.result.now
    c.loop-expression.expression-index c.expression-item.result c.expression-item.is
    c.loop-expression-test.true) in
    search (rules, below fall, c.decreases)
