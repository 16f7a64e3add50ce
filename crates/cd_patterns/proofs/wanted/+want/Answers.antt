use Rattle.std.proofs.Common.{◌≡◌, List, OnOk, ap, sym, subst, ◌∙◌, rules}
use Rattle.cd_syntax.specs.PlainTree.{plain_trees, plain_fields, plain_rest}
use Rattle.cd_model.specs.Written.{Written}
use Rattle.cd_resolve.proofs.Sizes.{below, trees_fall, signs_fall, fields_fall, regulars_fall}
use Rattle.cd_resolve.proofs.Views.{signed_is, field_is}
use Rattle.cd_patterns.specs.Inner.Types.{wanted_types, rest_after}
use Rattle.cd_patterns.proofs.TypesInTurn.{tuple_after, record_after}
use Rattle.cd_patterns.proofs.wanted.+want.Goals as goal

-- each item of a list is smaller than the list
pub want_trees-want-requires : goal.want_trees-want-requires
want_trees-want-requires t c =
    let fall = rw c.items-tree-items.ensures at
    (trees_fall c.items-tree-items.result.now c.loop-tree.tree-index c.tree-item.result
    c.tree-item.is
    c.loop-tree-test.true) in
    search (rules, below fall, c.decreases)

pub want_signs-want-requires : goal.want_signs-want-requires
want_signs-want-requires t c =
    let fall = rw (c.items-sign-items.ensures, ap (λ one. one.tree) (signed_is c.sign-item.result))
    at
    (signs_fall c.items-sign-items.result.now c.loop-sign.sign-index c.sign-item.result
    c.sign-item.is
    c.loop-sign-test.true) in
    search (rules, below fall, c.decreases)

pub want_fields-want-requires : goal.want_fields-want-requires
want_fields-want-requires t c =
    let fall = rw (c.items-field-items.ensures, ap (λ one. one.tree) (field_is c.field-item.result))
    at
    (fields_fall c.items-field-items.result.now c.loop-field.field-index c.field-item.result
    c.field-item.is
    c.loop-field-test.true) in
    search (rules, below fall, c.decreases)

pub want_regulars-want_regular-requires : goal.want_regulars-want_regular-requires
want_regulars-want_regular-requires t c =
    let fall = rw c.items-expression-items.ensures at
    (regulars_fall c.items-expression-items.result.now c.loop-expression.expression-index
    c.expression-item.result c.expression-item.is
    c.loop-expression-test.true) in
    search (rules, below fall, c.decreases)

-- the types of a tuple are those of its trees
pub want_tuple-returns : goal.want_tuple-returns
want_tuple-returns t c =
    subst (λ (types : List Written). OnOk c.want_trees.result
    (wanted_types c.want_trees.new.wanted.items ≡ types))
    (sym (tuple_after (plain_trees c.args.trees.now) (wanted_types c.args.wanted.now.items)))
    c.want_trees.ensures

-- the types of a record are those of its fields, and its rest
pub want_record-returns : goal.want_record-returns
want_record-returns t c =
    let fields = plain_fields c.args.fields.now in
    let rest = plain_rest c.args.rest.now in
    subst (λ (types : List Written). OnOk c.want_rest.result
    (wanted_types c.want_rest.new.wanted.items ≡ types))
    (ap (rest_after fields rest) c.in_ok-want_fields.ensures
    ∙ sym (record_after fields rest (wanted_types c.args.wanted.now.items)))
    c.want_rest.ensures
