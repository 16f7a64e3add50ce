use Rattle.std.proofs.Common.{List, [], ◌+◌, map, take, drop, ap, sym, subst, ◌∙◌, rules}
use Rattle.cd_syntax.specs.TypeTree.{signs_of, fields_of, declarations_of}
use Rattle.cd_syntax.specs.PlainTree.{plain, plain_trees, plain_fields, plain_signed, plain_field}
use Rattle.cd_syntax.specs.PlainTree.{plain_declaration, plain_declarations}
use Rattle.cd_syntax.specs.WellMadePattern.{AreWellMadePatterns, AreWellMadePatternSigns}
use Rattle.cd_syntax.specs.WellMadePattern.{AreWellMadePatternFields}
use Rattle.cd_syntax.specs.WellMadePattern.{AreWellMadePatternDeclarations}
use Rattle.cd_syntax.specs.WellMadePattern.{AreWellMadePatternRegulars}
use Rattle.cd_syntax.specs.Name.{Name}
use Rattle.cd_model.specs.Formula.{Field}
use Rattle.cd_graph.specs.PlainFormula.{plain_named}
use Rattle.cd_shared.specs.Equation.{Equations, plain_equations}
use Rattle.cd_resolve.specs.Inner.Walk.{chained, chained_all, walked_signs, walked_fields, walked_declared}
use Rattle.cd_resolve.specs.Inner.Finding.{innermost, found_in_signs, found_in_fields, found_in_declared}
use Rattle.cd_resolve.specs.Inner.NamesDeclared.{names_in}
use Rattle.cd_resolve.specs.Inner.PlainBase.{names_outside, lists_seen}
use Rattle.cd_resolve.specs.Inner.PlainFound.{plain_found, plain_start}
use Rattle.cd_resolve.specs.Inner.PlainState.{plain_levels, plain_joint, HaveLabels}
use Rattle.cd_resolve.proofs.Declaring.{one_name_more, declared_more as found_more}
use Rattle.cd_resolve.proofs.Labelled.{walked_labels}
use Rattle.cd_resolve.proofs.Sizes.{below, trees_fall, signs_fall, fields_fall, declarations_fall, regulars_fall}
use Rattle.cd_resolve.proofs.Steps.{chain_is, signs_more, fields_more, declared_more}
use Rattle.cd_resolve.proofs.Views.{signed_is, field_is, declaration_is, at_item}
use Rattle.cd_resolve.proofs.WellMadeItems.{tree_made, sign_made, field_made, declaration_made, regular_made}
use Rattle.cd_resolve.proofs.+walk.Goals as goal

pub walk::walk_chain-returns-clause-equations : goal.walk::walk_chain-returns-clause-equations
walk::walk_chain-returns-clause-equations t c =
    c.in_ok-chain.ensures
    ∙ ap (λ ids. chained c.args.base.now.first (plain_joint c.args.joint) ids
    (plain_equations c.walk_trees.new.state.equations.items)) c.as_slice.ensures.value
    ∙ ap (chained_all c.args.base.now.first (plain_joint c.args.joint)) c.in_ok-ids.ensures.equations
    ∙ chain_is c.args.base.now.first (names_outside c.args.base.now) (plain_levels c.args.levels.now)
    c.args.joint (plain_trees c.args.trees.now) (plain_equations c.args.state.now.equations.items)
    c.requires.two

-- each item of a list is smaller than the list, and well made
pub walk::walk_trees-walk-requires : goal.walk::walk_trees-walk-requires
walk::walk_trees-walk-requires t c =
    let fall = rw c.items-tree-items.ensures at (trees_fall c.items-tree-items.result.now c.loop-tree.tree-index
    c.tree-item.result c.tree-item.is c.loop-tree-test.true) in
    let made = tree_made c.items-tree-items.result.now c.loop-tree.tree-index c.tree-item.result c.tree-item.is
    c.loop-tree-test.true
    (subst AreWellMadePatterns (sym c.items-tree-items.ensures) c.requires) in
    (search (rules, below fall, c.decreases), made)

pub walk::walk_signs-walk-requires : goal.walk::walk_signs-walk-requires
walk::walk_signs-walk-requires t c =
    let fall = rw (c.items-sign-items.ensures, ap (λ one. one.tree) (signed_is c.sign-item.result)) at
    (signs_fall c.items-sign-items.result.now c.loop-sign.sign-index c.sign-item.result c.sign-item.is
    c.loop-sign-test.true) in
    let made = rw (ap (λ one. one.tree) (signed_is c.sign-item.result)) at
    (sign_made c.items-sign-items.result.now c.loop-sign.sign-index c.sign-item.result c.sign-item.is
    c.loop-sign-test.true
    (subst AreWellMadePatternSigns (sym c.items-sign-items.ensures) c.requires)) in
    (search (rules, below fall, c.decreases), made)

pub record::walk_fields-walk-requires : goal.record::walk_fields-walk-requires
record::walk_fields-walk-requires t c =
    let fall = rw (c.items-field-items.ensures, ap (λ one. one.tree) (field_is c.field-item.result)) at
    (fields_fall c.items-field-items.result.now c.loop-field.field-index c.field-item.result c.field-item.is
    c.loop-field-test.true) in
    let made = rw (ap (λ one. one.tree) (field_is c.field-item.result)) at
    (field_made c.items-field-items.result.now c.loop-field.field-index c.field-item.result c.field-item.is
    c.loop-field-test.true
    (subst AreWellMadePatternFields (sym c.items-field-items.ensures) c.requires)) in
    (search (rules, below fall, c.decreases), made)

pub sequence::walk_regulars-walk_regular-requires : goal.sequence::walk_regulars-walk_regular-requires
sequence::walk_regulars-walk_regular-requires t c =
    let fall = rw c.items-expression-items.ensures at (regulars_fall c.items-expression-items.result.now
    c.loop-expression.expression-index c.expression-item.result c.expression-item.is c.loop-expression-test.true) in
    let made = regular_made c.items-expression-items.result.now c.loop-expression.expression-index
    c.expression-item.result c.expression-item.is c.loop-expression-test.true
    (subst AreWellMadePatternRegulars (sym c.items-expression-items.ensures) c.requires) in
    (search (rules, below fall, c.decreases), made)

pub declare::walk_declared-walk-requires : goal.declare::walk_declared-walk-requires
declare::walk_declared-walk-requires t c =
    let fall = rw (c.items-items.ensures, ap (λ one. one.tree) (declaration_is c.index-items-place.result))
    at (declarations_fall c.items-items.result.now c.loop-place.place c.index-items-place.result c.index-items-place.is
    c.loop-place-test.true) in
    let made = rw (ap (λ one. one.tree) (declaration_is c.index-items-place.result)) at
    (declaration_made c.items-items.result.now c.loop-place.place c.index-items-place.result c.index-items-place.is
    c.loop-place-test.true
    (subst AreWellMadePatternDeclarations (sym c.items-items.ensures) c.requires)) in
    (search (rules, fall, c.decreases), made)

-- the fields of a well made list have labels
pub record::walk_record-record-requires : goal.record::walk_record-record-requires
record::walk_record-record-requires t c =
    subst HaveLabels (sym (ap (λ (read : List (Name × Field) × Equations). read.0) c.in_ok-made.ensures.equations))
    (walked_labels c.args.base.now.first (names_outside c.args.base.now) (plain_levels c.args.levels.now)
    (plain_fields c.args.fields.now) [] (plain_equations c.args.state.now.equations.items) c.requires.fields tt)

-- the next item goes from what is left to what is walked over
pub walk::walk_signs-loop-sign-preserved : goal.walk::walk_signs-loop-sign-preserved
walk::walk_signs-loop-sign-preserved t c =
    let first = c.args.base.now.first in
    let names = (names_outside c.args.base.now) in
    let levels = plain_levels c.args.levels.now in
    let left = at_item (λ left. walked_signs first names levels (signs_of (map plain_signed left))
    c.loop-sign.made.items (plain_equations c.loop-sign.state.equations.items))
    c.items-sign-items.result.now c.loop-sign.sign-index c.sign-item.result c.sign-item.is c.loop-sign-test.true in
    let one = rw (signed_is c.sign-item.result) at left in
    let step = signs_more first names levels c.sign-item.result.kept (plain c.sign-item.result.tree)
    (signs_of (map plain_signed (drop (c.loop-sign.sign-index + 1) c.items-sign-items.result.now)))
    c.loop-sign.made.items c.push-in-loop-sign.new.self.items (plain_equations c.loop-sign.state.equations.items)
    (plain_equations c.walk.new.state.equations.items) _
    c.in_ok-walk.ensures.equations c.in_ok-push-2.ensures.items in
    let left_found = at_item (λ left. found_in_signs innermost (lists_seen c.args.base.now c.args.levels.now)
    (plain_start c.args.start) (signs_of (map plain_signed left)) (plain_found c.loop-sign.found))
    c.items-sign-items.result.now c.loop-sign.sign-index c.sign-item.result c.sign-item.is c.loop-sign-test.true in
    let found_in = rw (sym (ap (λ one. one.tree) (signed_is c.sign-item.result))) at c.in_ok-walk.ensures.found in
    (rw found_in (sym left_found ∙ c.loop-sign.invariant.0), step ∙ sym one ∙ c.loop-sign.invariant.1)

pub record::walk_fields-loop-field-preserved : goal.record::walk_fields-loop-field-preserved
record::walk_fields-loop-field-preserved t c =
    let first = c.args.base.now.first in
    let names = (names_outside c.args.base.now) in
    let levels = plain_levels c.args.levels.now in
    let left = at_item (λ left. walked_fields first names levels (fields_of (map plain_field left))
    (plain_named c.loop-field.made.items) (plain_equations c.loop-field.state.equations.items))
    c.items-field-items.result.now c.loop-field.field-index c.field-item.result c.field-item.is
    c.loop-field-test.true in
    let one = rw (field_is c.field-item.result) at left in
    let step = fields_more first names levels c.field-item.result.label _ c.field-item.result.at
    c.field-item.result.optional (plain c.field-item.result.tree)
    (fields_of (map plain_field (drop (c.loop-field.field-index + 1) c.items-field-items.result.now)))
    c.loop-field.made.items
    c.push.new.self.items (plain_equations c.loop-field.state.equations.items)
    (plain_equations c.walk.new.state.equations.items) _
    c.in_ok-node.ensures.equations c.in_ok-copy.ensures c.in_ok-push.ensures.items in
    let left_found = at_item (λ left. found_in_fields innermost (lists_seen c.args.base.now c.args.levels.now)
    (fields_of (map plain_field left)) (plain_found c.loop-field.found))
    c.items-field-items.result.now c.loop-field.field-index c.field-item.result c.field-item.is
    c.loop-field-test.true in
    let found_in = rw (sym (ap (λ one. one.tree) (field_is c.field-item.result))) at c.in_ok-node.ensures.found in
    (rw found_in (sym left_found ∙ c.loop-field.invariant.0), step ∙ sym one ∙ c.loop-field.invariant.1)

pub declare::walk_declared-loop-place-preserved : goal.declare::walk_declared-loop-place-preserved
declare::walk_declared-loop-place-preserved t c =
    let first = c.args.base.now.first in
    let names = (names_outside c.args.base.now) in
    let levels = plain_levels c.args.levels.now in
    let lists = lists_seen c.args.base.now c.args.levels.now in
    let declared = plain_declarations c.args.level.now.declarations.now in
    let items = c.items-items.result.now in
    let place = c.loop-place.place in
    let one = c.index-items-place.result in
    let rest = declarations_of (map plain_declaration (drop (place + 1) items)) in
    let left = at_item (λ left. walked_declared first names levels c.loop-place.number
    (declarations_of (map plain_declaration left)) (plain_equations c.loop-place.state.equations.items))
    items place one c.index-items-place.is c.loop-place-test.true in
    let here = rw (declaration_is one) at left in
    let step = declared_more first names levels one.name one.at c.loop-place.number c.in-Some.next (plain one.tree) rest
    (plain_equations c.loop-place.state.equations.items) (plain_equations c.walk.new.state.equations.items)
    (plain_equations c.settle.new.self.equations.items) c.in_ok-root.root c.in_ok-root.ensures.equations
    c.settle.ensures c.in-Some.ensures.1 in
    let left_found = at_item (λ left. found_in_declared innermost lists c.args.level.now.list
    (take place (names_in declared)) (declarations_of (map plain_declaration left)) (plain_found c.loop-place.found))
    items place one c.index-items-place.is c.loop-place-test.true in
    let here_found = rw (declaration_is one) at left_found in
    let one_more = rw (ap (λ one. one.name) (declaration_is one)) at
    (one_name_more items declared place one c.items-items.ensures c.index-items-place.is c.loop-place-test.true) in
    let reported = rw c.is_taken.ensures at c.in_ok-report_twice.ensures in
    let step_found = found_more lists c.args.level.now.list (take place (names_in declared)) _
    (record { name = one.name; at = one.at; tree = plain one.tree }) rest
    (plain_found c.loop-place.found) (plain_found c.report_twice.new.self) (plain_found c.walk.new.found)
    c.declares_before-again.result (plain_start c.start_of-start.result) c.declares_before-again.ensures one_more
    c.start_of-start.ensures reported c.in_ok-root.ensures.found in
    (step_found ∙ sym here_found ∙ c.loop-place.invariant.0, step ∙ sym here ∙ c.loop-place.invariant.1)
