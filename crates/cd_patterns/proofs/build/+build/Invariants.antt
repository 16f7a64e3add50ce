use Rattle.std.proofs.Common.{◌≡◌, [], ◌∷◌, suc, ◌+◌, map, drop}
use Rattle.cd_syntax.specs.TypeTree.{trees_of, signs_of, fields_of, regulars_of}
use Rattle.cd_syntax.specs.PlainTree.{plain as plain_tree, plain_kind, plain_trees, plain_signed}
use Rattle.cd_syntax.specs.PlainTree.{plain_signs}
use Rattle.cd_syntax.specs.PlainTree.{plain_field as plain_field_tree}
use Rattle.cd_syntax.specs.PlainTree.{plain_fields as plain_field_trees}
use Rattle.cd_syntax.specs.PlainTree.{plain_regular as plain_reg_tree, plain_regular_kind}
use Rattle.cd_syntax.specs.PlainTree.{plain_regulars as plain_reg_trees, plain_rest}
use Rattle.cd_matching.specs.PlainPattern.{plain, plain_field, plain_regular}
use Rattle.cd_matching.specs.WrittenPattern.{patterns, signed_patterns, field_patterns}
use Rattle.cd_matching.specs.WrittenPattern.{regular_patterns}
use Rattle.cd_resolve.proofs.Sizes.{size, size_kind, size_trees, size_signs, size_fields}
use Rattle.cd_resolve.proofs.Sizes.{size_regular, size_regular_kind, size_regulars, size_rest}
use Rattle.cd_patterns.specs.Inner.Types.{all_filled, fields_filled, regulars_filled}
use Rattle.cd_patterns.proofs.build.+build.Given as goal

abbrev pub decreases-build : goal.decreases-build
decreases-build l = size (plain_tree l.tree.now)

abbrev pub decreases-build_kind : goal.decreases-build_kind
decreases-build_kind l = size_kind (plain_kind l.kind.now)

abbrev pub decreases-build_tuple : goal.decreases-build_tuple
decreases-build_tuple l = suc (size_trees (plain_trees l.trees.now))

abbrev pub decreases-build_trees : goal.decreases-build_trees
decreases-build_trees l = size_trees (plain_trees l.trees.now)

abbrev pub decreases-build_signs : goal.decreases-build_signs
decreases-build_signs l = size_signs (plain_signs l.signs.now)

abbrev pub decreases-build_xml : goal.decreases-build_xml
decreases-build_xml l =
    suc (size (plain_tree l.tag.now) + size (plain_tree l.attributes.now) + size
    (plain_tree l.content.now))

abbrev pub decreases-build_record : goal.decreases-build_record
decreases-build_record l =
    suc (size_fields (plain_field_trees l.fields.now) + size_rest (plain_rest l.rest.now))

abbrev pub decreases-build_fields : goal.decreases-build_fields
decreases-build_fields l = size_fields (plain_field_trees l.fields.now)

abbrev pub decreases-build_regular : goal.decreases-build_regular
decreases-build_regular l = size_regular (plain_reg_tree l.expression.now)

abbrev pub decreases-build_regular_kind : goal.decreases-build_regular_kind
decreases-build_regular_kind l = size_regular_kind (plain_regular_kind l.kind.now)

abbrev pub decreases-build_regulars : goal.decreases-build_regulars
decreases-build_regulars l = size_regulars (plain_reg_trees l.all.now)

-- what is left leads from here to what all lead to
abbrev pub invariant-build_trees-loop-tree : goal.invariant-build_trees-loop-tree
invariant-build_trees-loop-tree l =
    all_filled (patterns [] (trees_of (map plain_tree (drop l.tree-index l.tree-items))))
    (map plain l.made.items)
    l.roots.left.now
    ≡ all_filled (patterns [] (plain_trees l.trees)) [] l.fn.roots.left.now

abbrev pub invariant-build_signs-loop-sign : goal.invariant-build_signs-loop-sign
invariant-build_signs-loop-sign l =
    all_filled (signed_patterns [] (signs_of (map plain_signed (drop l.sign-index l.sign-items))))
    (map plain l.made.items) l.roots.left.now
    ≡ all_filled (signed_patterns [] (plain_signs l.signs))
    (plain l.fn.first ∷ []) l.fn.roots.left.now

abbrev pub invariant-build_fields-loop-field : goal.invariant-build_fields-loop-field
invariant-build_fields-loop-field l =
    fields_filled
    (field_patterns [] (fields_of (map plain_field_tree (drop l.field-index l.field-items))))
    (map plain_field l.made.items) l.roots.left.now
    ≡ fields_filled (field_patterns [] (plain_field_trees l.fields)) [] l.fn.roots.left.now

abbrev pub invariant-build_regulars-loop-expression : goal.invariant-build_regulars-loop-expression
invariant-build_regulars-loop-expression l =
    regulars_filled
    (regular_patterns []
    (regulars_of (map plain_reg_tree (drop l.expression-index l.expression-items))))
    (map plain_regular l.made.items) l.roots.left.now
    ≡ regulars_filled (regular_patterns [] (plain_reg_trees l.all)) [] l.fn.roots.left.now
