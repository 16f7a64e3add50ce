use Rattle.std.proofs.Common.{◌≡◌, [], suc, ◌+◌, map, drop}
use Rattle.cd_syntax.specs.TypeTree.{trees_of, signs_of, fields_of, regulars_of}
use Rattle.cd_syntax.specs.PlainTree.{plain, plain_kind, plain_trees, plain_signed, plain_signs}
use Rattle.cd_syntax.specs.PlainTree.{plain_field}
use Rattle.cd_syntax.specs.PlainTree.{plain_fields, plain_regular, plain_regular_kind}
use Rattle.cd_syntax.specs.PlainTree.{plain_regulars, plain_rest}
use Rattle.cd_matching.specs.WrittenPattern.{patterns, signed_patterns, field_patterns}
use Rattle.cd_matching.specs.WrittenPattern.{regular_patterns}
use Rattle.cd_resolve.proofs.Sizes.{size, size_kind, size_trees, size_signs, size_fields}
use Rattle.cd_resolve.proofs.Sizes.{size_regular, size_regular_kind, size_regulars, size_rest}
use Rattle.cd_patterns.specs.Inner.Types.{wanted_types, all_after, fields_after, regulars_after}
use Rattle.cd_patterns.proofs.wanted.+want.Given as goal

abbrev pub decreases-want : goal.decreases-want
decreases-want l = size (plain l.tree.now)

abbrev pub decreases-want_kind : goal.decreases-want_kind
decreases-want_kind l = size_kind (plain_kind l.kind.now)

abbrev pub decreases-want_tuple : goal.decreases-want_tuple
decreases-want_tuple l = suc (size_trees (plain_trees l.trees.now))

abbrev pub decreases-want_trees : goal.decreases-want_trees
decreases-want_trees l = size_trees (plain_trees l.trees.now)

abbrev pub decreases-want_signs : goal.decreases-want_signs
decreases-want_signs l = size_signs (plain_signs l.signs.now)

abbrev pub decreases-want_record : goal.decreases-want_record
decreases-want_record l = suc (size_fields (plain_fields l.fields.now) + size_rest (plain_rest l.rest.now))

abbrev pub decreases-want_fields : goal.decreases-want_fields
decreases-want_fields l = size_fields (plain_fields l.fields.now)

abbrev pub decreases-want_regular : goal.decreases-want_regular
decreases-want_regular l = size_regular (plain_regular l.expression.now)

abbrev pub decreases-want_regular_kind : goal.decreases-want_regular_kind
decreases-want_regular_kind l = size_regular_kind (plain_regular_kind l.kind.now)

abbrev pub decreases-want_regulars : goal.decreases-want_regulars
decreases-want_regulars l = size_regulars (plain_regulars l.all.now)

-- what is left leads from here to what all lead to
abbrev pub invariant-want_trees-loop-tree : goal.invariant-want_trees-loop-tree
invariant-want_trees-loop-tree l =
    all_after (patterns [] (trees_of (map plain (drop l.tree-index l.tree-items))))
    (wanted_types l.wanted.items)
    ≡ all_after (patterns [] (plain_trees l.trees)) (wanted_types l.fn.wanted.items)

abbrev pub invariant-want_signs-loop-sign : goal.invariant-want_signs-loop-sign
invariant-want_signs-loop-sign l =
    all_after (signed_patterns [] (signs_of (map plain_signed (drop l.sign-index l.sign-items))))
    (wanted_types l.wanted.items)
    ≡ all_after (signed_patterns [] (plain_signs l.signs)) (wanted_types l.fn.wanted.items)

abbrev pub invariant-want_fields-loop-field : goal.invariant-want_fields-loop-field
invariant-want_fields-loop-field l =
    fields_after
    (field_patterns [] (fields_of (map plain_field (drop l.field-index l.field-items))))
    (wanted_types l.wanted.items)
    ≡ fields_after (field_patterns [] (plain_fields l.fields)) (wanted_types l.fn.wanted.items)

abbrev pub invariant-want_regulars-loop-expression : goal.invariant-want_regulars-loop-expression
invariant-want_regulars-loop-expression l =
    regulars_after
    (regular_patterns []
    (regulars_of (map plain_regular (drop l.expression-index l.expression-items))))
    (wanted_types l.wanted.items)
    ≡ regulars_after (regular_patterns [] (plain_regulars l.all)) (wanted_types l.fn.wanted.items)
