use Rattle.std.proofs.Common.{◌≡◌, ◌+◌, ◌++◌, map, drop, suc}
use Rattle.cd_syntax.specs.TypeTree.{trees_of, signs_of, fields_of, regulars_of}
use Rattle.cd_syntax.specs.PlainTree.{plain, plain_kind, plain_trees, plain_signed, plain_signs, plain_field}
use Rattle.cd_syntax.specs.PlainTree.{plain_fields, plain_regular, plain_regular_kind, plain_regulars}
use Rattle.cd_variables.specs.Occurrences.{bound_by_all, bound_by_signs, bound_by_fields, plain_of_all}
use Rattle.cd_variables.specs.Occurrences.{gathered_of_all}
use Rattle.cd_variables.specs.FindingVariables.{row_faults, sign_faults, field_faults, sides_in}
use Rattle.cd_variables.specs.FindingVariables.{alternative_faults, turn_faults, other_faults}
use Rattle.cd_variables.specs.PlainOccurrences.{plain_occurrence}
use Rattle.cd_resolve.specs.PlainReported.{plain_reported}
use Rattle.cd_resolve.proofs.Sizes.{size, size_kind, size_trees, size_signs, size_fields, size_regular}
use Rattle.cd_resolve.proofs.Sizes.{size_regular_kind, size_regulars}
use Rattle.cd_variables.proofs.+check.Given as goal

abbrev pub decreases-pattern::check_variables : goal.decreases-pattern::check_variables
decreases-pattern::check_variables l = size (plain l.pattern.now)

abbrev pub decreases-pattern::check_kind : goal.decreases-pattern::check_kind
decreases-pattern::check_kind l = size_kind (plain_kind l.kind.now)

abbrev pub decreases-pattern::check_sequence : goal.decreases-pattern::check_sequence
decreases-pattern::check_sequence l = suc (size_regular (plain_regular l.expression.now))

abbrev pub decreases-row::check_tuple : goal.decreases-row::check_tuple
decreases-row::check_tuple l = size_trees (plain_trees l.trees.now)

abbrev pub decreases-row::add_part : goal.decreases-row::add_part
decreases-row::add_part l = suc (size (plain l.part.now))

abbrev pub decreases-row::check_record : goal.decreases-row::check_record
decreases-row::check_record l = size_fields (plain_fields l.fields.now)

abbrev pub decreases-row::check_xml : goal.decreases-row::check_xml
decreases-row::check_xml l =
    suc (suc (size (plain l.tag.now) + size (plain l.attributes.now) + size (plain l.content.now)))

abbrev pub decreases-row::check_meet : goal.decreases-row::check_meet
decreases-row::check_meet l = suc (suc (size (plain l.first.now) + size_signs (plain_signs l.signs.now)))

abbrev pub decreases-row::check_signs : goal.decreases-row::check_signs
decreases-row::check_signs l = size_signs (plain_signs l.signs.now)

abbrev pub decreases-alternatives::check_union : goal.decreases-alternatives::check_union
decreases-alternatives::check_union l = size_trees (plain_trees l.trees.now)

abbrev pub decreases-alternatives::check_others : goal.decreases-alternatives::check_others
decreases-alternatives::check_others l = size_trees (trees_of (map plain l.rest.now))

abbrev pub decreases-alternatives::check_other : goal.decreases-alternatives::check_other
decreases-alternatives::check_other l = suc (size (plain l.tree.now))

abbrev pub decreases-regular::check_regular : goal.decreases-regular::check_regular
decreases-regular::check_regular l = size_regular (plain_regular l.expression.now)

abbrev pub decreases-regular::check_regular_kind : goal.decreases-regular::check_regular_kind
decreases-regular::check_regular_kind l = size_regular_kind (plain_regular_kind l.kind.now)

abbrev pub decreases-regular::check_repeated : goal.decreases-regular::check_repeated
decreases-regular::check_repeated l = suc (size_regular (plain_regular l.inner.now))

abbrev pub decreases-regular::check_gathered : goal.decreases-regular::check_gathered
decreases-regular::check_gathered l = suc (size_regular (plain_regular l.inner.now))

abbrev pub decreases-turn::check_turn : goal.decreases-turn::check_turn
decreases-turn::check_turn l = suc (size_regulars (plain_regulars l.all.now))

abbrev pub decreases-turn::check_each : goal.decreases-turn::check_each
decreases-turn::check_each l = size_regulars (plain_regulars l.all.now)

abbrev pub decreases-turn::check_next : goal.decreases-turn::check_next
decreases-turn::check_next l = suc (size_regular (plain_regular l.expression.now))

abbrev pub decreases-choice::check_choice : goal.decreases-choice::check_choice
decreases-choice::check_choice l = size_regulars (plain_regulars l.all.now)

abbrev pub decreases-choice::check_others : goal.decreases-choice::check_others
decreases-choice::check_others l = size_regulars (regulars_of (map plain_regular l.rest.now))

abbrev pub decreases-choice::check_other : goal.decreases-choice::check_other
decreases-choice::check_other l = suc (size_regular (plain_regular l.expression.now))

-- what is bound so far and by what is left is all, and to go on from here finds what the whole finds
-- from the start
abbrev pub invariant-row::check_tuple-loop-tree : goal.invariant-row::check_tuple-loop-tree
invariant-row::check_tuple-loop-tree l =
    (map plain_occurrence l.bound.items ++ bound_by_all (trees_of (map plain (drop l.tree-index l.tree-items)))
    ≡ map plain_occurrence l.fn.bound.items ++ bound_by_all (plain_trees l.trees))
    × (row_faults l.names (trees_of (map plain (drop l.tree-index l.tree-items))) (map plain_reported l.faults.items)
    ≡ row_faults l.fn.names (plain_trees l.trees) (map plain_reported l.fn.faults.items))

abbrev pub invariant-row::check_record-loop-field : goal.invariant-row::check_record-loop-field
invariant-row::check_record-loop-field l =
    (map plain_occurrence l.bound.items
    ++ bound_by_fields (fields_of (map plain_field (drop l.field-index l.field-items)))
    ≡ map plain_occurrence l.fn.bound.items ++ bound_by_fields (plain_fields l.fields))
    × (field_faults l.names (fields_of (map plain_field (drop l.field-index l.field-items)))
    (map plain_reported l.faults.items)
    ≡ field_faults l.fn.names (plain_fields l.fields) (map plain_reported l.fn.faults.items))

abbrev pub invariant-row::check_signs-loop-sign : goal.invariant-row::check_signs-loop-sign
invariant-row::check_signs-loop-sign l =
    (l.left ≡ sides_in (signs_of (map plain_signed (drop l.sign-index l.sign-items))))
    × (map plain_occurrence l.bound.items
    ++ bound_by_signs (signs_of (map plain_signed (drop l.sign-index l.sign-items)))
    ≡ map plain_occurrence l.fn.bound.items ++ bound_by_signs (plain_signs l.signs))
    × (sign_faults l.names (signs_of (map plain_signed (drop l.sign-index l.sign-items)))
    (map plain_reported l.faults.items)
    ≡ sign_faults l.fn.names (plain_signs l.signs) (map plain_reported l.fn.faults.items))

abbrev pub invariant-alternatives::check_others-loop-tree : goal.invariant-alternatives::check_others-loop-tree
invariant-alternatives::check_others-loop-tree l =
    (map plain_occurrence l.bound.items ++ bound_by_all (trees_of (map plain (drop l.tree-index l.rest)))
    ≡ map plain_occurrence l.fn.bound.items ++ bound_by_all (trees_of (map plain l.fn.rest)))
    × (alternative_faults l.names (trees_of (map plain (drop l.tree-index l.rest))) (map plain_reported l.faults.items)
    ≡ alternative_faults l.fn.names (trees_of (map plain l.fn.rest)) (map plain_reported l.fn.faults.items))

abbrev pub invariant-turn::check_each-loop-expression : goal.invariant-turn::check_each-loop-expression
invariant-turn::check_each-loop-expression l =
    (map plain_occurrence l.plain.items
    ++ plain_of_all (regulars_of (map plain_regular (drop l.expression-index l.expression-items)))
    ≡ map plain_occurrence l.fn.plain.items ++ plain_of_all (plain_regulars l.all))
    × (map plain_occurrence l.gathered.items
    ++ gathered_of_all (regulars_of (map plain_regular (drop l.expression-index l.expression-items)))
    ≡ map plain_occurrence l.fn.gathered.items ++ gathered_of_all (plain_regulars l.all))
    × (turn_faults l.seen.all l.seen.plain
    (regulars_of (map plain_regular (drop l.expression-index l.expression-items))) (map plain_reported l.faults.items)
    ≡ turn_faults l.fn.seen.all l.fn.seen.plain (plain_regulars l.all) (map plain_reported l.fn.faults.items))

abbrev pub invariant-choice::check_others-loop-expression : goal.invariant-choice::check_others-loop-expression
invariant-choice::check_others-loop-expression l =
    (map plain_occurrence l.plain.items
    ++ plain_of_all (regulars_of (map plain_regular (drop l.expression-index l.rest)))
    ≡ map plain_occurrence l.fn.plain.items ++ plain_of_all (regulars_of (map plain_regular l.fn.rest)))
    × (map plain_occurrence l.gathered.items
    ++ gathered_of_all (regulars_of (map plain_regular (drop l.expression-index l.rest)))
    ≡ map plain_occurrence l.fn.gathered.items ++ gathered_of_all (regulars_of (map plain_regular l.fn.rest)))
    × (other_faults l.names (regulars_of (map plain_regular (drop l.expression-index l.rest)))
    (map plain_reported l.faults.items)
    ≡ other_faults l.fn.names (regulars_of (map plain_regular l.fn.rest)) (map plain_reported l.fn.faults.items))
