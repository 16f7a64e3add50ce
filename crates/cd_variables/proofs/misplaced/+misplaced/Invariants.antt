use Rattle.std.proofs.Common.{◌≡◌, map, drop}
use Rattle.cd_syntax.specs.TypeTree.{trees_of, signs_of, fields_of, regulars_of, declarations_of}
use Rattle.cd_syntax.specs.PlainTree.{plain, plain_kind, plain_trees, plain_signed, plain_signs, plain_field}
use Rattle.cd_syntax.specs.PlainTree.{plain_fields, plain_declaration, plain_declarations, plain_regular}
use Rattle.cd_syntax.specs.PlainTree.{plain_regular_kind, plain_regulars, plain_rest}
use Rattle.cd_variables.specs.FindingMisplaced.{misplaced_in_trees, misplaced_in_signs, misplaced_in_fields}
use Rattle.cd_variables.specs.FindingMisplaced.{misplaced_in_declarations, misplaced_in_regulars}
use Rattle.cd_resolve.specs.PlainReported.{plain_reported}
use Rattle.cd_resolve.proofs.Sizes.{size, size_kind, size_trees, size_signs, size_fields, size_declarations}
use Rattle.cd_resolve.proofs.Sizes.{size_regular, size_regular_kind, size_regulars, size_rest}
use Rattle.cd_variables.proofs.misplaced.+misplaced.Given as goal

abbrev pub decreases-report_misplaced : goal.decreases-report_misplaced
decreases-report_misplaced l = size (plain l.tree.now)

abbrev pub decreases-report_in_kind : goal.decreases-report_in_kind
decreases-report_in_kind l = size_kind (plain_kind l.kind.now)

abbrev pub decreases-report_in_trees : goal.decreases-report_in_trees
decreases-report_in_trees l = size_trees (plain_trees l.trees.now)

abbrev pub decreases-report_in_signs : goal.decreases-report_in_signs
decreases-report_in_signs l = size_signs (plain_signs l.signs.now)

abbrev pub decreases-report_in_fields : goal.decreases-report_in_fields
decreases-report_in_fields l = size_fields (plain_fields l.fields.now)

abbrev pub decreases-report_in_rest : goal.decreases-report_in_rest
decreases-report_in_rest l = size_rest (plain_rest l.rest.now)

abbrev pub decreases-report_in_declarations : goal.decreases-report_in_declarations
decreases-report_in_declarations l = size_declarations (plain_declarations l.declarations.now)

abbrev pub decreases-report_in_regular : goal.decreases-report_in_regular
decreases-report_in_regular l = size_regular (plain_regular l.expression.now)

abbrev pub decreases-report_in_regular_kind : goal.decreases-report_in_regular_kind
decreases-report_in_regular_kind l = size_regular_kind (plain_regular_kind l.kind.now)

abbrev pub decreases-report_in_regulars : goal.decreases-report_in_regulars
decreases-report_in_regulars l = size_regulars (plain_regulars l.all.now)

-- to go on from here gives what the whole gives from the start
abbrev pub invariant-report_in_trees-loop-tree : goal.invariant-report_in_trees-loop-tree
invariant-report_in_trees-loop-tree l =
    misplaced_in_trees (trees_of (map plain (drop l.tree-index l.tree-items)))
    (map plain_reported l.faults.items)
    ≡ misplaced_in_trees (plain_trees l.trees) (map plain_reported l.fn.faults.items)

abbrev pub invariant-report_in_signs-loop-sign : goal.invariant-report_in_signs-loop-sign
invariant-report_in_signs-loop-sign l =
    misplaced_in_signs (signs_of (map plain_signed (drop l.sign-index l.sign-items)))
    (map plain_reported l.faults.items)
    ≡ misplaced_in_signs (plain_signs l.signs) (map plain_reported l.fn.faults.items)

abbrev pub invariant-report_in_fields-loop-field : goal.invariant-report_in_fields-loop-field
invariant-report_in_fields-loop-field l =
    misplaced_in_fields (fields_of (map plain_field (drop l.field-index l.field-items)))
    (map plain_reported l.faults.items)
    ≡ misplaced_in_fields (plain_fields l.fields) (map plain_reported l.fn.faults.items)

abbrev pub invariant-report_in_declarations-loop-declaration : goal.invariant-report_in_declarations-loop-declaration
invariant-report_in_declarations-loop-declaration l =
    misplaced_in_declarations
    (declarations_of (map plain_declaration (drop l.declaration-index l.declaration-items)))
    (map plain_reported l.faults.items)
    ≡ misplaced_in_declarations (plain_declarations l.declarations)
    (map plain_reported l.fn.faults.items)

abbrev pub invariant-report_in_regulars-loop-expression : goal.invariant-report_in_regulars-loop-expression
invariant-report_in_regulars-loop-expression l =
    misplaced_in_regulars
    (regulars_of (map plain_regular (drop l.expression-index l.expression-items)))
    (map plain_reported l.faults.items)
    ≡ misplaced_in_regulars (plain_regulars l.all) (map plain_reported l.fn.faults.items)
