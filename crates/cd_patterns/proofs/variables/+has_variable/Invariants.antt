use Rattle.std.proofs.Common.{◌≡◌, map, drop}
use Rattle.cd_syntax.specs.TypeTree.{trees_of, signs_of, fields_of, declarations_of, regulars_of}
use Rattle.cd_syntax.specs.PlainTree.{plain, plain_kind, plain_trees, plain_signed, plain_signs}
use Rattle.cd_syntax.specs.PlainTree.{plain_field}
use Rattle.cd_syntax.specs.PlainTree.{plain_fields, plain_declaration, plain_declarations}
use Rattle.cd_syntax.specs.PlainTree.{plain_regular}
use Rattle.cd_syntax.specs.PlainTree.{plain_regular_kind, plain_regulars, plain_rest}
use Rattle.cd_matching.specs.WrittenPattern.{trees_have, signs_have, fields_have, declarations_have}
use Rattle.cd_matching.specs.WrittenPattern.{regulars_have}
use Rattle.cd_resolve.proofs.Sizes.{size, size_kind, size_trees, size_signs, size_fields}
use Rattle.cd_resolve.proofs.Sizes.{size_declarations}
use Rattle.cd_resolve.proofs.Sizes.{size_regular, size_regular_kind, size_regulars, size_rest}
use Rattle.cd_patterns.proofs.variables.+has_variable.Given as goal

abbrev pub decreases-has_variable : goal.decreases-has_variable
decreases-has_variable l = size (plain l.tree.now)

abbrev pub decreases-kind_has : goal.decreases-kind_has
decreases-kind_has l = size_kind (plain_kind l.kind.now)

abbrev pub decreases-trees_have : goal.decreases-trees_have
decreases-trees_have l = size_trees (plain_trees l.trees.now)

abbrev pub decreases-signs_have : goal.decreases-signs_have
decreases-signs_have l = size_signs (plain_signs l.signs.now)

abbrev pub decreases-fields_have : goal.decreases-fields_have
decreases-fields_have l = size_fields (plain_fields l.fields.now)

abbrev pub decreases-rest_has : goal.decreases-rest_has
decreases-rest_has l = size_rest (plain_rest l.rest.now)

abbrev pub decreases-declarations_have : goal.decreases-declarations_have
decreases-declarations_have l = size_declarations (plain_declarations l.declarations.now)

abbrev pub decreases-regular_has : goal.decreases-regular_has
decreases-regular_has l = size_regular (plain_regular l.expression.now)

abbrev pub decreases-regular_kind_has : goal.decreases-regular_kind_has
decreases-regular_kind_has l = size_regular_kind (plain_regular_kind l.kind.now)

abbrev pub decreases-regulars_have : goal.decreases-regulars_have
decreases-regulars_have l = size_regulars (plain_regulars l.all.now)

-- what is left has a variable where all have one
abbrev pub invariant-trees_have-loop-tree : goal.invariant-trees_have-loop-tree
invariant-trees_have-loop-tree l =
    trees_have (trees_of (map plain (drop l.tree-index l.tree-items))) ≡ trees_have
    (plain_trees l.trees)

abbrev pub invariant-signs_have-loop-sign : goal.invariant-signs_have-loop-sign
invariant-signs_have-loop-sign l =
    signs_have (signs_of (map plain_signed (drop l.sign-index l.sign-items))) ≡ signs_have
    (plain_signs l.signs)

abbrev pub invariant-fields_have-loop-field : goal.invariant-fields_have-loop-field
invariant-fields_have-loop-field l =
    fields_have (fields_of (map plain_field (drop l.field-index l.field-items))) ≡ fields_have
    (plain_fields l.fields)

abbrev pub invariant-declarations_have-loop-declaration
    : goal.invariant-declarations_have-loop-declaration
invariant-declarations_have-loop-declaration l =
    declarations_have
    (declarations_of (map plain_declaration (drop l.declaration-index l.declaration-items)))
    ≡ declarations_have (plain_declarations l.declarations)

abbrev pub invariant-regulars_have-loop-expression : goal.invariant-regulars_have-loop-expression
invariant-regulars_have-loop-expression l =
    regulars_have (regulars_of (map plain_regular (drop l.expression-index l.expression-items)))
    ≡ regulars_have (plain_regulars l.all)
