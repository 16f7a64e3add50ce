use Rattle.std.proofs.Common.{◌≡◌, ◌+◌, [], ◌∷◌, true, map, take, drop, suc}
use Rattle.cd_syntax.specs.TypeTree.{trees_of, signs_of, fields_of, regulars_of, declarations_of}
use Rattle.cd_syntax.specs.PlainTree.{plain, plain_kind, plain_trees, plain_signed, plain_signs, plain_field}
use Rattle.cd_syntax.specs.PlainTree.{plain_fields, plain_declaration, plain_declarations, plain_regular}
use Rattle.cd_syntax.specs.PlainTree.{plain_regular_kind, plain_regulars, plain_rest}
use Rattle.cd_regex.specs.PlainRegular.{plain as plain_reg}
use Rattle.cd_graph.specs.PlainFormula.{plain_named}
use Rattle.cd_shared.specs.Equation.{plain_equations}
use Rattle.cd_resolve.specs.Inner.Walk.{walked_trees, walked_signs, walked_fields, walked_regulars, walked_declared}
use Rattle.cd_resolve.specs.Inner.Finding.{innermost, found_in_trees, found_in_signs, found_in_fields}
use Rattle.cd_resolve.specs.Inner.Finding.{found_in_declared, found_in_regulars}
use Rattle.cd_resolve.specs.Inner.NamesDeclared.{names_in}
use Rattle.cd_resolve.specs.Inner.PlainBase.{names_outside, lists_seen}
use Rattle.cd_resolve.specs.Inner.PlainFound.{plain_found, plain_start}
use Rattle.cd_resolve.specs.Inner.PlainState.{plain_levels}
use Rattle.cd_resolve.proofs.Sizes.{size, size_kind, size_trees, size_signs, size_fields, size_declarations}
use Rattle.cd_resolve.proofs.Sizes.{size_regular, size_regular_kind, size_regulars, size_rest}
use Rattle.cd_resolve.proofs.+walk.Given as goal

abbrev pub decreases-walk::walk : goal.decreases-walk::walk
decreases-walk::walk l = size (plain l.tree.now)

abbrev pub decreases-walk::walk_kind : goal.decreases-walk::walk_kind
decreases-walk::walk_kind l = size_kind (plain_kind l.kind.now)

abbrev pub decreases-walk::walk_chain : goal.decreases-walk::walk_chain
decreases-walk::walk_chain l = suc (size_trees (plain_trees l.trees.now))

abbrev pub decreases-walk::walk_union : goal.decreases-walk::walk_union
decreases-walk::walk_union l = suc (size_trees (plain_trees l.trees.now))

abbrev pub decreases-walk::walk_trees : goal.decreases-walk::walk_trees
decreases-walk::walk_trees l = size_trees (plain_trees l.trees.now)

abbrev pub decreases-walk::walk_signs : goal.decreases-walk::walk_signs
decreases-walk::walk_signs l = size_signs (plain_signs l.signs.now)

abbrev pub decreases-record::walk_fields : goal.decreases-record::walk_fields
decreases-record::walk_fields l = size_fields (plain_fields l.fields.now)

abbrev pub decreases-walk::walk_meet : goal.decreases-walk::walk_meet
decreases-walk::walk_meet l = suc (size (plain l.first.now) + size_signs (plain_signs l.signs.now))

abbrev pub decreases-walk::walk_xml : goal.decreases-walk::walk_xml
decreases-walk::walk_xml l = suc (size (plain l.tag.now) + size (plain l.attributes.now) + size (plain l.content.now))

abbrev pub decreases-record::walk_record : goal.decreases-record::walk_record
decreases-record::walk_record l = suc (size_fields (plain_fields l.fields.now) + size_rest (plain_rest l.rest.now))

abbrev pub decreases-record::walk_rest : goal.decreases-record::walk_rest
decreases-record::walk_rest l = size_rest (plain_rest l.rest.now)

abbrev pub decreases-declare::walk_where : goal.decreases-declare::walk_where
decreases-declare::walk_where l =
    suc (suc (size (plain l.body.now) + size_declarations (plain_declarations l.declarations.now)))

abbrev pub decreases-declare::walk_under : goal.decreases-declare::walk_under
decreases-declare::walk_under l = suc (size_declarations (plain_declarations l.declarations.now))

abbrev pub decreases-declare::walk_declared : goal.decreases-declare::walk_declared
decreases-declare::walk_declared l = size_declarations (plain_declarations l.level.now.declarations.now)

abbrev pub decreases-sequence::walk_sequence : goal.decreases-sequence::walk_sequence
decreases-sequence::walk_sequence l = suc (size_regular (plain_regular l.expression.now))

abbrev pub decreases-sequence::walk_regular : goal.decreases-sequence::walk_regular
decreases-sequence::walk_regular l = size_regular (plain_regular l.expression.now)

abbrev pub decreases-sequence::walk_regular_kind : goal.decreases-sequence::walk_regular_kind
decreases-sequence::walk_regular_kind l = size_regular_kind (plain_regular_kind l.kind.now)

abbrev pub decreases-sequence::walk_capture : goal.decreases-sequence::walk_capture
decreases-sequence::walk_capture l = suc (size_regular (plain_regular l.inner.now))

abbrev pub decreases-sequence::walk_regulars : goal.decreases-sequence::walk_regulars
decreases-sequence::walk_regulars l = size_regulars (plain_regulars l.all.now)

-- to go on from here gives what the whole gives from the start
abbrev pub invariant-walk::walk_trees-loop-tree : goal.invariant-walk::walk_trees-loop-tree
invariant-walk::walk_trees-loop-tree l =
    (found_in_trees innermost (lists_seen l.base l.levels) (plain_start l.start)
    (trees_of (map plain (drop l.tree-index l.tree-items))) (plain_found l.found)
    ≡ found_in_trees innermost (lists_seen l.base l.levels) (plain_start l.start) (plain_trees l.trees)
    (plain_found l.fn.found))
    × (walked_trees l.base.first (names_outside l.base) (plain_levels l.levels)
    (trees_of (map plain (drop l.tree-index l.tree-items))) l.made.items (plain_equations l.state.equations.items)
    ≡ walked_trees l.base.first (names_outside l.base) (plain_levels l.levels) (plain_trees l.trees) []
    (plain_equations l.fn.state.equations.items))

abbrev pub invariant-walk::walk_signs-loop-sign : goal.invariant-walk::walk_signs-loop-sign
invariant-walk::walk_signs-loop-sign l =
    (found_in_signs innermost (lists_seen l.base l.levels) (plain_start l.start)
    (signs_of (map plain_signed (drop l.sign-index l.sign-items))) (plain_found l.found)
    ≡ found_in_signs innermost (lists_seen l.base l.levels) (plain_start l.start) (plain_signs l.signs)
    (plain_found l.fn.found))
    × (walked_signs l.base.first (names_outside l.base) (plain_levels l.levels)
    (signs_of (map plain_signed (drop l.sign-index l.sign-items))) l.made.items
    (plain_equations l.state.equations.items)
    ≡ walked_signs l.base.first (names_outside l.base) (plain_levels l.levels) (plain_signs l.signs)
    ((true, l.fn.first) ∷ []) (plain_equations l.fn.state.equations.items))

abbrev pub invariant-record::walk_fields-loop-field : goal.invariant-record::walk_fields-loop-field
invariant-record::walk_fields-loop-field l =
    (found_in_fields innermost (lists_seen l.base l.levels)
    (fields_of (map plain_field (drop l.field-index l.field-items))) (plain_found l.found)
    ≡ found_in_fields innermost (lists_seen l.base l.levels) (plain_fields l.fields) (plain_found l.fn.found))
    × (walked_fields l.base.first (names_outside l.base) (plain_levels l.levels)
    (fields_of (map plain_field (drop l.field-index l.field-items))) (plain_named l.made.items)
    (plain_equations l.state.equations.items)
    ≡ walked_fields l.base.first (names_outside l.base) (plain_levels l.levels) (plain_fields l.fields) []
    (plain_equations l.fn.state.equations.items))

abbrev pub invariant-sequence::walk_regulars-loop-expression : goal.invariant-sequence::walk_regulars-loop-expression
invariant-sequence::walk_regulars-loop-expression l =
    (found_in_regulars innermost (lists_seen l.base l.levels)
    (regulars_of (map plain_regular (drop l.expression-index l.expression-items))) (plain_found l.found)
    ≡ found_in_regulars innermost (lists_seen l.base l.levels) (plain_regulars l.all) (plain_found l.fn.found))
    × (walked_regulars l.base.first (names_outside l.base) (plain_levels l.levels)
    (regulars_of (map plain_regular (drop l.expression-index l.expression-items))) (map plain_reg l.made.items)
    (plain_equations l.state.equations.items)
    ≡ walked_regulars l.base.first (names_outside l.base) (plain_levels l.levels) (plain_regulars l.all) []
    (plain_equations l.fn.state.equations.items))

-- those that are seen are the names of the declarations before
abbrev pub invariant-declare::walk_declared-loop-place : goal.invariant-declare::walk_declared-loop-place
invariant-declare::walk_declared-loop-place l =
    (found_in_declared innermost (lists_seen l.base l.levels) l.level.list
    (take l.place (names_in (plain_declarations l.level.declarations.now)))
    (declarations_of (map plain_declaration (drop l.place l.items))) (plain_found l.found)
    ≡ found_in_declared innermost (lists_seen l.base l.levels) l.level.list []
    (plain_declarations l.level.declarations.now) (plain_found l.fn.found))
    × (walked_declared l.base.first (names_outside l.base) (plain_levels l.levels) l.number
    (declarations_of (map plain_declaration (drop l.place l.items))) (plain_equations l.state.equations.items)
    ≡ walked_declared l.base.first (names_outside l.base) (plain_levels l.levels) l.fn.from
    (plain_declarations l.level.declarations.now) (plain_equations l.fn.state.equations.items))
