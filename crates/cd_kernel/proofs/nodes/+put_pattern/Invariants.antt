use Rattle.std.proofs.Common.{◌≡◌, false, [], drop, map}
use Rattle.cd_matching.specs.Pattern.{patterns_of, regulars_of}
use Rattle.cd_matching.specs.PlainKernel.{plain_nodes}
use Rattle.cd_matching.specs.PlainPattern.{plain, plain_field, plain_regular, fields_of}
use Rattle.cd_kernel.specs.Inner.Building.{built_all, built_fields, built_items, built_items_all}
use Rattle.cd_kernel.specs.Inner.Building.{put_copies}
use Rattle.cd_kernel.specs.Inner.PlainGroups.{plain_groups}
use Rattle.cd_kernel.specs.Inner.PlainSteps.{plain_kernel_fields}
use Rattle.cd_kernel.proofs.nodes.+put_pattern.Given as goal

-- with those that are left what is made becomes that of all
abbrev pub invariant-put_all-loop-pattern : goal.invariant-put_all-loop-pattern
invariant-put_all-loop-pattern l =
    built_all l.variables l.kept (patterns_of (map plain (drop l.pattern-index l.all)))
    l.numbers.items (plain_nodes l.nodes.items)
    ≡ built_all l.variables l.kept (patterns_of (map plain l.all)) []
    (plain_nodes l.fn.nodes.items)

abbrev pub invariant-put_fields-loop-field : goal.invariant-put_fields-loop-field
invariant-put_fields-loop-field l =
    built_fields l.variables l.kept (fields_of (map plain_field (drop l.field-index l.fields)))
    (plain_kernel_fields l.made.items) (plain_nodes l.nodes.items)
    ≡ built_fields l.variables l.kept (fields_of (map plain_field l.fields)) []
    (plain_nodes l.fn.nodes.items)

abbrev pub invariant-put_copies-loop-group : goal.invariant-put_copies-loop-group
invariant-put_copies-loop-group l =
    put_copies l.variables (plain_regular l.is)
    (built_items l.variables l.keeps (plain_regular l.is) [])
    (built_items l.variables false (plain_regular l.is) [])
    (plain_groups (drop l.group-index l.groups)) l.starts.items (plain_nodes l.nodes.items)
    ≡ put_copies l.variables (plain_regular l.is)
    (built_items l.variables l.kept (plain_regular l.is) [])
    (built_items l.variables false (plain_regular l.is) [])
    (plain_groups l.groups) [] (plain_nodes l.fn.nodes.items)

abbrev pub invariant-put_parts-loop-is : goal.invariant-put_parts-loop-is
invariant-put_parts-loop-is l =
    built_items_all l.variables l.kept (regulars_of (map plain_regular (drop l.is-index l.all)))
    l.numbers.items (plain_nodes l.nodes.items)
    ≡ built_items_all l.variables l.kept (regulars_of (map plain_regular l.all))
    l.fn.numbers.items (plain_nodes l.fn.nodes.items)
