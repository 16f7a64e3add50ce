use Rattle.std.proofs.Common.{◌≡◌, drop, map}
use Rattle.cd_matching.specs.Pattern.{patterns_of, regulars_of}
use Rattle.cd_matching.specs.PlainPattern.{plain, plain_field, plain_regular, fields_of}
use Rattle.cd_kernel.specs.Inner.Gathering.{with_those_of_all, with_those_of_fields}
use Rattle.cd_kernel.specs.Inner.Gathering.{with_those_of_parts}
use Rattle.cd_kernel.proofs.names.+add_variables.Given as goal

-- with the variables of those that are left the names are those of all
abbrev pub invariant-add_of_all-loop-pattern : goal.invariant-add_of_all-loop-pattern
invariant-add_of_all-loop-pattern l =
    with_those_of_all (patterns_of (map plain (drop l.pattern-index l.all))) l.names.items
    ≡ with_those_of_all (patterns_of (map plain l.all)) l.fn.names.items

abbrev pub invariant-add_of_fields-loop-field : goal.invariant-add_of_fields-loop-field
invariant-add_of_fields-loop-field l =
    with_those_of_fields (fields_of (map plain_field (drop l.field-index l.fields))) l.names.items
    ≡ with_those_of_fields (fields_of (map plain_field l.fields)) l.fn.names.items

abbrev pub invariant-add_of_parts-loop-is : goal.invariant-add_of_parts-loop-is
invariant-add_of_parts-loop-is l =
    with_those_of_parts (regulars_of (map plain_regular (drop l.is-index l.all))) l.names.items
    ≡ with_those_of_parts (regulars_of (map plain_regular l.all)) l.fn.names.items
