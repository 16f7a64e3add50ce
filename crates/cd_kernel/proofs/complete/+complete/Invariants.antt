use Rattle.std.proofs.Common.{◌≡◌, drop, map}
use Rattle.cd_matching.specs.Pattern.{patterns_of, regulars_of}
use Rattle.cd_matching.specs.PlainPattern.{plain, plain_field, plain_regular, fields_of}
use Rattle.cd_kernel.specs.Inner.Completed.{completed_all, completed_fields, completed_regulars}
use Rattle.cd_kernel.specs.Inner.Completed.{before_all, before_fields, before_regulars}
use Rattle.cd_kernel.proofs.complete.+complete.Given as goal

-- what is made so far, before what is to be made of those that are left, is the whole
abbrev pub invariant-complete_all-loop-pattern : goal.invariant-complete_all-loop-pattern
invariant-complete_all-loop-pattern l =
    before_all (map plain l.made.items)
    (completed_all (patterns_of (map plain (drop l.pattern-index l.all))))
    ≡ completed_all (patterns_of (map plain l.all))

abbrev pub invariant-complete_fields-loop-field : goal.invariant-complete_fields-loop-field
invariant-complete_fields-loop-field l =
    before_fields (map plain_field l.made.items)
    (completed_fields (fields_of (map plain_field (drop l.field-index l.fields))))
    ≡ completed_fields (fields_of (map plain_field l.fields))

abbrev pub invariant-complete_parts-loop-is : goal.invariant-complete_parts-loop-is
invariant-complete_parts-loop-is l =
    before_regulars (map plain_regular l.made.items)
    (completed_regulars (regulars_of (map plain_regular (drop l.is-index l.all))))
    ≡ completed_regulars (regulars_of (map plain_regular l.all))
