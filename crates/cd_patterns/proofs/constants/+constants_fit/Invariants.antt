use Rattle.std.proofs.Common.{map, drop}
use Rattle.cd_matching.specs.Pattern.{patterns_of, regulars_of}
use Rattle.cd_matching.specs.PlainPattern.{plain, plain_field, plain_regular, fields_of}
use Rattle.cd_patterns.specs.Inner.Fitting.{ConstantsOfAllFit, ConstantsOfFieldsFit}
use Rattle.cd_patterns.specs.Inner.Fitting.{ConstantsOfPartsFit}
use Rattle.cd_patterns.proofs.constants.+constants_fit.Given as goal

-- with those that are left all fit
abbrev pub invariant-of_all_fit-loop-pattern : goal.invariant-of_all_fit-loop-pattern
invariant-of_all_fit-loop-pattern l =
    ConstantsOfAllFit (patterns_of (map plain (drop l.pattern-index l.all)))
    → ConstantsOfAllFit (patterns_of (map plain l.all))

abbrev pub invariant-of_fields_fit-loop-field : goal.invariant-of_fields_fit-loop-field
invariant-of_fields_fit-loop-field l =
    ConstantsOfFieldsFit (fields_of (map plain_field (drop l.field-index l.fields)))
    → ConstantsOfFieldsFit (fields_of (map plain_field l.fields))

abbrev pub invariant-of_parts_fit-loop-is : goal.invariant-of_parts_fit-loop-is
invariant-of_parts_fit-loop-is l =
    ConstantsOfPartsFit (regulars_of (map plain_regular (drop l.is-index l.all)))
    → ConstantsOfPartsFit (regulars_of (map plain_regular l.all))
