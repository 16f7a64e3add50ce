use Rattle.std.proofs.Common.{map, arith}
use Rattle.cd_matching.specs.Pattern.{patterns_of, regulars_of}
use Rattle.cd_matching.specs.PlainPattern.{plain, plain_field, plain_regular, fields_of}
use Rattle.cd_patterns.specs.Inner.Fitting.{ConstantsOfAllFit, ConstantsOfFieldsFit}
use Rattle.cd_patterns.specs.Inner.Fitting.{ConstantsOfPartsFit}
use Rattle.cd_patterns.proofs.RowsFit.{one_more_holds, none_left_holds}
use Rattle.cd_patterns.proofs.constants.+constants_fit.Goals as goal

pub of_all_fit-loop-pattern-preserved : goal.of_all_fit-loop-pattern-preserved
of_all_fit-loop-pattern-preserved t c = λ rest. c.loop-pattern.invariant
    (one_more_holds (λ items. patterns_of (map plain items)) ConstantsOfAllFit c.args.all.now
    c.loop-pattern.pattern-index c.pattern-item.result c.pattern-item.is c.loop-pattern-test.true
    (c.constants_fit.ensures, rest))

pub of_all_fit-returns : goal.of_all_fit-returns
of_all_fit-returns t c = c.loop-pattern.invariant
    (none_left_holds (λ items. patterns_of (map plain items)) ConstantsOfAllFit c.args.all.now
    c.loop-pattern.pattern-index (omega (arith, c.loop-pattern-test.false)) tt)

pub of_fields_fit-loop-field-preserved : goal.of_fields_fit-loop-field-preserved
of_fields_fit-loop-field-preserved t c = λ rest. c.loop-field.invariant
    (one_more_holds (λ items. fields_of (map plain_field items)) ConstantsOfFieldsFit
    c.args.fields.now c.loop-field.field-index c.field-item.result c.field-item.is
    c.loop-field-test.true (c.of_field_fit.ensures _ rest))

pub of_fields_fit-returns : goal.of_fields_fit-returns
of_fields_fit-returns t c = c.loop-field.invariant
    (none_left_holds (λ items. fields_of (map plain_field items)) ConstantsOfFieldsFit
    c.args.fields.now c.loop-field.field-index (omega (arith, c.loop-field-test.false)) tt)

pub of_parts_fit-loop-is-preserved : goal.of_parts_fit-loop-is-preserved
of_parts_fit-loop-is-preserved t c = λ rest. c.loop-is.invariant
    (one_more_holds (λ items. regulars_of (map plain_regular items)) ConstantsOfPartsFit
    c.args.all.now c.loop-is.is-index c.is-item.result c.is-item.is c.loop-is-test.true
    (c.of_items_fit.ensures, rest))

pub of_parts_fit-returns : goal.of_parts_fit-returns
of_parts_fit-returns t c = c.loop-is.invariant
    (none_left_holds (λ items. regulars_of (map plain_regular items)) ConstantsOfPartsFit
    c.args.all.now c.loop-is.is-index (omega (arith, c.loop-is-test.false)) tt)
