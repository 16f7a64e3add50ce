use Rattle.std.proofs.Common.{◌+◌, map, drop, sym, ap, ◌∙◌, arith}
use Rattle.std.proofs.lemmas.List.{at_drop_all}
use Rattle.cd_matching.specs.Pattern.{APattern, patterns_of, ARegular, regulars_of}
use Rattle.cd_matching.specs.PlainPattern.{plain, plain_field, plain_regular, fields_of}
use Rattle.cd_kernel.specs.Inner.Completed.{completed_all, completed_fields, completed_regulars}
use Rattle.cd_kernel.specs.Inner.Completed.{before_all, before_fields, before_regulars}
use Rattle.cd_kernel.proofs.BeforeOthers.{one_before_all, none_after_all, one_before_fields}
use Rattle.cd_kernel.proofs.BeforeOthers.{none_after_fields, one_before_regulars}
use Rattle.cd_kernel.proofs.BeforeOthers.{none_after_regulars, one_more}
use Rattle.cd_kernel.proofs.complete.+complete.Goals as goal

pub complete_all-loop-pattern-preserved : goal.complete_all-loop-pattern-preserved
complete_all-loop-pattern-preserved t c =
    one_more plain (λ items. completed_all (patterns_of (map plain items))) before_all
    one_before_all c.args.all.now c.loop-pattern.pattern-index c.pattern-item.result
    c.loop-pattern.made.items c.push.new.self.items c.in_ok-complete.field-0 c.pattern-item.is
    c.loop-pattern-test.true
    (ap (λ p. APattern p (completed_all (patterns_of (map plain
    (drop (c.loop-pattern.pattern-index + 1) c.args.all.now))))) (sym c.in_ok-complete.ensures))
    c.in_ok-push.ensures.items
    ∙ c.loop-pattern.invariant

pub complete_all-returns : goal.complete_all-returns
complete_all-returns t c =
    sym (none_after_all (map plain c.loop-pattern.made.items))
    ∙ ap (before_all (map plain c.loop-pattern.made.items))
    (sym (at_drop_all (λ items. completed_all (patterns_of (map plain items))) c.args.all.now
    c.loop-pattern.pattern-index (omega (arith, c.loop-pattern-test.false))))
    ∙ c.loop-pattern.invariant

pub complete_fields-loop-field-preserved : goal.complete_fields-loop-field-preserved
complete_fields-loop-field-preserved t c =
    one_more plain_field (λ items. completed_fields (fields_of (map plain_field items)))
    before_fields one_before_fields c.args.fields.now c.loop-field.field-index c.field-item.result
    c.loop-field.made.items c.push.new.self.items c.in_ok-complete_field.field-0 c.field-item.is
    c.loop-field-test.true
    (sym (c.in_ok-complete_field.ensures (fields_of (map plain_field
    (drop (c.loop-field.field-index + 1) c.args.fields.now))))) c.in_ok-push.ensures.items
    ∙ c.loop-field.invariant

pub complete_fields-returns : goal.complete_fields-returns
complete_fields-returns t c =
    sym (none_after_fields (map plain_field c.loop-field.made.items))
    ∙ ap (before_fields (map plain_field c.loop-field.made.items))
    (sym (at_drop_all (λ items. completed_fields (fields_of (map plain_field items)))
    c.args.fields.now c.loop-field.field-index (omega (arith, c.loop-field-test.false))))
    ∙ c.loop-field.invariant

pub complete_parts-loop-is-preserved : goal.complete_parts-loop-is-preserved
complete_parts-loop-is-preserved t c =
    one_more plain_regular (λ items. completed_regulars (regulars_of (map plain_regular items)))
    before_regulars one_before_regulars c.args.all.now c.loop-is.is-index c.is-item.result
    c.loop-is.made.items c.push.new.self.items c.in_ok-complete_regular.field-0 c.is-item.is
    c.loop-is-test.true
    (ap (λ r. ARegular r (completed_regulars (regulars_of (map plain_regular
    (drop (c.loop-is.is-index + 1) c.args.all.now))))) (sym c.in_ok-complete_regular.ensures))
    c.in_ok-push.ensures.items
    ∙ c.loop-is.invariant

pub complete_parts-returns : goal.complete_parts-returns
complete_parts-returns t c =
    sym (none_after_regulars (map plain_regular c.loop-is.made.items))
    ∙ ap (before_regulars (map plain_regular c.loop-is.made.items))
    (sym (at_drop_all (λ items. completed_regulars (regulars_of (map plain_regular items)))
    c.args.all.now c.loop-is.is-index (omega (arith, c.loop-is-test.false))))
    ∙ c.loop-is.invariant
