use Rattle.std.proofs.Common.{◌+◌, ◌*◌, ◌∷◌, sym, arith, ap}
use Rattle.cd_lex.specs.Inner.Prefixes.{first_digits, after_digits}
use Rattle.cd_lex.specs.Inner.Number.{number_after}
use Rattle.cd_lex.proofs.Prefixing.{digits_begin, digits_go_on, one_digit_more, first_and_more}
use Rattle.cd_lex.proofs.Quoting.{no_scalar}
use Rattle.cd_lex.proofs.quoted.code.Goals as goal
use Rattle.cd_lex.proofs.quoted.code.Goals.{then-count-gt7-via-then-count-gt7, then-count-gt7-via-else-count-gt7+then-value-gt1114111}

pub loop-c-init : goal.loop-c-init
loop-c-init c =
    let small = c.digit-value.ensures.small in (
      digits_begin c.args.first c.digit-value.result c.args.cursor.now c.requires c.digit-value.ensures.value,
      sym (first_and_more c.args.first c.args.cursor.now c.requires),
      omega arith,
      omega arith,
    )

pub returns-then-count-gt7-clause-value : goal.returns-then-count-gt7-clause-value
returns-then-count-gt7-clause-value c = λ is.
    let at = c.in-Some.ensures in
    let counted = c.loop-c.invariant.1 in
    let more = one_digit_more c.loop-c.count c.in-Some.c c.loop-c.cursor c.take_digit.new.self at.0 at.1 in
    let few = is.0 in
    elim c.then-count-gt7.branch [
      | then-count-gt7-via-then-count-gt7 w ↦ let past = w.if-count-gt7.true in omega arith
      | then-count-gt7-via-else-count-gt7+then-value-gt1114111 w ↦
          let so = digits_go_on (number_after 0 (first_digits (c.args.first ∷ c.args.cursor.now))) (after_digits (c.args.first ∷ c.args.cursor.now)) c.loop-c.value
          (c.loop-c.value * 10 + c.digit.result) c.in-Some.c c.loop-c.cursor c.take_digit.new.self c.loop-c.invariant.0 at.0 at.1 (ap (λ d. c.loop-c.value * 10 + d) c.digit.ensures.value) in
          no_scalar (c.loop-c.value * 10 + c.digit.result) (first_digits c.take_digit.new.self) _ w.if-value-gt1114111.true so.0 is.1
    ]

pub loop-c-preserved : goal.loop-c-preserved
loop-c-preserved c =
    let at = c.in-Some.ensures in
    let counted = c.loop-c.invariant.1 in
    let more = one_digit_more c.loop-c.count c.in-Some.c c.loop-c.cursor c.take_digit.new.self at.0 at.1 in (
      digits_go_on (number_after 0 (first_digits (c.args.first ∷ c.args.cursor.now))) (after_digits (c.args.first ∷ c.args.cursor.now)) c.loop-c.value
          (c.loop-c.value * 10 + c.digit.result) c.in-Some.c c.loop-c.cursor c.take_digit.new.self c.loop-c.invariant.0 at.0 at.1 (ap (λ d. c.loop-c.value * 10 + d) c.digit.ensures.value),
      omega arith,
      c.if-count-gt7.false,
      c.if-value-gt1114111.false,
    )
