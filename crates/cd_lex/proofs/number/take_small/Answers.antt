use Rattle.std.proofs.Common.{arith}
use Rattle.cd_lex.proofs.Prefixing.{digits_begin, digits_go_on}
use Rattle.cd_lex.proofs.number.take_small.Goals as goal

pub loop-value-init : goal.loop-value-init
loop-value-init c =
    digits_begin c.args.first c.from-value.result c.args.cursor.now c.requires (let value = c.digit.ensures.value in let from = c.from-value.ensures in omega arith)

pub loop-value-preserved : goal.loop-value-preserved
loop-value-preserved c =
    digits_go_on _ _ _ _ _ _ _ c.loop-value.invariant c.in-Some.ensures.0 c.in-Some.ensures.1
    (let value = c.digit-in-Some.ensures.value in let from = c.from.ensures in omega arith)
