use Rattle.std.proofs.Common.{arith}
use Rattle.cd_lex.proofs.Prefixing.{digits_go_on, too_wide}
use Rattle.cd_lex.proofs.number.read_more_digits.Goals as goal

pub returns-then-value-gt17014118346046923173168730371588410572-clause-value : goal.returns-then-value-gt17014118346046923173168730371588410572-clause-value
returns-then-value-gt17014118346046923173168730371588410572-clause-value c =
    too_wide _ _ _ _ _ _ c.loop-c.invariant c.in-Some.ensures.0 c.in-Some.ensures.1 c.if-value-gt17014118346046923173168730371588410572.true

pub loop-c-preserved : goal.loop-c-preserved
loop-c-preserved c =
    digits_go_on _ _ _ _ _ _ _ c.loop-c.invariant c.in-Some.ensures.0 c.in-Some.ensures.1
    (let value = c.digit.ensures.value in let from = c.from.ensures in omega arith)
