use Rattle.cd_lex.proofs.Hexadecimals.{hexadecimal_too_wide, none_wide}
use Rattle.cd_lex.proofs.number.read_hexadecimal.Goals as goal

pub returns-in_err-value-clause-value : goal.returns-in_err-value-clause-value
returns-in_err-value-clause-value c =
    none_wide _ _ c.from_residual.ensures
    (hexadecimal_too_wide _ _ _ _ _ _ c.loop-c.invariant c.in-Some.ensures.0 c.in-Some.ensures.1
    c.in_err-value.ensures)
