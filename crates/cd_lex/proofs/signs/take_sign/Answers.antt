use Rattle.cd_lex.proofs.PiecePrefixes.{sign_taken, parenthesis_taken}
use Rattle.cd_lex.proofs.signs.take_sign.Goals as goal

pub returns : goal.returns
returns c = sign_taken _ _ _ _ c.if-first-eq40.false c.if-first-eq45.false c.read_sign.ensures

pub returns-then-first-eq40 : goal.returns-then-first-eq40
returns-then-first-eq40 c =
    parenthesis_taken _ _ _ c.if-first-eq40.true c.open_parenthesis.ensures
