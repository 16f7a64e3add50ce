use Rattle.std.proofs.Common.{subst}
use Rattle.cd_lex.specs.Inner.Prefixes.{BeginsWithOther}
use Rattle.cd_lex.proofs.PiecePrefixes.{parenthesis_stands}
use Rattle.cd_lex.proofs.signs.open_parenthesis.Goals as goal

pub returns : goal.returns
returns c = λ joined. parenthesis_stands joined c.args.cursor.now
    (subst (BeginsWithOther 42) c.again.ensures c.if-take_this.ensures.1)
