use Rattle.std.proofs.Common.{◌∙◌, sym}
use Rattle.cd_lex.proofs.SignPrefixes.{to_stands}
use Rattle.cd_lex.proofs.signs.after_minus.Goals as goal

pub returns : goal.returns
returns c = to_stands _ _ _ _ (sym c.if-take_this.ensures.0 ∙ c.if-not-take_this.ensures) c.either.ensures
