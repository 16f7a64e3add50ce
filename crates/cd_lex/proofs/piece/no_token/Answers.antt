use Rattle.cd_lex.proofs.PiecePrefixes.{no_sign}
use Rattle.cd_lex.proofs.piece.no_token.Goals as goal

pub returns : goal.returns
returns c = λ joined. no_sign joined c.args.at c.args.c c.args.cursor.now c.requires.other
    c.requires.number c.requires.backquote (c.requires.sign c.requires.parenthesis c.requires.minus)
