use Rattle.std.proofs.Common.{subst, sym, ◌∷◌}
use Rattle.cd_syntax.specs.declared.sign.Sign.TheVariants as sign
use Rattle.cd_syntax.specs.declared.tokens.TokenKind.TheVariants.{Sign}
use Rattle.cd_lex.specs.Inner.Standing.{IsTokenTo}
use Rattle.cd_lex.proofs.PiecePrefixes.{parenthesis_stands, comment_closes, comment_ends}
use Rattle.cd_lex.proofs.piece.parenthesis.Goals as goal

pub returns-then-not-take_this-clause-piece : goal.returns-then-not-take_this-clause-piece
returns-then-not-take_this-clause-piece c = λ joined characters.
    subst (IsTokenTo joined (40 ∷ c.args.cursor.now) (Sign sign.OpenParenthesis)) (sym c.if-not-take_this.ensures.0)
    (parenthesis_stands joined c.args.cursor.now c.if-not-take_this.ensures.1)

pub returns-then-not-close_comment-clause-fault : goal.returns-then-not-close_comment-clause-fault
returns-then-not-close_comment-clause-fault c = λ joined. comment_ends joined c.args.at _ _ c.if-not-take_this.ensures c.if-not-close_comment.ensures

pub returns-clause-piece : goal.returns-clause-piece
returns-clause-piece c = λ joined characters. comment_closes _ _ _ c.if-not-take_this.ensures c.if-not-close_comment.ensures
