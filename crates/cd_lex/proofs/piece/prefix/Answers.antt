use Rattle.std.proofs.Common.{refl}
use Rattle.std.proofs.lemmas.Result.{IfOk-weaker}
use Rattle.cd_lex.proofs.piece.prefix.Goals as goal

pub returns-then-begins_number-clause-piece : goal.returns-then-begins_number-clause-piece
returns-then-begins_number-clause-piece c = IfOk-weaker c.number.result _ _ (λ piece stands. (stands c.args.buffer.now).0 c.args.joined refl) c.number.ensures.piece
