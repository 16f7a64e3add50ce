use Rattle.std.proofs.Common.{◌∷◌}
use Rattle.cd_lex.proofs.WordPrefixes.{numeral_prefix, numeral_fault}
use Rattle.cd_lex.proofs.piece.number.Goals as goal

pub returns-in-Some-clause-piece : goal.returns-in-Some-clause-piece
returns-in-Some-clause-piece c = λ characters. numeral_prefix c.args.negative (c.args.c ∷ c.args.cursor.now) _ _ c.requires c.in-Some.ensures.value c.in-Some.ensures.rest

pub returns-in-None-clause-fault : goal.returns-in-None-clause-fault
returns-in-None-clause-fault c = numeral_fault c.args.negative c.args.at (c.args.c ∷ c.args.cursor.now) c.requires c.in-None.ensures.value
