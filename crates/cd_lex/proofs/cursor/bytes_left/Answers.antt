use Rattle.std.proofs.Common.{ap, sym, length}
use Rattle.std.proofs.lemmas.Str.{encodes-chars}
use Rattle.cd_lex.proofs.cursor.bytes_left.Goals as goal

-- a text has as many bytes as its characters
pub returns : goal.returns
returns c = sym (ap length (encodes-chars c.args.text.now c.utf8.text))
