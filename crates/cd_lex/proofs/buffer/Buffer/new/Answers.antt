use Rattle.std.proofs.lemmas.Str.{chars-nil}
use Rattle.cd_lex.proofs.buffer.Buffer.new.Goals as goal

pub returns : goal.returns
returns c = chars-nil
