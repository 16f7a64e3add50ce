use Rattle.cd_notation.proofs.GoingOn.{text_bytes}
use Rattle.std.proofs.Common.{refl}
use Rattle.cd_notation.proofs.read.read_value.Goals as goal

pub read_on-requires-clause-end : goal.read_on-requires-clause-end
read_on-requires-clause-end c = text_bytes _ _ _ c.utf8.text refl c.new-lexer.ensures.left
