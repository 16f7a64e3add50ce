use Rattle.cd_lex.proofs.Deciding.{decided}
use Rattle.cd_lex.proofs.laws.reading_is_decided.Goals as goal

-- src/laws.rt:17:1
pub returns : goal.returns
returns c = decided
