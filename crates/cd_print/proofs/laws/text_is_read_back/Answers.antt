use Rattle.cd_print.proofs.ReadBack.{read_back}
use Rattle.cd_print.proofs.laws.text_is_read_back.Goals as goal

pub returns : goal.returns
returns c = read_back
