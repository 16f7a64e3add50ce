use Rattle.cd_documents.proofs.Ending.{each_ends}
use Rattle.cd_documents.proofs.laws.each_state_ends.Goals as goal

pub returns : goal.returns
returns c = each_ends
