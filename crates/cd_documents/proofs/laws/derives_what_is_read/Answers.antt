use Rattle.cd_documents.proofs.Sounding.{derived}
use Rattle.cd_documents.proofs.laws.derives_what_is_read.Goals as goal

pub returns : goal.returns
returns c = derived
