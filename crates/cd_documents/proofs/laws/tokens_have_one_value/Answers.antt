use Rattle.cd_documents.proofs.OneValue.{one_value}
use Rattle.cd_documents.proofs.laws.tokens_have_one_value.Goals as goal

pub returns : goal.returns
returns c = one_value
