use Rattle.cd_documents.proofs.Faulting.{open_brackets}
use Rattle.cd_documents.proofs.laws.open_forms_are_brackets.Goals as goal

pub returns : goal.returns
returns c = open_brackets
