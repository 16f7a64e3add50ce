use Rattle.cd_documents.proofs.Faulting.{too_deep}
use Rattle.cd_documents.proofs.Refusing.{wrong_document, unfinished_document}
use Rattle.cd_documents.proofs.laws.refusals_are_faults.Goals as goal

pub returns-clause-syntax : goal.returns-clause-syntax
returns-clause-syntax c = wrong_document

pub returns-clause-unfinished : goal.returns-clause-unfinished
returns-clause-unfinished c = unfinished_document

pub returns-clause-deep : goal.returns-clause-deep
returns-clause-deep c = too_deep
