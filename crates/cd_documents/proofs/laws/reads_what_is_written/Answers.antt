use Rattle.cd_documents.proofs.Completing.{comes, reads}
use Rattle.cd_documents.proofs.laws.reads_what_is_written.Goals as goal

pub returns-clause-comes : goal.returns-clause-comes
returns-clause-comes c = λ depth most tokens more value trees is le. comes depth tokens value is most trees more le

pub returns-clause-reads : goal.returns-clause-reads
returns-clause-reads c = reads
