use Rattle.cd_documents.proofs.DataRead.{is_data}
use Rattle.cd_documents.proofs.ValuesRead.{spelled_value}
use Rattle.cd_documents.proofs.laws.documents_are_values.Goals as goal

pub returns-clause-data : goal.returns-clause-data
returns-clause-data c = is_data

pub returns-clause-sound : goal.returns-clause-sound
returns-clause-sound c = spelled_value
