use Rattle.cd_driver.proofs.NamedFiles.{named, among, unnamed}
use Rattle.cd_driver.proofs.laws.files_are_named.Goals as goal

pub returns-clause-read : goal.returns-clause-read
returns-clause-read c = named

pub returns-clause-among : goal.returns-clause-among
returns-clause-among c = among

pub returns-clause-unread : goal.returns-clause-unread
returns-clause-unread c = unnamed
