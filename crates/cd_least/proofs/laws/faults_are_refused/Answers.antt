use Rattle.cd_least.proofs.ProgramRefuted.{program_refuted}
use Rattle.cd_least.proofs.Refuted.{refuted}
use Rattle.cd_least.proofs.laws.faults_are_refused.Goals as goal

pub returns-clause-expression : goal.returns-clause-expression
returns-clause-expression c scope e types at reported d fault t has = refuted scope e types at reported d fault t has

pub returns-clause-program : goal.returns-clause-program
returns-clause-program c = program_refuted
