use Rattle.cd_rules.proofs.FirstQuestion.{first_kept}
use Rattle.cd_rules.proofs.machine_laws.first_question_is_kept.Goals as goal

pub returns : goal.returns
returns c = record { kept = first_kept }
