use Rattle.std.proofs.Common.{◌++◌, map}
use Rattle.cd_rules.proofs.QuestionsOnce.{in_neither}
use Rattle.cd_rules.proofs.machine_laws.questions_are_new.Goals as goal

pub returns : goal.returns
returns c = λ settled now question not_settled not_listed no_witness.
    in_neither (settled ++ now.list) (map (λ witness. witness.0) now.witnesses) question
    (in_neither settled now.list question not_settled not_listed) no_witness
