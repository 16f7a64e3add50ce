use Rattle.std.proofs.Common.{◌≡◌, ◌++◌}
use Rattle.cd_rules.proofs.NoMember.{element_out}
use Rattle.cd_rules.proofs.Subsumption.{subsumes_own}
use Rattle.cd_model.proofs.Ones.{one_on_right}
use Rattle.cd_rules.proofs.FramesKept.{closed_at_last}
use Rattle.cd_rules.proofs.QuestionsOnce.{once_again}
use Rattle.cd_rules.proofs.RunsAreRight.{right_at_first}
use Rattle.cd_rules.proofs.machine_laws.ends_are_closed.Goals as goal

pub returns-clause-closed : goal.returns-clause-closed
returns-clause-closed c = λ graph settled list witnesses closed right. closed_at_last graph settled list closed right.frames

pub returns-clause-empty : goal.returns-clause-empty
returns-clause-empty c = λ graph more settled list witnesses question e begins closed right there element asking.
    element_out graph (more, begins) (settled ++ list) (closed_at_last graph settled list closed right.frames) e element question asking
    (subsumes_own (settled ++ list) question (one_on_right (λ other. other ≡ question) settled list there))

pub returns-clause-asks : goal.returns-clause-asks
returns-clause-asks c = λ graph settled list witnesses right. right.asks

pub returns-clause-again : goal.returns-clause-again
returns-clause-again c = λ graph settled list witnesses right.
    right_at_first graph (settled ++ list) witnesses right.witnesses (once_again settled list witnesses right.once)
