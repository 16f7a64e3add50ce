use Rattle.cd_rules.proofs.RunsAreRight.{right_at_first, steps_right, steps_on}
use Rattle.cd_rules.proofs.machine_laws.steps_keep_states_right.Goals as goal

pub returns-clause-first : goal.returns-clause-first
returns-clause-first c = right_at_first

pub returns-clause-kept : goal.returns-clause-kept
returns-clause-kept c = steps_right

pub returns-clause-joined : goal.returns-clause-joined
returns-clause-joined c = steps_on
