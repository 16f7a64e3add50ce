use Rattle.cd_safety.proofs.Examples.{identity_is_accepted, identity_is_main}
use Rattle.cd_safety.proofs.laws.a_program_is_accepted.Goals as goal

pub returns-clause-accepted : goal.returns-clause-accepted
returns-clause-accepted c = identity_is_accepted

pub returns-clause-main : goal.returns-clause-main
returns-clause-main c = identity_is_main
