use Rattle.cd_regex.proofs.Holding.{batch_holds}
use Rattle.cd_regex.proofs.laws.states_hold_sequences.Goals as goal

pub returns : goal.returns
returns c = λ first is asks. batch_holds is first asks
