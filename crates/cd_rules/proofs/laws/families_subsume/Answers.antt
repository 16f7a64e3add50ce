use Rattle.cd_rules.proofs.Subsumption.{subsumes_own}
use Rattle.cd_rules.proofs.laws.families_subsume.Goals as goal

pub returns : goal.returns
returns c = subsumes_own
