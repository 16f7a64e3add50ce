use Rattle.cd_matching.proofs.ResolvedPatterns.{resolved_stands}
use Rattle.cd_matching.proofs.laws.resolved_patterns_stand.Goals as goal

pub returns : goal.returns
returns c = resolved_stands
