use Rattle.cd_matching.proofs.ResolvedPatterns.{resolved_kept}
use Rattle.cd_matching.proofs.laws.resolving_is_kept.Goals as goal

pub returns : goal.returns
returns c = resolved_kept
